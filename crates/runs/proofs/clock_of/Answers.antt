-- `clock_of` meets its contract: the loop adds a record's dot a turn, in place.
use mathlib.Core.Path.{◌≡◌, ap, sym, ◌∙◌}
use mathlib.Core.List.{List, [], ◌∷◌, ◌++◌, map}
use Prim.Native.Nat.{ℕ, ◌/◌, ◌≤◌, ◌<◌}
use lib.ListN.{length, length-map}
use native.Mathlib.Omega.{arith}
use Rattle.limits.specs.Limits.{dot_limit}
use Rattle.clock.specs.Dots.{clock_of}
use Rattle.clock.specs.declared.Clock.{Clock}
use Rattle.clock.proofs.Packs.{pushed, dot-room}
use Rattle.records.specs.Records.{records_from}
use Rattle.records.proofs.Joined.{length-records}
use Rattle.clockimage.specs.Image.{dot_of}
use Rattle.runs.proofs.Growing.{dots-none, dots-next}
use Rattle.runs.proofs.clock_of.Goals as goal

-- the dots of the first i records, of at most n, are i
dots-count : (s : List ℕ) (i n : ℕ) → i < n → n ≤ dot_limit → length (map dot_of (records_from s 0 i)) < dot_limit
dots-count s i n h k = omega (arith, length-map (records_from s 0 i) dot_of, length-records s 0 i)

pub loop-i-init : goal.loop-i-init
loop-i-init c = (omega arith, c.new-clock.ensures ∙ ap clock_of (sym (dots-none _)))

-- so there is room for one more
room : (s : List ℕ) (i n : ℕ) {x : Clock} → x ≡ clock_of (map dot_of (records_from s 0 i)) → i < n → n ≤ dot_limit
    → (x.len < dot_limit) × (length x.dots ≡ dot_limit)
room s i n e h k = dot-room (map dot_of (records_from s 0 i)) e (dots-count s i n h k)

pub offset_bounds-clock-k : goal.offset_bounds-clock-k
offset_bounds-clock-k c =
    let t = c.before.before in
    omega (arith, room t.args.run.now t.loop-i.i (length t.args.run.now / 16) t.loop-i.invariant.1 (omega arith) (omega arith))

pub bounds-clock-k : goal.bounds-clock-k
bounds-clock-k c =
    let t = c.before.before in
    omega (arith, room t.args.run.now t.loop-i.i (length t.args.run.now / 16) t.loop-i.invariant.1 (omega arith) (omega arith))

pub overflow_add-clock : goal.overflow_add-clock
overflow_add-clock c =
    let t = c.before.before in
    omega (arith, room t.args.run.now t.loop-i.i (length t.args.run.now / 16) t.loop-i.invariant.1 (omega arith) (omega arith))

pub loop-i-preserved : goal.loop-i-preserved
loop-i-preserved c =
    let t = c.before.before in
    let s = t.args.run.now in
    let i = t.loop-i.i in (
      omega arith,
      pushed (map dot_of (records_from s 0 i)) _ t.loop-i.invariant.1 (dots-count s i (length s / 16) (omega arith) (omega arith))
          ∙ ap clock_of (ap (λ r. map dot_of (records_from s 0 i) ++ (dot_of r ∷ [])) c.read_record-r.ensures ∙ sym (dots-next s i)),
    )

pub returns : goal.returns
returns c =
    let s = c.args.run.now in
    let e : c.loop-i.i ≡ length s / 16 = omega arith in
    c.loop-i.invariant.1 ∙ ap (λ k. clock_of (map dot_of (records_from s 0 k))) e
