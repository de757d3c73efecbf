-- `cut` meets its contract: the loop walks the dots that are seen beside the run.
use mathlib.Core.Path.{◌≡◌, ap, sym, ◌∙◌}
use mathlib.Core.List.{List}
use mathlib.Core.Logic.{inl, inr}
use Prim.Native.Nat.{ℕ, ◌*◌, ◌/◌, ◌<◌}
use lib.ListN.{length, get_or, take}
use lib.Seq.{take-length}
use native.Mathlib.Omega.{arith}
use borrow.Author.Rules.{rules}
use Rattle.clock.specs.declared.Dot.{Dot}
use Rattle.clock.specs.Dots.{no_dot}
use Rattle.records.specs.Records.{record_from}
use Rattle.clockimage.specs.Image.{dot_of}
use Rattle.runs.specs.Run.{run_dots}
use Rattle.marks.proofs.Dots.{run_at, length_run, few-dots}
use Rattle.marks.proofs.Cutting.{cutting-start, cutting-past, cutting-alone, cutting-off, cutting-on, cutting-end}
use Rattle.marks.proofs.cut.Goals.{then-d-e-2, else-d-e-2, then-loop-i-test+else-j-m, else-loop-i-test}
use Rattle.marks.proofs.cut.Goals as goal

pub loop-i-init : goal.loop-i-init
loop-i-init g c = (search rules, λ by lawful count told. cutting-start (rw (take-length by) lawful) c.requires.run.1)

-- both places are in use, and their dots were read
record Level (s : List ℕ) (by : List Dot) (i j : ℕ) (d e : Dot) : Type 0 where
  pub ours : i < length (run_dots s)
  pub theirs : j < length (take (length by) by)
  pub actor : (get_or (run_dots s) i no_dot).actor ≡ d.actor
  pub counter : (get_or (run_dots s) i no_dot).counter ≡ d.counter
  pub other-actor : (get_or by j no_dot).actor ≡ e.actor
  pub other-counter : (get_or by j no_dot).counter ≡ e.counter

level : (s : List ℕ) (by : List Dot) {i j m : ℕ} {d e : Dot} → length by ≡ m → i < length s / 16 → j < m
    → d ≡ dot_of (record_from s (i * 16)) → e ≡ get_or by j no_dot → Level s by i j d e
level s by {i} count h k f t =
    let u = run_at s i h ∙ sym f in
    record {
      ours = omega (arith, length_run s);
      theirs = rw (take-length by) (omega (arith, count));
      actor = ap (λ x. x.actor) u;
      counter = ap (λ x. x.counter) u;
      other-actor = sym (ap (λ x. x.actor) t);
      other-counter = sym (ap (λ x. x.counter) t);
    }

pub loop-i-preserved-then-e-d : goal.loop-i-preserved-then-e-d
loop-i-preserved-then-e-d g c = (
  c.loop-i.invariant.0,
  λ by lawful count told.
      let q = level c.args.run.now by count c.loop-i-test.true c.if-j-m.true c.dot_at-d.ensures (told _ _ c.if-j-m.true c.seen-e.ensures) in
      cutting-past (c.loop-i.invariant.1 by lawful count told) q.ours q.theirs (omega (arith, c.if-e-d.true, q.actor, q.other-actor)),
)

pub loop-i-preserved-then-d-e : goal.loop-i-preserved-then-d-e
loop-i-preserved-then-d-e g c = (
  c.loop-i.invariant.0,
  λ by lawful count told.
      let q = level c.args.run.now by count c.loop-i-test.true c.if-j-m.true c.dot_at-d.ensures (told _ _ c.if-j-m.true c.seen-e.ensures) in
      cutting-alone (c.loop-i.invariant.1 by lawful count told) q.ours (λ k. omega (arith, c.if-d-e.true, q.actor, q.other-actor)),
)

pub loop-i-preserved : goal.loop-i-preserved
loop-i-preserved g c = (
  c.loop-i.invariant.0,
  λ by lawful count told.
      let v = c.loop-i.invariant.1 by lawful count told in
      let q = level c.args.run.now by count c.loop-i-test.true c.if-j-m.true c.dot_at-d.ensures (told _ _ c.if-j-m.true c.seen-e.ensures) in
      let same : (get_or by c.loop-i.j no_dot).actor ≡ (get_or (run_dots c.args.run.now) c.loop-i.i no_dot).actor =
      omega (arith, c.if-e-d.false, c.if-d-e.false, q.actor, q.other-actor) in
      elim c.if-d-e-2.branch [
        | then-d-e-2 w ↦ rw w.left-is
            (cutting-off v q.ours q.theirs same (omega (arith, w.if-d-e-2.true, q.counter, q.other-counter))
            (omega (arith, c.loop-i.invariant.0, few-dots c.args.run.now _ c.requires.run.0 c.loop-i.invariant.0, q.ours)))
        | else-d-e-2 w ↦ rw w.left-is
            (cutting-on v q.ours q.theirs same (omega (arith, w.if-d-e-2.false, q.counter, q.other-counter)))
      ],
)

pub returns : goal.returns
returns g c = λ by lawful count told.
    let v = c.loop-i.invariant.1 by lawful count told in
    let few = few-dots c.args.run.now _ c.requires.run.0 c.loop-i.invariant.0 in
    elim c.loop-i-test.branch [
      | then-loop-i-test+else-j-m w ↦ rw (take-length by) at
          (cutting-end v (inr (rw (take-length by) (omega (arith, count, w.if-j-m.false)))) few)
      | else-loop-i-test w ↦ rw (take-length by) at
          (cutting-end v (inl (omega (arith, length_run c.args.run.now, w.loop-i-test.false))) few)
    ]
