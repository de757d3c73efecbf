-- The put of an update where it lies in the operation's image.
use mathlib.Core.Path.{◌≡◌, ap, sym, ◌∙◌}
use mathlib.Core.Bool.{true, false}
use mathlib.Core.List.{List, ◌∷◌, map}
use Prim.Native.Nat.{ℕ, ◌+◌, ◌*◌, ◌-◌, ◌/◌, ◌≤◌, ◌<◌}
use native.Mathlib.Omega.{arith}
use lib.ListN.{length, drop, get_or, length-map, length-drop}
use lib.Seq.{length-take-le}
use borrow.Author.Tests.{eq-eqb, ne_eqb}
use Rattle.limits.specs.Limits.{dot_limit}
use Rattle.clock.specs.Dots.{dots_of, is_empty}
use Rattle.entries.specs.declared.Update.{Update}
use Rattle.map.specs.Valid.{UpdateWithin}
use Rattle.records.specs.declared.Record.{Record}
use Rattle.records.specs.Records.{record_from, records_from, records_of}
use Rattle.records.proofs.Joined.{length-records}
use Rattle.clockimage.specs.Image.{dot_of, dot_record, dot_records, content_of}
use Rattle.clockimage.proofs.RoundTrip.{dots-back}
use Rattle.opimage.specs.OpImage.{no_record, update_head, put_value, update_records}
use Rattle.runs.specs.Run.{run_dots}
use Rattle.walks.specs.Walk.{part, between}
use Rattle.walks.proofs.Loops.{slice-part, part-on}
use Rattle.marks.proofs.Dots.{length_run}
use Rattle.updating.specs.Updated.{PutLies}

module _ (op : List ℕ) {u : Update} (h : UpdateWithin u) (e : update_records u ≡ records_of op) where
  abbrev n : ℕ
  n = length op / 16

  many : 2 + length (dots_of u.put.clock) ≡ n
  many = let k = length-map (dots_of u.put.clock) (dot_record 12 0 0) in let a = ap length e in omega (arith, k, a, length-records op 0 n)

  whole : update_head u ∷ (put_value u ∷ dot_records 12 0 0 (dots_of u.put.clock)) ≡ record_from op 0 ∷ (record_from op 16 ∷ part op 2 n)
  whole = let m = many in let all : n ≡ n - 0 = omega arith in e ∙ ap (records_from op 0) all ∙ part-on op 0 n (omega arith)
      ∙ ap (λ l. record_from op 0 ∷ l) (part-on op 1 n (omega arith))

  pub put-lies : PutLies op u
  put-lies =
      let m = many in
      let f = h.dots in
      record {
        some = omega arith;
        few = omega arith;
        value = sym (ap (λ (l : List Record). content_of (get_or l 1 no_record)) whole);
        dots = ap (map dot_of) (slice-part op 2 n (omega arith) (omega arith) ∙ sym (ap (drop 2) whole)) ∙ dots-back 12 0 0 (dots_of u.put.clock);
        lawful = h.valid.clock;
      }

-- how many dots it has
module _ {op : List ℕ} {u : Update} (h : PutLies op u) where
  put-bytes : length (between op 2 (length op / 16)) ≡ length op / 16 * 16 - 32
  put-bytes = let s = h.some in length-take-le _ (drop 32 op) (omega (arith, length-drop 32 op))

  put_count : length (dots_of u.put.clock) ≡ length op / 16 - 2
  put_count = sym (ap length h.dots) ∙ length_run (between op 2 (length op / 16)) ∙ omega (arith, put-bytes)

  pub put-short : length (between op 2 (length op / 16)) ≤ dot_limit * 16
  put-short = let f = h.few in omega (arith, put-bytes)

  pub put-few : length (run_dots (between op 2 (length op / 16))) ≤ dot_limit
  put-few = let f = h.few in omega (arith, put_count, ap length h.dots)

  pub put-empty : length op / 16 ≤ 2 → is_empty (dots_of u.put.clock) ≡ true
  unfolding is_empty
  put-empty n = eq-eqb (length (dots_of u.put.clock)) 0 (omega (arith, put_count))

  pub put_full : 2 < length op / 16 → is_empty (dots_of u.put.clock) ≡ false
  unfolding is_empty
  put_full n = ne_eqb (length (dots_of u.put.clock)) 0 (λ q. absurd (omega (arith, q, put_count)))
