-- What a removal holds of a run: how long the run is, a whole run of a queue, and what is left as a clock.
use mathlib.Core.Path.{◌≡◌, ap, ap₂, sym, ◌∙◌, subst}
use mathlib.Core.Bool.{Bool, true, false, not, cond}
use mathlib.Core.List.{List, [], map}
use Prim.Native.Nat.{ℕ, ◌+◌, ◌*◌, ◌-◌, ◌≤◌, ◌<◌}
use native.Mathlib.Omega.{arith}
use borrow.Author.Tests.{lt-ltb, le-ltb, eqb-true, eqb-false}
use lib.Dec.{ltb, eqb}
use lib.ListN.{length, get_or, take, drop, length-take, length-drop}
use Rattle.clock.specs.declared.Dot.{Dot}
use Rattle.limits.specs.Limits.{dot_limit, waiting_limit}
use Rattle.clock.specs.Dots.{is_empty, cut_dots}
use Rattle.removals.specs.declared.Removal.{Removal}
use Rattle.removals.specs.Model.{no_removal, under_of}
use Rattle.removals.specs.Waits.{clock_before, cut_removal}
use Rattle.records.specs.Records.{bytes_of}
use Rattle.records.specs.Writing.{Wrote}
use Rattle.clockimage.specs.Image.{dot_records}
use Rattle.runs.specs.Run.{run_dots}
use Rattle.marks.specs.Marks.{marks_set}
use Rattle.marks.proofs.Picks.{picked_all, length-picked}
use Rattle.marks.proofs.Dots.{length_run}
use Rattle.walks.specs.Walk.{between}
use Rattle.queued.specs.declared.Queue.{Queue}
use Rattle.queued.specs.Queue.{RunLies, Queued}
use Rattle.queued.proofs.Taking.{lying-dots, lying-lawful}
use Rattle.planned.specs.declared.Held.{Held}
use Rattle.planned.specs.declared.Ordered.{Ordered}
use Rattle.planned.specs.Planned.{held_in, dots_left, HeldLies}
use Rattle.planned.proofs.Leaving.{changed-at, cut-under}
use Rattle.planned.specs.Left.{left_in, whole_run, RunWithin, Clear, Left, Lined}

module _ {s : List ℕ} {x : Held} (h : RunWithin s x) where
  -- how many dots its run has
  pub run_long : length (run_dots (between s x.from x.to)) ≡ x.to - x.from
  run_long =
      let a = h.order in
      let b = h.within in
      omega (
        arith,
        length_run (between s x.from x.to),
        length-take (x.to * 16 - x.from * 16) (drop (x.from * 16) s),
        length-drop
            (x.from * 16) s,
      )

  -- as many are left as marks are set
  pub left-count : {r : ℕ} → r ≡ marks_set (take (x.to - x.from) x.marks) → r ≡ length (left_in s x)
  left-count e = e ∙ ap (λ n. marks_set (take n x.marks)) (sym run_long) ∙ sym (length-picked x.marks (run_dots (between s x.from x.to)))

-- a dot is left, or none
pub some_left : (l : List Dot) {n : ℕ} → n ≡ length l → ltb 0 n ≡ not (is_empty l)
unfolding is_empty
some_left l {n} e = rw e (go (eqb (length l) 0) (λ i. eqb (length l) 0))
  where
    go : (b : Bool) → eqb (length l) 0 ≡ b → ltb 0 (length l) ≡ not b
    go true t = let k = eqb-true (length l) 0 t in le-ltb 0 (length l) (omega arith)
    go false t = let k = eqb-false (length l) 0 t in lt-ltb 0 (length l) (omega (arith, k))

-- the whole run of a queue's removal
module _ {s : List ℕ} {from to : ℕ} {d : List Dot} (b : Bool) (r : RunLies s from to d) where
  pub whole-within : RunWithin s (whole_run b from to)
  whole-within = let k = r.few in record { order = r.order; few = omega arith; within = r.within }

  pub whole-clear : Clear s (whole_run b from to)
  whole-clear = record { placed = whole-within; lawful = lying-lawful r }

  pub whole-left : left_in s (whole_run b from to) ≡ d
  whole-left =
      picked_all (run_dots (between s from to)) dot_limit (let k = r.few in omega (arith, run_long whole-within)) ∙ lying-dots r

-- what holds in the image that it names
module _ {s t : List ℕ} {x : Held} {d : List Dot} where
  lies_in : RunWithin (held_in s t x) x → left_in (held_in s t x) x ≡ d → HeldLies s t x d
  lies_in h e = record { order = h.order; few = h.few; within = h.within; dots = e }

  pub lies-first : x.second ≡ false → RunWithin s x → left_in s x ≡ d → HeldLies s t x d
  lies-first f h e =
      let q : held_in s t x ≡ s = ap (λ b. cond b t s) f in lies_in (subst (λ u. RunWithin u x) (sym q) h) (subst (λ u. left_in u x ≡ d) (sym q) e)

  pub lies-second : x.second ≡ true → RunWithin t x → left_in t x ≡ d → HeldLies s t x d
  lies-second f h e =
      let q : held_in s t x ≡ t = ap (λ b. cond b t s) f in lies_in (subst (λ u. RunWithin u x) (sym q) h) (subst (λ u. left_in u x ≡ d) (sym q) e)

  pub left-lies : Left s x d → HeldLies s t x d
  left-lies h = lies-first h.first h.placed h.dots

-- a run that was cut lies where it lay
pub within_same : {s : List ℕ} {x r : Held} → RunWithin s x → r.from ≡ x.from → r.to ≡ x.to → RunWithin s r
within_same h e f = let a = h.order in let b = h.few in let c = h.within in record { order = omega arith; few = omega arith; within = omega arith }

-- and a queue's removal that was cut holds its cut clock
pub cut_left : {s : List ℕ} (w : List Removal) {from to : ℕ} (c : List Dot) {x r : Held} (k : ℕ) → k < length w
    → RunLies s from to (under_of (get_or w k no_removal)) → x ≡ whole_run false from to
    → (r.second ≡ x.second) × ((r.from ≡ x.from) × (r.to ≡ x.to)) → left_in s r ≡ cut_dots c (left_in s x)
    → Left s r (get_or (map under_of (map (cut_removal c) w)) k [])
cut_left {s} w c {x} {r} k h run e same cut = record {
  first = same.0 ∙ ap (λ (y : Held). y.second) e;
  placed = within_same {x = x} (rw e (whole-within false run)) same.1.0 same.1.1;
  dots = cut ∙ ap (λ y. cut_dots c (left_in s y)) e ∙ ap (cut_dots c) (whole-left false run) ∙ sym (cut-under c (get_or w k no_removal))
      ∙ sym (changed-at (cut_removal c) w k h);
}

-- what is told of two that hold clocks
pub told-before : {s : List ℕ} {x y : Held} {d e : List Dot} → Left s x d → Left s y e → {b : Bool} → b ≡ clock_before (left_in s x) (left_in s y)
    → b ≡ clock_before d e
told-before h k t = t ∙ ap₂ clock_before h.dots k.dots

-- so many are in use
pub lined-places : {s : List ℕ} {all : Ordered} {l : List (List Dot)} → Lined s all l → {n : ℕ} → ((n ≤ waiting_limit) × (n ≤ all.len))
    × (all.len ≤ waiting_limit → n ≡ all.len) → n ≡ length l
lined-places h g = let a = h.count in let b = h.few in g.1 (omega arith) ∙ a

pub queue-places : {s : List ℕ} {q : Queue} {w : List Removal} → Queued s q w → {n : ℕ} → ((n ≤ waiting_limit) × (n ≤ q.len))
    × (q.len ≤ waiting_limit → n ≡ q.len) → n ≡ length w
queue-places h g = let a = h.count in let b = h.few in g.1 (omega arith) ∙ a

-- the whole run at a place of a queue
module _ {s : List ℕ} {q : Queue} {w : List Removal} (h : Queued s q w) (b : Bool) {i a : ℕ} {x : Held}
    (e : x ≡ whole_run b (get_or q.starts a 0) (get_or q.starts (a + 1) 0))
    (ea : i < waiting_limit → a ≡ i) (k : i < length w) where
  whole-at : x ≡ whole_run b (get_or q.starts i 0) (get_or q.starts (i + 1) 0)
  whole-at = let f = h.few in e ∙ ap (λ n. whole_run b (get_or q.starts n 0) (get_or q.starts (n + 1) 0)) (ea (omega arith))

  pub run-clear : Clear s x
  run-clear = rw whole-at (whole-clear b (h.each i k))

  pub run-left : left_in s x ≡ under_of (get_or w i no_removal)
  run-left = rw whole-at (whole-left b (h.each i k))

-- what is asked and written of the image that it names
module _ (s t : List ℕ) (x : Held) where
  second-image : x.second ≡ true → held_in s t x ≡ t
  second-image e = ap (λ b. cond b t s) e

  first-image : x.second ≡ false → held_in s t x ≡ s
  first-image e = ap (λ b. cond b t s) e

  pub asks-second : (at room : ℕ) → x.second ≡ true → RunWithin (held_in s t x) x × (at + length (dots_left s t x) * 16 ≤ room) → RunWithin t x
      × (at + length (left_in t x) * 16 ≤ room)
  asks-second at room e p = subst (λ u. RunWithin u x × (at + length (left_in u x) * 16 ≤ room)) (second-image e) p

  pub asks-first : (at room : ℕ) → x.second ≡ false → RunWithin (held_in s t x) x × (at + length (dots_left s t x) * 16 ≤ room) → RunWithin s x
      × (at + length (left_in s x) * 16 ≤ room)
  asks-first at room e p = subst (λ u. RunWithin u x × (at + length (left_in u x) * 16 ≤ room)) (first-image e) p

  module _ (index : ℕ) {at next : ℕ} {entry exit : List ℕ} where
    pub wrote-second : x.second ≡ true → Wrote at (bytes_of (dot_records 5 index 0 (left_in t x))) entry exit next
        → Wrote at (bytes_of (dot_records 5 index 0 (dots_left s t x))) entry exit next
    wrote-second e w = subst (λ u. Wrote at (bytes_of (dot_records 5 index 0 (left_in u x))) entry exit next) (sym (second-image e)) w

    pub wrote-first : x.second ≡ false → Wrote at (bytes_of (dot_records 5 index 0 (left_in s x))) entry exit next
        → Wrote at (bytes_of (dot_records 5 index 0 (dots_left s t x))) entry exit next
    wrote-first e w = subst (λ u. Wrote at (bytes_of (dot_records 5 index 0 (left_in u x))) entry exit next) (sym (first-image e)) w
