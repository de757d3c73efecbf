-- What is counted by: the section of an image's entry dots, and what a removal or a reset leaves of entries.
use mathlib.Core.Path.{◌≡◌, refl, ap, sym, ◌∙◌}
use mathlib.Core.Bool.{false}
use mathlib.Core.List.{List}
use Prim.Native.Nat.{ℕ, ◌+◌, ◌-◌, ◌≤◌}
use native.Mathlib.Omega.{arith}
use borrow.Author.Tests.{ne_eqb}
use lib.ListN.{length}
use Rattle.listlaws.specs.Sift.{sift}
use Rattle.clock.specs.declared.Dot.{Dot}
use Rattle.clock.specs.Dots.{dots_of}
use Rattle.clockimage.specs.ClockImage.{ReadClock}
use Rattle.clockimage.specs.ClockImage.{read_clock}
use Rattle.removals.specs.declared.Removal.{Removal}
use Rattle.entries.specs.Entries.{stays, cut_entry, remove_entries}
use Rattle.entries.proofs.Packs.{entries-of}
use Rattle.map.specs.declared.Map.{Map}
use Rattle.map.specs.Model.{entries_in}
use Rattle.map.specs.Judging.{judged}
use Rattle.map.specs.Removing.{remove}
use Rattle.map.specs.Resetting.{reset}
use Rattle.opimage.specs.OpImage.{ReadOp}
use Rattle.opimage.specs.OpImage.{read_op}
use Rattle.maprecords.specs.Related.{read_map}
use Rattle.answers.specs.Answer.{Answer, number_of, Counted}
use Rattle.answers.proofs.Lengths.{entry-dots}
use Rattle.promises.specs.Calls.{map_answer}
use Rattle.promises.specs.Deleted.{dots_among, entry_dots, apply_deleted, reset_deleted}
use Rattle.promises.proofs.Deletes.{removal-leaves, reset-leaves, apply-deletes, reset-counts}
use Rattle.walks.specs.declared.Layout.{Layout}
use Rattle.walks.proofs.Loops.{length_part}
use Rattle.layout.specs.Whole.{Lies}
use Rattle.drafting.proofs.Results.{applied-removal}

-- the records of kind 2 are the entries' dots
pub section-dots : {s : List ℕ} {m : Map} {l : Layout} → Lies s m l → l.third - l.second ≡ entry_dots m
unfolding entry_dots
section-dots {s} {m} {l} h = sym (length_part s l.second l.third) ∙ ap length (sym h.sections.second) ∙ entry-dots (entries_in m)

-- what is left, by the entries alone
pub removed-among : (m : Map) (r : Removal) → entry_dots (remove m r) ≡ dots_among (remove_entries r (entries_in m))
unfolding entry_dots remove
removed-among m r = ap (λ l. dots_among l) (entries-of (remove_entries r (entries_in m)))

pub reset-among : (m : Map) (c : List Dot) → entry_dots (reset m c) ≡ dots_among (sift stays (cut_entry c) (entries_in m))
unfolding entry_dots reset
reset-among m c = ap (λ l. dots_among l) (entries-of (sift stays (cut_entry c) (entries_in m)))

-- no more than the section has
pub removed-most : {s : List ℕ} {m : Map} {l : Layout} → Lies s m l → (r : Removal) {n : ℕ} → n ≡ l.third - l.second
    → dots_among (remove_entries r (entries_in m)) ≤ n
removed-most {m = m} h r e = omega (arith, e, section-dots h, removed-among m r, removal-leaves m r)

pub reset-most : {s : List ℕ} {m : Map} {l : Layout} → Lies s m l → (c : List Dot) {n : ℕ} → n ≡ l.third - l.second
    → dots_among (sift stays (cut_entry c) (entries_in m)) ≤ n
reset-most {m = m} h c e = omega (arith, e, section-dots h, reset-among m c, reset-leaves m c)

-- what is counted makes up the section
pub removed-rest : {s : List ℕ} {m : Map} {l : Layout} → Lies s m l → (r : Removal) (k : ℕ) {n : ℕ} → n ≡ l.third - l.second
    → entry_dots (remove m r) + k ≡ entry_dots m → dots_among (remove_entries r (entries_in m)) + k ≡ n
removed-rest {m = m} h r k e q = omega (arith, e, section-dots h, removed-among m r, q)

pub reset-rest : {s : List ℕ} {m : Map} {l : Layout} → Lies s m l → (c : List Dot) (k : ℕ) {n : ℕ} → n ≡ l.third - l.second
    → entry_dots (reset m c) + k ≡ entry_dots m → dots_among (sift stays (cut_entry c) (entries_in m)) + k ≡ n
reset-rest {m = m} h c k e q = omega (arith, e, section-dots h, reset-among m c, q)

-- what is counted of images that were read
pub removal-left : (s t : List ℕ) {o : ReadOp} → o ≡ read_op t → o.op.up ≡ false
    → entry_dots (remove (read_map s).map o.op.removal) + apply_deleted s t ≡ entry_dots (read_map s).map
removal-left s t {o} k f =
    let m = (read_map s).map in
    let g = sym (ap (λ (r : ReadOp). r.op.up) k) ∙ f in
    ap (λ (r : ReadOp). entry_dots (remove m r.op.removal) + apply_deleted s t) k ∙ ap (λ x. entry_dots x + apply_deleted s t)
    (sym (applied-removal m (read_op t).op g)) ∙ apply-deletes m (read_op t).op g

pub reset-left : (s t : List ℕ) {k : ReadClock} → k ≡ read_clock t
    → entry_dots (reset (read_map s).map (dots_of k.clock)) + reset_deleted s t ≡ entry_dots (read_map s).map
reset-left s t {k} e =
    ap (λ (r : ReadClock). entry_dots (reset (read_map s).map (dots_of r.clock)) + reset_deleted s t) e ∙ reset-counts (read_map s).map
    (dots_of (read_clock t).clock)

-- the two ways out of a count, by the number of the call beside it
pub refused-uncounted : {a : Answer} {room n k : ℕ} → ((out : List ℕ) → length out ≡ room → k ≡ number_of a out) → (k ≡ 0 → ⊥) → Counted a room n 0
refused-uncounted {k = k} f h = record { counts = λ out l. rw (← f out l, ne_eqb k 0 h) refl }

pub done-counted : {a : Answer} {room n r : ℕ} → ((out : List ℕ) → length out ≡ room → 0 ≡ number_of a out) → r ≡ n → Counted a room n r
done-counted f e = record { counts = λ out l. e ∙ rw (← f out l) refl }

-- of a map by its three lists
pub counted-as : {m n : Map} {room k r : ℕ} → m ≡ n → Counted (map_answer 0 0 (judged n)) room k r → Counted (map_answer 0 0 (judged m)) room k r
counted-as e c = rw e c
