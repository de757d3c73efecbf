-- What becomes of each record: removed, changed in its index, or as it came; and that records all of which are as they came ascend.
use mathlib.Core.Path.{◌≡◌, refl, ap, ap₂, sym, ◌∙◌}
use mathlib.Core.Bool.{Bool, true, false, cond, not, ◌&&◌}
use mathlib.Core.List.Memᴰ
use mathlib.Core.List.{List, [], ◌∷◌, ◌++◌, map}
use mathlib.Core.List.Permᴰ
use mathlib.Core.List.{Permᴰ}
use Prim.Native.Nat.{ℕ, ◌≤◌}
use native.Mathlib.Omega.{arith}
use lib.Dec.{eqb}
use lib.ListN.{length, length-map}
use borrow.Author.Tests.{eqb-false}
use Rattle.listlaws.specs.Order.{◌∈◌, Ascending}
use Rattle.listlaws.specs.Fold.{fold}
use Rattle.listlaws.proofs.Orders.{apart}
use Rattle.records.specs.declared.Record.{Record}
use Rattle.records.specs.Kinds.{before}
use Rattle.records.proofs.RoundTrips.{by-fields}
use Rattle.scan.proofs.Eachs.{decide}
use Rattle.salvagerules.specs.Fates.{Fate, untouched, gone_by, staying, tested, taken_after}
use Rattle.salvagerules.specs.Needs.{kept_by_four}
use Rattle.salvagerules.specs.Indexes.{new_index, with_index, kept_by_five}
use Rattle.salvagerules.specs.Steps.{step_two, step_three, step_four, step_five, fates_of, renumbered, insert_by, in_order_by, salvaged}
use Rattle.salvagelaws.specs.Accounts.{Became, Paired, nothing, also}
use Rattle.salvagelaws.proofs.Walks.{kept_after}
use Rattle.salvagelaws.proofs.Stages.{good_alone, above_kept, left_by_two, left_by_three, left_by_four}
use Rattle.salvagelaws.proofs.Stages.{united, renamed, closed, staying-came, staying-five}
use Rattle.salvagelaws.proofs.Stages.{three-ascends}
use Rattle.salvagelaws.proofs.Unchanged.{order_same}

-- up to step 5: as it came, and untold where it stays
record Stood (r : Record) (f : Fate) : Type 0 where
  as-came : f.item ≡ r
  here : f.stays ≡ true → f.step ≡ 0
  went : f.stays ≡ false → (2 ≤ f.step) × (f.step ≤ 5)

all-stood : (l : List Record) → Paired Stood l (map untouched l)
all-stood [] = nothing
all-stood (r ∷ l) = also (record { as-came = refl; here = λ t. refl; went = λ t. apart t }) (all-stood l)

module _ (n : ℕ) (low : 2 ≤ n) (high : n ≤ 5) (test : List Record → Record → Bool) where
  stood-tested : (seen : List Record) {r : Record} {f : Fate} → Stood r f → Stood r (tested n test seen f)
  stood-tested seen {r} {f} s = go (f.stays && not (test seen f.item))
    where
      go : (b : Bool) → Stood r (cond b (gone_by n f) f)
      go true = record { as-came = s.as-came; here = λ t. apart (sym t); went = λ t. (low, high) }
      go false = s

  stood-taken : (seen : List Record) {l : List Record} {m : List Fate} → Paired Stood l m → Paired Stood l (taken_after n test seen m)
  unfolding taken_after
  stood-taken seen nothing = nothing
  stood-taken seen (also {x = r} {y = f} s p) =
      also (stood-tested seen s) (stood-taken (seen ++ staying (tested n test seen f ∷ [])) p)

came-named : (k : List Record) {r : Record} {f : Fate} → Stood r f → Became r (renumbered k f)
came-named k {r} {f} s = go f.stays (eqb (new_index k f.item) f.item.index) refl refl
  where
    own : (q : Record) → q ≡ r → q ≡ with_index q.index r
    own q e = by-fields (ap (λ (a : Record). a.kind) e) refl (ap (λ (a : Record). a.actor) e) (ap (λ (a : Record). a.key) e)
        (ap (λ (a : Record). a.number) e)

    here : (stays : Bool) → f.stays ≡ stays → f.step ≡ 0 → f.stays ≡ true
    here true e z = e
    here false e z = absurd (let w = (s.went e).0 in omega arith)

    same : Became r f
    same = record {
      like = own f.item s.as-came;
      untold = λ z. (here f.stays refl z, s.as-came);
      changed = λ t n. absurd (n (s.here t));
      gone = s.went;
    }

    go : (b c : Bool) → f.stays ≡ b → eqb (new_index k f.item) f.item.index ≡ c
        → Became r (cond (b && not c) (record { item = with_index (new_index k f.item) f.item; stays = true; step = 5 }) f)
    go true false e d = record {
      like = ap (with_index (new_index k f.item)) s.as-came;
      untold = λ z. absurd (omega arith);
      changed = λ t n. (refl, λ q. eqb-false (new_index k f.item) f.item.index d (q ∙ ap (λ (a : Record). a.index) (sym s.as-came)));
      gone = λ t. apart t;
    }
    go true true e d = same
    go false c e d = same

all_named : (k : List Record) {l : List Record} {m : List Fate} → Paired Stood l m → Paired Became l (map (renumbered k) m)
all_named k nothing = nothing
all_named k (also s p) = also (came-named k s) (all_named k p)

-- each record of the input, and what became of it
pub all-came : (l : List Record) → Paired Became l (fates_of l)
unfolding fates_of step_two step_three step_four step_five
all-came l =
    let two = stood-taken 2 (omega arith) (omega arith) good_alone [] (all-stood l) in
    let three = stood-taken 3 (omega arith) (omega arith) above_kept [] two in
    let four = stood-taken 4 (omega arith) (omega arith) (kept_by_four (staying (step_three (step_two (map untouched l))))) [] three in
    let last = staying (step_four (step_three (step_two (map untouched l)))) in
    all_named last (stood-taken 5 (omega arith) (omega arith) (kept_by_five last) [] four)

pub paired-length : {A B : Type 0} {R : A → B → Type 0} {l : List A} {m : List B} → Paired R l m → length l ≡ length m
paired-length nothing = refl
paired-length (also r p) = let e = paired-length p in omega arith

-- what is written are the records that stay, in another order
insert-perm : {A : Type 0} (first : A → A → Bool) (x : A) (l : List A) → Permᴰ (insert_by first x l) (x ∷ l)
unfolding insert_by
insert-perm first x [] = Permᴰ.refl (x ∷ [])
insert-perm first x (y ∷ l) =
    decide (first x y) (λ t. rw t (Permᴰ.refl (x ∷ (y ∷ l))))
    (λ f. rw f (Permᴰ.trans (Permᴰ.cons refl (insert-perm first x l)) (Permᴰ.swap refl refl)))

append-perm : {A : Type 0} (s : List A) (x : A) (l : List A) → Permᴰ ((x ∷ s) ++ l) (s ++ (x ∷ l))
append-perm [] x l = Permᴰ.refl (x ∷ l)
append-perm (y ∷ s) x l = Permᴰ.trans (Permᴰ.swap refl refl) (Permᴰ.cons refl (append-perm s x l))

perm-left : {A : Type 0} {s t : List A} (l : List A) → Permᴰ s t → Permᴰ (s ++ l) (t ++ l)
perm-left l Permᴰ.nil = Permᴰ.refl l
perm-left l (Permᴰ.cons e d) = Permᴰ.cons e (perm-left l d)
perm-left l (Permᴰ.swap e f) = Permᴰ.swap e f
perm-left l (Permᴰ.trans d e) = Permᴰ.trans (perm-left l d) (perm-left l e)

grown-perm : {A : Type 0} (first : A → A → Bool) (s l : List A) → Permᴰ (fold (λ s x. insert_by first x s) s l) (s ++ l)
unfolding fold
grown-perm first s [] = rw (mathlib.Core.List.append-nil s) (Permᴰ.refl s)
grown-perm first s (x ∷ l) =
    Permᴰ.trans (grown-perm first (insert_by first x s) l)
    (Permᴰ.trans (perm-left l (insert-perm first x s)) (append-perm s x l))

pub written-perm : (l : List Record) → Permᴰ (salvaged l) (staying (fates_of l))
unfolding salvaged in_order_by
written-perm l = grown-perm before [] (staying (fates_of l))

-- where no step is told, each is as it came
pub all-untold : {l : List Record} {m : List Fate} → Paired Became l m → ((f : Fate) → f ∈ m → f.step ≡ 0) → m ≡ map untouched l
all-untold nothing h = refl
all-untold (also {x = r} {y = f} {l = l} {m = m} c p) h =
    let z = h f (Memᴰ.head refl) in
    let u = c.untold z in
    let own : f ≡ untouched r = λ i. record { item = u.1 i; stays = u.0 i; step = z i } in
    ap₂ ◌∷◌ own (all-untold p (λ g i. h g (Memᴰ.tail i)))

-- as many as there were
module _ {A : Type 0} (test : List A → A → Bool) where
  kept-short : (seen l : List A) → length (kept_after test seen l) ≤ length l
  unfolding kept_after
  kept-short seen [] = omega arith
  kept-short seen (x ∷ l) =
      decide (test seen x) (λ t. let b = kept-short (seen ++ (x ∷ [])) l in rw t (omega arith)) (λ f. let b = kept-short seen l in rw f (omega arith))

  kept_full : (seen l : List A) → length l ≤ length (kept_after test seen l) → kept_after test seen l ≡ l
  unfolding kept_after
  kept_full seen [] h = refl
  kept_full seen (x ∷ l) h =
      decide (test seen x)
      (λ t. let g = rw t at h in rw t (ap (λ m. x ∷ m) (kept_full (seen ++ (x ∷ [])) l (omega arith))))
      (λ f. let g = rw f at h in absurd (let b = kept-short seen l in omega arith))

module _ (l : List Record) (all : fates_of l ≡ map untouched l) where
  whole : closed (left_by_four l) ≡ l
  whole = sym (staying-five l) ∙ ap staying all ∙ staying-came l

  three-whole : left_by_three l ≡ l
  three-whole =
      let k = left_by_four l in
      let n = ap length whole in
      let m = length-map (united k) (renamed k) in
      let five = kept-short (kept_by_five k) [] k in
      let four = kept-short (kept_by_four (left_by_three l)) [] (left_by_three l) in
      let three = kept-short above_kept [] (left_by_two l) in
      let two = kept_full good_alone [] l (omega arith) in
      kept_full above_kept [] (left_by_two l) (let b = ap length two in omega arith) ∙ two

  pub untold-ascends : Ascending before l
  untold-ascends = rw three-whole at (three-ascends l)

  pub untold-same : salvaged l ≡ l
  unfolding salvaged
  untold-same = ap (λ f. in_order_by before (staying f)) all ∙ ap (in_order_by before) (staying-came l) ∙ order_same l untold-ascends
