-- The least above the last, again and again, is the list in order.
use mathlib.Core.Path.{◌≡◌, refl, ap, sym, ◌∙◌}
use mathlib.Core.Bool.{true, ◌&&◌}
use mathlib.Core.Logic.{◌⊎◌, inl, inr, ⊎_elim}
use mathlib.Core.List.Memᴰ
use mathlib.Core.List.{List, [], ◌∷◌, ◌++◌}
use Prim.Native.Nat.{ℕ, zero, suc, ◌+◌, ◌-◌, ◌*◌, ◌≤◌, ◌<◌}
use native.Mathlib.Omega.{arith}
use borrow.Author.Tests.{leb-true}
use lib.Dec.{leb}
use lib.ListN.{length}
use Rattle.listlaws.specs.Fold.{fold}
use Rattle.listlaws.specs.Order.{◌∈◌, Ascending, Strict}
use Rattle.listlaws.specs.Sift.{those}
use Rattle.listlaws.proofs.Orders.{apart, head-before, tail-ascends}
use Rattle.listlaws.proofs.Those.{those-all}
use Rattle.records.specs.declared.Record.{Record}
use Rattle.records.specs.Kinds.{before, record_ok}
use Rattle.records.specs.Records.{records_of, bytes_of}
use Rattle.records.proofs.RoundTrips.{length-bytes}
use Rattle.salvagerules.specs.Calls.{salvaged_image}
use Rattle.opimage.specs.OpImage.{no_record}
use Rattle.scan.proofs.Eachs.{decide, both_left, both_right}
use Rattle.scan.proofs.Befores.{before-fields}
use Rattle.salvagerules.specs.Fates.{staying}
use Rattle.salvagerules.specs.Steps.{in_order_by, fates_of, salvaged}
use Rattle.salvagelaws.proofs.Sorts.{order-means, order-holds, order-count}
use Rattle.salvagelaws.proofs.Stages.{left_by_four, closed, staying-five, salvaged-is}
use Rattle.salvagelaws.proofs.Fourth.{four-supplied, lower-kind}
use Rattle.salvagelaws.proofs.Fifth.{records-lead, written-ascends}
use Rattle.salvagelaws.proofs.Limited.{written-good}
use Rattle.culling.specs.Marks.{marked_of}
use Rattle.mending.specs.Fated.{Tells}
use Rattle.salvage.specs.Selecting.{kept_of, top_record, lesser_of, least_above, select_from}
use Rattle.salvage.proofs.Kept.{kept-staying}

-- no two records stand before each other
before-strict : Strict before
before-strict x y t =
    decide (before y x) (λ u. absurd (let f = before-fields (records-lead x y x t u) in let a = f.actor refl refl refl in omega arith)) (λ u. u)

module _ (last x : Record) (above : before last x ≡ true) where
  -- once it is met, nothing lesser comes
  stays-least : (l : List Record) → ((y : Record) → y ∈ l → before last y ≡ true → (y ≡ x) ⊎ (before x y ≡ true)) → fold (lesser_of last) x l ≡ x
  unfolding fold
  stays-least [] h = refl
  stays-least (y ∷ l) h = rw here (stays-least l (λ z i. h z (Memᴰ.tail i)))
    where
      here : lesser_of last x y ≡ x
      here =
          decide (before last y)
          (λ t. ⊎_elim (λ (e : y ≡ x). rw e (unequal x)) (λ u. rw (t, before-strict x y u) refl) (h y (Memᴰ.head refl) t))
          (λ t. rw t refl)
        where
          unequal : (w : Record) → lesser_of last w w ≡ w
          unequal w = decide (before last w && before w w) (λ a. rw a refl) (λ a. rw a refl)

  -- it is met
  found-least : (l : List Record) (best : Record) → before x best ≡ true → x ∈ l
      → ((y : Record) → y ∈ l → before last y ≡ true → (y ≡ x) ⊎ (before x y ≡ true)) → fold (lesser_of last) best l ≡ x
  unfolding fold
  found-least [] best b i h = absurd (Memᴰ.not-nil i)
  found-least (y ∷ l) best b i h =
      ⊎_elim
      (λ (e : x ≡ y). rw (← e, above, b) (stays-least l (λ z j. h z (Memᴰ.tail j))))
      (λ j. decide (before last y && before y best)
      (λ t. rw t (⊎_elim
      (λ (e : y ≡ x). ap (λ w. fold (lesser_of last) w l) e ∙ stays-least l (λ z k. h z (Memᴰ.tail k)))
      (λ u. found-least l y u j (λ z k. h z (Memᴰ.tail k)))
      (h y (Memᴰ.head refl) (both_left (before last y) _ t))))
      (λ t. rw t (found-least l best b j (λ z k. h z (Memᴰ.tail k)))))
      (Memᴰ.cases_cons i)

-- an ascending list of the members above the last is what is selected
select-all : (l q : List Record) (last : Record) → Ascending before q → ((x : Record) → x ∈ q → x ∈ l) → ((x : Record) → x ∈ q
    → before last x ≡ true)
    → ((y : Record) → y ∈ l → before last y ≡ true → y ∈ q) → ((x : Record) → x ∈ l → before x top_record ≡ true) → select_from (length q) last l ≡ q
unfolding select_from
select-all l [] last a f g h top = refl
select-all l (x ∷ q) last a f g h top =
    rw (found-least last x (g x (Memᴰ.head refl)) l top_record (top x (f x (Memᴰ.head refl))) (f x (Memᴰ.head refl)) next)
    (ap (λ m. x ∷ m) (select-all l q x (tail-ascends a) (λ y i. f y (Memᴰ.tail i)) (head-before a) further top))
  where
    next : (y : Record) → y ∈ l → before last y ≡ true → (y ≡ x) ⊎ (before x y ≡ true)
    next y i t = ⊎_elim (λ (e : y ≡ x). inl e) (λ j. inr (head-before a y j)) (Memᴰ.cases_cons (h y i t))

    further : (y : Record) → y ∈ l → before x y ≡ true → y ∈ q
    further y i t =
        ⊎_elim
        (λ (e : y ≡ x). let u = ap (before x) (sym e) ∙ t in apart (sym u ∙ before-strict x x u))
        (λ j. j)
        (Memᴰ.cases_cons (h y i (records-lead last x y (g x (Memᴰ.head refl)) t)))

-- kinds of records that are good by themselves
kinds : (x : Record) → record_ok 1 6 x ≡ true → (0 < x.kind) × (x.kind < 255)
unfolding record_ok
kinds x t =
    let a = leb-true 1 x.kind (both_left (leb 1 x.kind) _ t) in
    let b = leb-true x.kind 6 (both_left (leb x.kind 6) _ (both_right (leb 1 x.kind) _ t)) in
    (omega arith, omega arith)

all_true : (l : List Record) → length (those (λ r. true) l) ≡ length l
all_true l = ap length (those-all (λ r. true) l (λ x i. refl))

pub selected : (marks s : List ℕ) → Tells marks s (fates_of (records_of s))
    → select_from (length (kept_of (marked_of marks s))) no_record (kept_of (marked_of marks s)) ≡ salvaged (records_of s)
selected marks s h =
    let rs = records_of s in
    let k = left_by_four rs in
    let c = closed k in
    let p = four-supplied rs in
    let e = kept-staying (marked_of marks s) ∙ ap staying h.fates ∙ staying-five rs in
    let n = sym (all_true c) ∙ sym (order-count before (λ r. true) c) ∙ all_true (in_order_by before c) in
    ap (λ m. select_from (length m) no_record m) e ∙ ap (λ j. select_from j no_record c) n
    ∙ select-all c (in_order_by before c) no_record (written-ascends k p) (λ x i. order-means before c i)
    (λ x i. lower-kind no_record x (kinds x (written-good k p x i)).0) (λ y i t. order-holds before c i)
    (λ x i. lower-kind x top_record (kinds x (written-good k p x (order-holds before c i))).1)
    ∙ sym (salvaged-is rs)

-- as many as are asked for
pub length-select : (n : ℕ) (last : Record) (l : List Record) → length (select_from n last l) ≡ n
unfolding select_from
length-select zero last l = refl
length-select (suc n) last l = ap suc (length-select n (least_above last l) l)

pub select-step : (n i : ℕ) (last r : Record) (l : List Record) → i < n → r ≡ least_above last l
    → select_from (n - i) last l ≡ (r ∷ []) ++ select_from (n - (i + 1)) r l
unfolding select_from
select-step n i last r l h e =
    let k : n - i ≡ suc (n - (i + 1)) = omega arith in
    ap (λ m. select_from m last l) k ∙ sym (ap (λ x. x ∷ select_from (n - (i + 1)) x l) e)

pub select-end : (n i : ℕ) (last : Record) (l : List Record) → n ≤ i → select_from (n - i) last l ≡ []
unfolding select_from
select-end n i last l h = let k : n - i ≡ 0 = omega arith in ap (λ m. select_from m last l) k

-- the image that is written, and its length
module _ (marks s : List ℕ) (h : Tells marks s (fates_of (records_of s))) (n : ℕ) (e : n ≡ length (kept_of (marked_of marks s))) where
  pub image-is : bytes_of (select_from n no_record (kept_of (marked_of marks s))) ≡ salvaged_image s
  unfolding salvaged_image
  image-is = ap bytes_of (ap (λ m. select_from m no_record (kept_of (marked_of marks s))) e ∙ selected marks s h)

  pub image-long : length (salvaged_image s) ≡ n * 16
  image-long =
      sym (ap length image-is) ∙ length-bytes (select_from n no_record (kept_of (marked_of marks s)))
      ∙ ap (λ m. m * 16) (length-select n no_record (kept_of (marked_of marks s)))
