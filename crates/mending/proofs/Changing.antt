-- The loop that gives each record that stays its index.
use mathlib.Core.Path.{◌≡◌, refl, ap, ap₂, sym, ◌∙◌}
use mathlib.Core.Bool.{true, ◌&&◌, ◌||◌}
use mathlib.Core.List.Memᴰ
use mathlib.Core.List.{List, [], ◌∷◌, ◌++◌, map}
use Prim.Native.Nat.{ℕ, ◌+◌, ◌-◌, ◌≤◌, ◌<◌}
use native.Mathlib.Omega.{arith}
use native.Mathlib.Numerals.{add-one}
use borrow.Author.Tests.{eq-eqb, eqb-true, ne_eqb, le-ltb, le-leb}
use lib.Dec.{eqb, ltb}
use lib.ListN.{length, take, drop, get_or, set, length-set}
use lib.Seq.{take-suc, take-suc-set, take_all, take-length, drop-cons, drop-set-lt, get_or-drop}
use Rattle.listlaws.proofs.Rests.{in_list}
use Rattle.records.specs.declared.Record.{Record}
use Rattle.scan.specs.Each.{every}
use Rattle.scan.proofs.Eachs.{every-at}
use Rattle.salvagerules.specs.Fates.{Fate, staying}
use Rattle.listlaws.specs.Order.{◌∈◌}
use Rattle.listlaws.specs.Sift.{those}
use Rattle.maprecords.specs.Reading.{under_key}
use Rattle.scan.proofs.Eachs.{decide}
use Rattle.salvagelaws.proofs.Fourth.{Supplied}
use Rattle.salvagelaws.proofs.Values.{below-few}
use Rattle.salvagelaws.proofs.Limited.{key-known}
use Rattle.salvagelaws.proofs.Waiting.{index-all, index-few, indexes-few}
use Rattle.salvagerules.specs.Indexes.{new_index, waiting_indexes, waiting_index}
use Rattle.salvagerules.specs.Steps.{renumbered, step_five, fates_of}
use Rattle.culling.specs.Marks.{MarkedRecord, is_left, left_items, plain_fate, plain_fates, after_four}
use Rattle.culling.proofs.Taking.{map-append}
use Rattle.culling.proofs.Marked.{no_marked, left-set}
use Rattle.mending.specs.Fated.{fate_of, united_fates}

-- i of the records have their index; k are those that step 4 left
pub record Changing (k : List Record) (xs₀ : List MarkedRecord) (i : ℕ) (xs : List MarkedRecord) : Type 0 where
  pub passed : map fate_of (take i xs) ≡ map (renumbered k) (plain_fates (take i xs₀))
  pub ahead : drop i xs ≡ drop i xs₀
  pub long : length xs ≡ length xs₀
  pub fourth : left_items 5 xs ≡ k

module _ {k : List Record} {xs₀ : List MarkedRecord} where
  pub change-start : left_items 5 xs₀ ≡ k → Changing k xs₀ 0 xs₀
  change-start e = record { passed = refl; ahead = refl; long = refl; fourth = e }

  module _ {i : ℕ} {xs : List MarkedRecord} (g : Changing k xs₀ i xs) (h : i < length xs₀) where
    pub change-here : get_or xs i no_marked ≡ get_or xs₀ i no_marked
    change-here =
        let e : i + 0 ≡ i = omega arith in
        ap (λ j. get_or xs j no_marked) (sym e) ∙ sym (get_or-drop i xs 0 no_marked) ∙ ap (λ l. get_or l 0 no_marked) g.ahead
        ∙ get_or-drop i xs₀ 0 no_marked
        ∙ ap (λ j. get_or xs₀ j no_marked) e

    more : (f : Fate) → renumbered k (plain_fate (get_or xs i no_marked)) ≡ f
        → map (renumbered k) (plain_fates (take (i + 1) xs₀)) ≡ map fate_of (take i xs) ++ (f ∷ [])
    more f e =
        rw (add-one i)
        (ap (λ l. map (renumbered k) (plain_fates l)) (take-suc xs₀ i no_marked h)
        ∙ ap (map (renumbered k)) (map-append plain_fate (take i xs₀) (get_or xs₀ i no_marked ∷ []))
        ∙ map-append (renumbered k) (plain_fates (take i xs₀)) (plain_fate (get_or xs₀ i no_marked) ∷ [])
        ∙ ap₂ (λ l z. l ++ (renumbered k (plain_fate z) ∷ [])) (sym g.passed) (sym change-here)
        ∙ ap (λ t. map fate_of (take i xs) ++ (t ∷ [])) e)

    following : drop (i + 1) xs ≡ drop (i + 1) xs₀
    following = rw (add-one i)
        (ap (drop 1) (sym (drop-cons xs i no_marked (omega (arith, g.long)))) ∙ ap (drop 1) g.ahead ∙ ap (drop 1) (drop-cons xs₀ i no_marked h))

    change-same : renumbered k (plain_fate (get_or xs i no_marked)) ≡ fate_of (get_or xs i no_marked) → Changing k xs₀ (i + 1) xs
    change-same e = record {
      passed = rw (add-one i) (ap (map fate_of) (take-suc xs i no_marked (omega (arith, g.long))) ∙ map-append fate_of (take i xs) _) ∙ sym
          (more _ e);
      ahead = following;
      long = g.long;
      fourth = g.fourth;
    }

    -- a mark ahead is that of a step
    pub mark-small : every (λ f. ltb f.step 8) (plain_fates xs₀) ≡ true → ltb (get_or xs i no_marked).mark 8 ≡ true
    mark-small b =
        ap (λ z. ltb z.mark 8) change-here
        ∙ every-at (λ f. ltb f.step 8) (plain_fates xs₀) (plain_fate (get_or xs₀ i no_marked)) b
        (Memᴰ.map plain_fate (rw (take-length xs₀) at (in_list xs₀ (length xs₀) i no_marked (rw (take-length xs₀) h))))

    -- one that has gone, one whose index stays, and one that takes another
    pub change-gone : every (λ f. ltb f.step 8) (plain_fates xs₀) ≡ true → ((get_or xs i no_marked).mark ≡ 0 → ⊥) → Changing k xs₀ (i + 1) xs
    change-gone b n = change-same (rw (ne_eqb _ 0 n, mark-small b) refl)

    module _ (m : (get_or xs i no_marked).mark ≡ 0) {x : ℕ} (e : x ≡ new_index (left_items 5 xs) (get_or xs i no_marked).item) where
      new : new_index k (get_or xs i no_marked).item ≡ x
      new = ap (λ t. new_index t (get_or xs i no_marked).item) (sym g.fourth) ∙ sym e

      pub change-kept : x ≡ (get_or xs i no_marked).item.index → Changing k xs₀ (i + 1) xs
      change-kept q = change-same (rw (m, new, eq-eqb x _ q) refl)

      pub change-on : (x ≡ (get_or xs i no_marked).item.index → ⊥) → (z : MarkedRecord) → z.mark ≡ 8 + x → z.item ≡ (get_or xs i no_marked).item
          → Changing k xs₀ (i + 1) (set xs i z)
      change-on q z a w = record {
        passed = rw (add-one i) (ap (map fate_of) (take-suc-set xs i z (omega (arith, g.long))) ∙ map-append fate_of (take i xs) _)
            ∙ sym (more (fate_of z) changed);
        ahead = drop-set-lt (i + 1) xs i z (omega arith) ∙ following;
        long = length-set xs i z ∙ g.long;
        fourth = left-set 5 xs i z (rw m) (rw a (largest x)) (sym w) ∙ g.fourth;
      }
        where
          largest : (n : ℕ) → is_left 5 (8 + n) ≡ true
          largest n = rw (ne_eqb (8 + n) 0 (λ u. omega arith), le-leb 5 (8 + n) (omega arith)) refl

          changed : renumbered k (plain_fate (get_or xs i no_marked)) ≡ fate_of z
          changed =
              let s : z.mark - 8 ≡ x = omega arith in
              rw (m, new, ne_eqb x _ q, a, le-ltb (8 + x) 8 (omega arith), w) (let s : 8 + x - 8 ≡ x = omega arith in rw s refl)

pub change-end : (l : List Record) (xs₀ : List MarkedRecord) → plain_fates xs₀ ≡ united_fates l → {i : ℕ} {xs : List MarkedRecord}
    → Changing (staying (after_four l)) xs₀ i xs → length xs₀ ≤ i → map fate_of xs ≡ fates_of l
unfolding step_five fates_of
change-end l xs₀ from {i} {xs} g h =
    sym (ap (map fate_of) (take_all i xs (omega (arith, g.long)))) ∙ g.passed
    ∙ ap (λ t. map (renumbered (staying (after_four l))) (plain_fates t)) (take_all i xs₀ h) ∙ ap (map (renumbered (staying (after_four l)))) from

-- the index that a record takes is small
module _ (k : List Record) (h : Supplied k) (r : Record) (i : r ∈ k) where
  pub value-small : (eqb r.kind 3 || eqb r.kind 4) ≡ true → length (those (λ s. under_key 3 r.key s && ltb s.index r.index) k) < 256
  value-small t =
      decide (eqb r.kind 3)
      (λ a. let b = below-few k h.scan r.key r i r.index (eqb-true r.kind 3 a, (refl, refl)) in omega arith)
      (λ a. let e : r.kind ≡ 4 = eqb-true r.kind 4 (rw a at t) in
      let (v, j, u) = h.valued r i e in
      let b = below-few k h.scan r.key v j r.index u in omega arith)

  pub waits-known : (eqb r.kind 5 || eqb r.kind 6) ≡ true → r.index ∈ waiting_indexes k
  waits-known t =
      decide (eqb r.kind 5)
      (λ a. index-all k h.scan r i (eqb-true r.kind 5 a))
      (λ a. key-known k h r i (eqb-true r.kind 6 (rw a at t)))

pub index-small : (k : List Record) → Supplied k → (w : ℕ) → w ∈ waiting_indexes k → waiting_index k w < 256
index-small k h w m = let a = index-few k w m in let b = indexes-few k h.scan in omega arith
