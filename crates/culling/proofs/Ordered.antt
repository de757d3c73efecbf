-- The loops of steps 2 and 3: what the marks of the places passed say, and which record was kept last.
use mathlib.Core.Path.{◌≡◌, refl, ap, ap₂, sym, ◌∙◌}
use mathlib.Core.Logic.{inl, inr}
use mathlib.Core.Bool.{Bool, true, false, not, ◌&&◌, ◌||◌}
use mathlib.Core.List.Memᴰ
use mathlib.Core.List.{List, [], ◌∷◌, ◌++◌, map}
use Prim.Native.Nat.{ℕ, ◌+◌, ◌≤◌, ◌<◌}
use native.Mathlib.Omega.{arith}
use native.Mathlib.Numerals.{add-one}
use borrow.Author.Tests.{eq-eqb}
use lib.Dec.{eqb}
use lib.ListN.{length, take, get_or, set}
use lib.Seq.{take-suc, take-suc-set, take_all, take-length}
use Rattle.listlaws.specs.Sift.{sift}
use Rattle.listlaws.proofs.Rests.{in_list}
use Rattle.records.specs.declared.Record.{Record}
use Rattle.records.specs.Kinds.{record_ok, before}
use Rattle.opimage.specs.OpImage.{no_record}
use Rattle.scan.specs.Each.{every, each_after}
use Rattle.scan.specs.Formed.{well_formed}
use Rattle.scan.specs.Scanned.{Ends}
use Rattle.scan.proofs.Eachs.{both, decide, every-at}
use Rattle.scan.proofs.Scans.{formed-snoc, follows-last}
use Rattle.salvagerules.specs.Fates.{Fate, untouched, staying, tested, taken_after, taken}
use Rattle.salvagerules.specs.Steps.{step_two, step_three}
use Rattle.culling.specs.Marks.{MarkedRecord, left_items, plain_fate, plain_fates, after_two}
use Rattle.culling.proofs.Taking.{map-append, taken-snoc, tested-kept, tested-goes}
use Rattle.culling.proofs.Marked.{no_marked}
use Rattle.culling.proofs.Passes.{Pass, pass-start, pass-here, pass-gone, pass_kept, pass-goes, pass-end, kept_more, kept_same, kept-gone}

abbrev pub good_alone : List Record → Record → Bool
good_alone seen r = record_ok 1 6 r

abbrev pub above_all : List Record → Record → Bool
above_all seen r = every (λ s. before s r) seen

-- step 2: i of the records are judged
pub record Judging (rs : List Record) (i : ℕ) (xs : List MarkedRecord) : Type 0 where
  pub passed : plain_fates (take i xs) ≡ taken 2 good_alone (map untouched (take i rs))

module _ {rs : List Record} where
  pub judging-start : {xs : List MarkedRecord} → Judging rs 0 xs
  unfolding taken_after
  judging-start = record { passed = refl }

  module _ {i : ℕ} {xs : List MarkedRecord} (g : Judging rs i xs) (h : i < length xs) (k : i < length rs) (z : MarkedRecord)
      (w : z.item ≡ get_or rs i no_record) where
    judging-on : ((seen : List Record) → tested 2 good_alone seen (untouched (get_or rs i no_record)) ≡ plain_fate z)
        → Judging rs (i + 1) (set xs i z)
    judging-on e = record {
      passed = rw (add-one i)
          (ap plain_fates (take-suc-set xs i z h) ∙ map-append plain_fate (take i xs) (z ∷ [])
          ∙ ap₂ (λ l f. l ++ (f ∷ [])) g.passed (sym (e (staying (taken 2 good_alone (map untouched (take i rs))))))
          ∙ sym (ap (λ l. taken 2 good_alone (map untouched l)) (take-suc rs i no_record k)
          ∙ ap (taken 2 good_alone) (map-append untouched (take i rs) (get_or rs i no_record ∷ []))
          ∙ taken-snoc 2 good_alone (map untouched (take i rs)) (untouched (get_or rs i no_record))));
    }

    pub judging-good : record_ok 1 6 (get_or rs i no_record) ≡ true → z.mark ≡ 0 → Judging rs (i + 1) (set xs i z)
    judging-good t m = judging-on (λ seen. tested-kept 2 good_alone seen (untouched (get_or rs i no_record)) t
        ∙ sym (λ j. record { item = w j; stays = ap (λ q. eqb q 0) m j; step = m j }))

    pub judging-bad : record_ok 1 6 (get_or rs i no_record) ≡ false → z.mark ≡ 2 → Judging rs (i + 1) (set xs i z)
    judging-bad t m = judging-on (λ seen. tested-goes 2 good_alone seen (untouched (get_or rs i no_record)) refl t
        ∙ sym (λ j. record { item = w j; stays = ap (λ q. eqb q 0) m j; step = m j }))

  pub judging-end : {i : ℕ} {xs : List MarkedRecord} → Judging rs i xs → length xs ≤ i → length rs ≤ i → plain_fates xs ≡ after_two rs
  unfolding step_two
  judging-end {i} {xs} g h k =
      sym (ap plain_fates (take_all i xs h)) ∙ g.passed ∙ ap (λ l. taken 2 good_alone (map untouched l)) (take_all i rs k)

-- what step 2 leaves is good by itself
abbrev good_fate : Fate → Bool
good_fate f = not f.stays || record_ok 1 6 f.item

good-after : (l two : List Record) → every good_fate (taken_after 2 good_alone two (map untouched l)) ≡ true
unfolding taken_after every
good-after [] two = refl
good-after (r ∷ l) two =
    decide (record_ok 1 6 r)
    (λ a. rw (a, a) (good-after l _))
    (λ a. rw a (good-after l _))

pub good-at : (xs : List MarkedRecord) (l : List Record) → plain_fates xs ≡ after_two l → (i : ℕ) → i < length xs → (get_or xs i no_marked).mark ≡ 0
    → record_ok 1 6 (get_or xs i no_marked).item ≡ true
unfolding step_two
good-at xs l e i h m =
    let here = rw (take-length xs) at (in_list xs (length xs) i no_marked (rw (take-length xs) h)) in
    let t = every-at good_fate (plain_fates xs) (plain_fate (get_or xs i no_marked)) (ap (every good_fate) e ∙ good-after l [])
    (Memᴰ.map plain_fate here) in
    rw (eq-eqb _ 0 m) at t

-- step 3: i of the records are passed, and the last one kept is `last`, where there is any
pub record Ordering (xs₀ : List MarkedRecord) (i : ℕ) (xs : List MarkedRecord) (any : Bool) (last : Record) : Type 0 where
  pub pass : Pass 3 above_all xs₀ i xs
  pub ends : Ends (left_items 0 (take i xs)) any last
  pub formed : well_formed 1 6 (left_items 0 (take i xs)) ≡ true

module _ {xs₀ : List MarkedRecord} where
  pub order-start : (last : Record) → Ordering xs₀ 0 xs₀ false last
  unfolding well_formed each_after sift
  order-start last = record { pass = pass-start; ends = inl (refl, refl); formed = refl }

  module _ {i : ℕ} {xs : List MarkedRecord} {any : Bool} {last : Record} (g : Ordering xs₀ i xs any last) (h : i < length xs₀) where
    here : i < length xs
    here = omega (arith, g.pass.long)

    -- one that has gone
    pub order-skip : ((get_or xs i no_marked).mark ≡ 0 → ⊥) → Ordering xs₀ (i + 1) xs any last
    order-skip k = let e = kept_same xs i here k in
        record { pass = pass-gone g.pass h k; ends = rw e g.ends; formed = rw e g.formed }

  module _ (l : List Record) (from : plain_fates xs₀ ≡ after_two l) {i : ℕ} {xs : List MarkedRecord} {any : Bool} {last : Record}
      (g : Ordering xs₀ i xs any last) (h : i < length xs₀) where
    module _ (k : (get_or xs i no_marked).mark ≡ 0) where
      good : record_ok 1 6 (get_or xs i no_marked).item ≡ true
      good = rw (pass-here g.pass h)
          (good-at xs₀ l from i h (ap (λ z. z.mark) (sym (pass-here g.pass h)) ∙ k))

      -- above the last one kept is above all
      above : (not any || before last (get_or xs i no_marked).item) ≡ above_all (left_items 0 (take i xs)) (get_or xs i no_marked).item
      above =
          let r = (get_or xs i no_marked).item in
          let e = follows-last 1 6 (left_items 0 (take i xs)) any last r g.formed g.ends in
          sym (ap (λ b. b && (not any || before last r)) good) ∙ e ∙ ap (λ b. b && above_all (left_items 0 (take i xs)) r) good

      pub order-keep : (not any || before last (get_or xs i no_marked).item) ≡ true → Ordering xs₀ (i + 1) xs true (get_or xs i no_marked).item
      order-keep t =
          let r = (get_or xs i no_marked).item in
          let e = kept_more xs i (here g h) k in
          let a = sym above ∙ t in
          record {
            pass = pass_kept g.pass h a;
            ends = rw e (inr (refl, (left_items 0 (take i xs), refl)));
            formed = rw e (formed-snoc 1 6 (left_items 0 (take i xs)) r ∙ both _ _ g.formed (both _ _ good a));
          }

      pub order-go : (z : MarkedRecord) → (not any || before last (get_or xs i no_marked).item) ≡ false → z.mark ≡ 3
          → z.item ≡ (get_or xs i no_marked).item
          → Ordering xs₀ (i + 1) (set xs i z) any last
      order-go z t m w =
          let e = kept-gone xs i (here g h) z (λ q. omega (arith, m)) in
          record {
            pass = pass-goes g.pass h z k (sym above ∙ t) m w (λ q. omega arith);
            ends = rw e g.ends;
            formed = rw e g.formed;
          }

  pub order-end : (l : List Record) → plain_fates xs₀ ≡ after_two l → {i : ℕ} {xs : List MarkedRecord} {any : Bool} {last : Record}
      → Ordering xs₀ i xs any last → length xs₀ ≤ i → plain_fates xs ≡ step_three (after_two l)
  unfolding step_three
  order-end l from g h = pass-end g.pass h ∙ ap (taken 3 above_all) from
