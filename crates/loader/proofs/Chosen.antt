-- What is reported of a register: one of its values that remain, of which none is smaller; and none exactly where it has no value.
use mathlib.Core.Path.{◌≡◌, refl, ap, sym, ◌∙◌}
use mathlib.Core.Bool.{Bool, false, not}
use mathlib.Core.List.Memᴰ
use mathlib.Core.List.{List, [], ◌∷◌}
use Prim.Native.Nat.{ℕ, ◌≤◌}
use lib.Dec.{eqb, eqb-suc-zero}
use lib.ListN.{length, replicate}
use borrow.Author.Tests.{not-true, ne_eqb}
use Rattle.listlaws.specs.Sift.{sift}
use Rattle.listlaws.specs.First.{first_in}
use Rattle.listlaws.specs.Order.{◌∈◌}
use Rattle.listlaws.proofs.Firsts.{first-none}
use Rattle.listlaws.proofs.Those.{those-means, those-holds}
use Rattle.register.specs.declared.Value.{Value}
use Rattle.entries.specs.declared.Entry.{Entry}
use Rattle.entries.specs.Model.{values_in, entry_as}
use Rattle.entries.specs.Entries.{entry_at}
use Rattle.map.specs.declared.Map.{Map}
use Rattle.map.specs.Model.{entries_in}
use Rattle.loader.specs.Choice.{is_below, undropped, smallest, differ, report_of}
use Rattle.loader.specs.Reports.{report_at, report_bytes, no_report}
use Rattle.loader.proofs.Smallest.{smallest-least, smallest-stands}
use Rattle.loader.proofs.Strict.{some-remain}

pub record Chosen (l : List Value) : Type 0 where
  pub taken : Value
  pub stands : taken ∈ l
  pub remains : is_below l taken ≡ false
  pub reported : (report_of l).value ≡ taken.value.number
  pub least : (w : Value) → w ∈ l → is_below l w ≡ false → (report_of l).value ≤ w.value.number

-- end theorems, this one and those below: what is reported of a register, and of a bay with no entry
pub chosen : (l : List Value) {w : Value} → w ∈ l → Chosen l
unfolding report_of undropped
chosen l i =
    let left : Value → Bool = λ v. not (is_below l v) in
    let s = smallest-stands (undropped l) (some-remain l i).1 in
    let r = those-means left l s.1 in
    record {
      taken = s.0;
      stands = r.0;
      remains = not-true _ r.1;
      reported = sym s.2;
      least = λ w j n. smallest-least (undropped l) w (those-holds left j (ap not n));
    }

-- found is set exactly where the register has a value
some-long : (l : List Value) {v : Value} → v ∈ l → eqb (length l) 0 ≡ false
some-long [] i = absurd (Memᴰ.not-nil i)
some-long (v ∷ l) i = eqb-suc-zero (length l)

pub found-exactly : (l : List Value) → (report_of l).found ≡ not (eqb (length l) 0)
unfolding report_of undropped sift
found-exactly [] = refl
found-exactly (v ∷ l) =
    ap not (some-long (undropped (v ∷ l)) (some-remain (v ∷ l) (Memᴰ.head refl)).1 ∙ sym (eqb-suc-zero (length l)))

-- "A missing entry or empty register reports none, all bytes zero."
pub empty-none : report_of [] ≡ no_report
unfolding report_of undropped smallest differ sift first_in
empty-none = refl

pub missing-none : (m : Map) (bay : ℕ) → ((e : Entry) → e ∈ entries_in m → e.key ≡ bay → ⊥) → report_at m bay ≡ no_report
unfolding report_at entry_at
missing-none m bay f =
    let e = first-none (λ (x : Entry). eqb x.key bay) (λ x. x) (entry_as bay [] []) (entries_in m) (λ x i. ne_eqb x.key bay (f x i)) in
    ap (λ x. report_of (values_in x)) e ∙ empty-none

pub none-zero : report_bytes no_report ≡ replicate 11 0
none-zero = refl
