-- How a list of operations is cut, a record at a time.
use mathlib.Core.Path.{◌≡◌, refl, ap, sym, ◌∙◌}
use mathlib.Core.Bool.{Bool, true, false, ◌||◌}
use mathlib.Core.List.{List, [], ◌∷◌, ◌++◌, append_assoc}
use Prim.Native.Nat.{ℕ, zero, suc, ◌+◌, ◌-◌, ◌/◌, ◌≤◌, ◌<◌}
use native.Mathlib.Omega.{arith}
use borrow.Author.Tests.{le-leb, lt-leb}
use lib.Dec.{eqb}
use lib.ListN.{length, take, drop, get_or, length-drop}
use lib.Seq.{get_or-drop, drop-drop, take-add, take_all, drop-length}
use Rattle.records.specs.Kinds.{removal_kind, update_kind}
use Rattle.promises.specs.CatchUp.{head_first, in_front, less_than_record, cut_records, operations_of}

-- less than a record, and a record more
pub cut-less : (s : List ℕ) → length s < 16 → operations_of s ≡ less_than_record s
unfolding operations_of cut_records
cut-less s h = let e : length s / 16 ≡ 0 = omega arith in rw e

pub cut-nothing : operations_of [] ≡ []
unfolding less_than_record
cut-nothing = cut-less [] (omega arith)

pub cut_on : (s : List ℕ) → 16 ≤ length s → operations_of s ≡ in_front (take 16 s) (head_first (drop 16 s)) (operations_of (drop 16 s))
unfolding operations_of cut_records
cut_on s h = let e : length s / 16 ≡ suc (length (drop 16 s) / 16) = omega (arith, length-drop 16 s) in rw e

-- bytes in front of bytes
pub in-front-on : (b r : List ℕ) (h : Bool) (ops : List (List ℕ)) → in_front b false (in_front r h ops) ≡ in_front (b ++ r) h ops
unfolding in_front
in-front-on b r true ops = refl
in-front-on b r false [] = refl
in-front-on b r false (o ∷ ops) = ap (λ l. l ∷ ops) (sym (append_assoc b r o))

-- whether a head stands at a place
pub head_at : (s : List ℕ) (p : ℕ) → p + 16 ≤ length s → head_first (drop p s) ≡ (eqb (get_or s p 0) removal_kind || eqb (get_or s p 0) update_kind)
unfolding head_first
head_at s p h =
    let l : 16 ≤ length (drop p s) = omega (arith, length-drop p s) in
    let z : p + 0 ≡ p = omega arith in
    rw (le-leb 16 (length (drop p s)) l, get_or-drop p s 0 0, z) refl

pub no-head : (s : List ℕ) → length s < 16 → head_first s ≡ false
unfolding head_first
no-head s h = rw (lt-leb 16 (length s) h) refl
