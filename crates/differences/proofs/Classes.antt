-- The first key of two maps with its class, where one side has it alone and where both have it; and the bytes of a report.
use mathlib.Core.Path.{◌≡◌, refl, ap, sym, ◌∙◌}
use mathlib.Core.List.Memᴰ
use mathlib.Core.List.{List, [], ◌∷◌, ◌++◌, map, append-nil, append_assoc}
use Prim.Native.Nat.{◌*◌, ◌<◌}
use native.Mathlib.Omega.{arith}
use lib.ListN.{length, length-append}
use borrow.Author.Tests.{lt-ltb, le-ltb}
use Rattle.listlaws.specs.Order.{◌∈◌}
use Rattle.listlaws.specs.Weave.{weave}
use Rattle.entries.specs.declared.Entry.{Entry}
use Rattle.differences.specs.declared.Difference.{Difference}
use Rattle.differences.specs.Differences.{only_first, only_second, in_both, classed, difference_bytes, all_told}

classed-nil : (l : List Entry) → classed l [] ≡ map only_first l
unfolding classed weave
classed-nil [] = refl
classed-nil (e ∷ l) = refl

pub classed-first : (e : Entry) (l m : List Entry) → ((f : Entry) → f ∈ m → e.key < f.key) → classed (e ∷ l) m ≡ only_first e ∷ classed l m
unfolding classed weave
classed-first e l [] h = ap (λ r. only_first e ∷ r) (sym (classed-nil l))
classed-first e l (f ∷ m) h = rw (lt-ltb e.key f.key (h f (Memᴰ.head refl)))

pub classed-second : (f : Entry) (l m : List Entry) → ((e : Entry) → e ∈ l → f.key < e.key) → classed l (f ∷ m) ≡ only_second f ∷ classed l m
unfolding classed weave
classed-second f [] m h = refl
classed-second f (e ∷ l) m h = let k = h e (Memᴰ.head refl) in rw (le-ltb e.key f.key (omega arith), lt-ltb f.key e.key k)

pub classed-both : (e f : Entry) (l m : List Entry) → e.key ≡ f.key → classed (e ∷ l) (f ∷ m) ≡ in_both e f ∷ classed l m
unfolding classed weave
classed-both e f l m q = rw (le-ltb e.key f.key (omega arith), le-ltb f.key e.key (omega arith))

-- "five-byte records"
pub length-told : (l : List Difference) → length (all_told l) ≡ length l * 5
unfolding all_told
length-told [] = refl
length-told (t ∷ l) = length-append (difference_bytes t) (all_told l) ∙ omega (arith, length-told l)

pub told-snoc : (l : List Difference) (t : Difference) → all_told (l ++ (t ∷ [])) ≡ all_told l ++ difference_bytes t
unfolding all_told
told-snoc [] t = append-nil (difference_bytes t)
told-snoc (u ∷ l) t = ap (λ r. difference_bytes u ++ r) (told-snoc l t) ∙ sym (append_assoc (difference_bytes u) (all_told l) (difference_bytes t))
