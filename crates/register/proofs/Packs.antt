-- A register as the pack of its values: these come back (`values-of`), one more (`pushed`), and the limit (`fits`, `exceeds`).
use mathlib.Core.Path.{◌≡◌, refl, ap}
use mathlib.Core.Bool.{Bool, true, false, ◌||◌, cond}
use mathlib.Core.List.{List, [], ◌∷◌, ◌++◌, append_assoc}
use Prim.Native.Nat.{ℕ, ◌+◌, ◌-◌, ◌≤◌, ◌<◌}
use lib.Dec.{ltb}
use lib.ListN.{length, take, set, length-append}
use lib.Seq.{take-append_seam, drop-append_seam}
use borrow.Rule.Slice.PartMut.{put_mid}
use Rattle.std.specs.List.{list_any}
use Rattle.std.proofs.lemmas.List.{drop-replicate}
use Rattle.listlaws.specs.First.{first_in, some}
use Rattle.listlaws.specs.Pad.{pad}
use native.Mathlib.Omega.{arith}
use Rattle.listlaws.proofs.Pads.{used, take-pad, push-pad, length-snoc}
use Rattle.listlaws.proofs.Sifts.{length-sift}
use Rattle.listlaws.proofs.Limits.{within-fits, within-exceeds, flag_is}
use Rattle.clock.specs.declared.Dot.{Dot}
use Rattle.register.specs.declared.Value.{Value}
use Rattle.register.specs.declared.Register.{Register}
use Rattle.register.specs.declared.Wide.{Wide}
use Rattle.register.specs.declared.Settled.{Settled}
use Rattle.limits.specs.Limits.{value_limit}
use Rattle.register.specs.Values.{no_content, no_value, values_of, register_of, alive, cut_value, cut_values, standing, remaining}
use Rattle.register.specs.InHand.{wide_room, wide_values, wide_of, settled}

-- what the logic reads past the end of an array of values
abbrev pub none_read : Value
none_read = record { clock = record { dots = []; len = 0 }; value = no_content }

-- a turn of a loop over the n elements in use of k places: what grows by at most one in a turn has room in k places
pub in_room : {A : Type 0} {m i k : ℕ} {xs : List A} (n : ℕ) (ys : List A) → m ≤ i → i < length xs → xs ≡ take n ys → length ys ≡ k → m < k
in_room {k = k} n ys h t e f = omega (arith, ap length e, used n k ys f)

-- the values of the register of a list are the list
pub values-of : {r : Register} (l : List Value) → r ≡ register_of l → values_of r ≡ l
values-of l e = rw e (take-pad no_value value_limit l)

pub wide-values : {w : Wide} (l : List Value) → w ≡ wide_of l → wide_values w ≡ l
wide-values l e = rw e (take-pad no_value wide_room l)

-- a value stored behind the last
pub pushed : {r : Register} (l : List Value) (v : Value) → r ≡ register_of l → length l < value_limit
    → ◌≡◌ {A = Register} (record { values = set r.values r.len v; len = r.len + 1 }) (register_of (l ++ (v ∷ [])))
pushed l v e h = rw (e, push-pad no_value value_limit l v h, length-snoc l v)

pub wide-pushed : {w : Wide} (l : List Value) (v : Value) → w ≡ wide_of l → length l < wide_room
    → ◌≡◌ {A = Wide} (record { values = set w.values w.len v; len = w.len + 1 }) (wide_of (l ++ (v ∷ [])))
wide-pushed l v e h = rw (e, push-pad no_value wide_room l v h, length-snoc l v)

-- a list copied behind the last
behind : {A : Type 0} (z : A) (n : ℕ) (l m : List A) → put_mid (length l) (length m) (pad z n l) m ≡ pad z n (l ++ m)
unfolding pad
behind z n l m =
    let e : n - length l - length m ≡ n - (length l + length m) = omega arith in
    rw (take-append_seam, drop-append_seam, drop-replicate, length-append, e, append_assoc) refl

pub wide-trailed : (l m : List Value)
    → ◌≡◌ {A = Wide}
    (record { values = put_mid (length l) (length l + length m - length l) (pad no_value wide_room l) m; len = length l + length m })
    (wide_of (l ++ m))
wide-trailed l m = let e : length l + length m - length l ≡ length m = omega arith in rw (e, behind no_value wide_room l m, length-append) refl

-- and into an empty register
pub laid : (l : List Value)
    → ◌≡◌ {A = Register}
    (record { values = put_mid 0 (length l - 0) (pad no_value value_limit []) l; len = length l })
    (register_of l)
laid l = let e : length l - 0 ≡ length l = omega arith in rw (e, behind no_value value_limit [] l) refl

-- whether one passes, as the library has it
pub some-is : {A : Type 0} (test : A → Bool) (l : List A) → list_any test l ≡ some test l
unfolding first_in
some-is test [] = refl
some-is test (x ∷ l) = elim (test x) as (λ b. (b || list_any test l) ≡ cond b true (some test l)) [ true ↦ refl | false ↦ some-is test l ]

-- the two answers of what is laid down
abbrev good : List Value → Settled
good v = record { over = false; register = register_of v }

abbrev bad : Settled
bad = record { over = true; register = register_of [] }

pub fits : (l : List Value) → length l ≤ value_limit → settled l ≡ record { over = false; register = register_of l }
fits l h = within-fits value_limit good bad l h

pub exceeds : (l : List Value) → value_limit < length l → settled l ≡ record { over = true; register = register_of [] }
exceeds l h = within-exceeds value_limit good bad l h

-- what the flag says of the list
pub settled-over : (l : List Value) → (settled l).over ≡ ltb value_limit (length l)
settled-over l = flag_is value_limit good bad (λ s. s.over) (λ v. refl) refl l

pub cut-length : (c : List Dot) (l : List Value) → length (cut_values c l) ≤ length l
unfolding cut_values
cut-length c l = length-sift alive (cut_value c) l

pub remaining-length : (l : List Value) (put : Value) → length (remaining l put) ≤ length l
unfolding remaining
remaining-length l put = length-sift (standing true (put ∷ [])) (λ v. v) l
