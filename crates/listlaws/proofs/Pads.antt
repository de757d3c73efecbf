-- A list in an array: what is in use is the list (`take-pad`), and a store behind it adds an element (`push-pad`).
use mathlib.Core.Path.{◌≡◌, sym, ◌∙◌}
use mathlib.Core.List.{List, [], ◌∷◌, ◌++◌, map}
use Prim.Native.Nat.{ℕ, suc, ◌+◌, ◌-◌, ◌≤◌, ◌<◌}
use native.Mathlib.Omega.{arith}
use lib.ListN.{length, take, set, length-append, length-replicate, length-map, length-take}
use lib.Seq.{set-append_seam, take-append_seam, append_snoc}
use Rattle.listlaws.specs.Pad.{pad}

module _ {ℓ} {A : Type ℓ} (z : A) (n : ℕ) where
  pub length-pad : (l : List A) → length l ≤ n → length (pad z n l) ≡ n
  unfolding pad
  length-pad l h = simp (length-append, length-replicate) (omega arith)

  pub take-pad : (l : List A) → take (length l) (pad z n l) ≡ l
  unfolding pad
  take-pad l = take-append_seam l _

  -- a store behind the last element adds it at the end
  pub push-pad : (l : List A) (a : A) → length l < n → set (pad z n l) (length l) a ≡ pad z n (l ++ (a ∷ []))
  unfolding pad
  push-pad l a h =
      let e : n - length l ≡ suc (n - (length l + 1)) = omega arith in
      rw (e, length-append, append_snoc) (set-append_seam l z _ a)

pub length-snoc {ℓ} : {A : Type ℓ} (l : List A) (a : A) → length (l ++ (a ∷ [])) ≡ length l + 1
length-snoc l a = length-append l (a ∷ [])

-- what is known of an array of structs at entry speaks of `map` of the elements: `search (needs, unmapped)` finds its length
pub unmapped : {X Y : Type 0} (f : X → Y) (l : List X) (n : ℕ) → length (map f l) ≡ n → length l ≡ n
unmapped f l n e = sym (length-map l f) ∙ e

-- an array of k places has at most k in use
pub used : {X : Type 0} (n k : ℕ) (l : List X) → length l ≡ k → length (take n l) ≤ k
used n k l e = simp length-take (omega arith)
