-- What one image to a thing gives: accepted exactly when it is the image of a good thing, and no two good things share one.
use mathlib.Core.Path.{◌≡◌, ap, sym, ◌∙◌}
use mathlib.Core.List.{List}
use Prim.Native.Nat.{ℕ}
use Rattle.records.specs.Bytes.{Bytes}
use Rattle.oneimagelaws.specs.One.{OneImage}

module _ {T : Type 0} {Good : T → Type 0} {image : T → List ℕ} {number : List ℕ → ℕ} {read : List ℕ → T} (one : OneImage Good image number read) where
  -- end theorems, all three: nothing here uses them
  pub accepted-means : (s : List ℕ) → Bytes s → number s ≡ 0 → (x : T) × Good x × (s ≡ image x)
  accepted-means s b z = let a = one.again s b z in (read s, a.0, sym a.1)

  pub accepted-holds : (s : List ℕ) (x : T) → Good x → s ≡ image x → number s ≡ 0
  accepted-holds s x g e = ap number e ∙ (one.back x g).0

  pub image-differs : (x y : T) → Good x → Good y → image x ≡ image y → x ≡ y
  image-differs x y g h e = sym (one.back x g).1 ∙ ap read e ∙ (one.back y h).1
