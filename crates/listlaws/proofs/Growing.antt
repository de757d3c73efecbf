-- A loop that builds the pack of a list, an element at a time: whatever list it is, and however it is packed.
use mathlib.Core.Path.{◌≡◌, refl, ap, sym, ◌∙◌}
use mathlib.Core.List.{List, [], ◌∷◌, ◌++◌, append-nil}
use Prim.Native.Nat.{◌<◌}
use native.Mathlib.Omega.{arith}
use lib.ListN.{length, length-append}
use lib.Seq.{append_snoc}

-- s packs what is done of the whole, and the rest is to come
pub record Growing {B S : Type 0} (pack : List B → S) (whole rest : List B) (s : S) : Type 0 where
  pub done : List B
  pub packed : s ≡ pack done
  pub parts : whole ≡ done ++ rest

module _ {B S : Type 0} {pack : List B → S} where
  pub grow-start : {s : S} {whole : List B} → s ≡ pack [] → Growing pack whole whole s
  grow-start e = record { done = []; packed = e; parts = refl }

  -- the pack holds a list already, and the rest goes behind it
  pub grow-behind : {s : S} (pre : List B) {rest : List B} → s ≡ pack pre → Growing pack (pre ++ rest) rest s
  grow-behind pre e = record { done = pre; packed = e; parts = refl }

  -- one element more, as the pack's own way to add one promises it
  pub grow-add : {s t : S} {whole rest more : List B} {v : B} → Growing pack whole rest s → rest ≡ v ∷ more
      → ((l : List B) → s ≡ pack l → t ≡ pack (l ++ (v ∷ []))) → Growing pack whole more t
  grow-add {more = more} {v = v} g e f = record {
    done = g.done ++ (v ∷ []);
    packed = f g.done g.packed;
    parts = g.parts ∙ ap (λ r. g.done ++ r) e ∙ sym (append_snoc g.done v more);
  }

  -- an element that leaves the rest as it is
  pub grow-skip : {s : S} {whole rest more : List B} → Growing pack whole rest s → rest ≡ more → Growing pack whole more s
  grow-skip g e = record { done = g.done; packed = g.packed; parts = g.parts ∙ ap (λ r. g.done ++ r) e }

  pub grow-end : {s : S} {whole rest : List B} → Growing pack whole rest s → rest ≡ [] → s ≡ pack whole
  grow-end g e = g.packed ∙ ap pack (sym (g.parts ∙ ap (λ r. g.done ++ r) e ∙ append-nil g.done))

  -- there is room for one more where there is room for the whole
  pub grow-room : {s : S} {whole rest more : List B} {v : B} (g : Growing pack whole rest s) → rest ≡ v ∷ more → length g.done < length whole
  grow-room {more = more} {v = v} g e =
      omega (arith, simp length-append at (ap length (g.parts ∙ ap (λ r. g.done ++ r) e)))
