-- A walk along the entries of an image for a dot that is spent twice.
use mathlib.Core.Path.{◌≡◌, refl, ap, sym, ◌∙◌}
use mathlib.Core.Bool.{true, false}
use mathlib.Core.List.{List}
use Prim.Native.Nat.{ℕ, ◌≤◌}
use Rattle.entries.specs.declared.Entry.{Entry}
use Rattle.map.specs.declared.Map.{Map}
use Rattle.asking.specs.declared.CvRDTValidation.{CvRDTValidation}
use Rattle.asking.specs.declared.CvRDTValidation.TheVariants.{Once}
use Rattle.map.specs.Model.{entries_in}
use Rattle.asking.specs.Asking.{is_twice, first_spent}
use Rattle.asking.proofs.Askings.{or-this, or-next}
use Rattle.walks.specs.declared.Layout.{Layout}
use Rattle.keyed.specs.declared.Stop.{Stop}
use Rattle.layout.specs.Whole.{Lies}
use Rattle.keyed.specs.Keyed.{Owned, Stops}
use Rattle.keyed.proofs.Walks.{owned-all, owned-end}

-- the dots of the rest stand from `at` to `end`, and before them nothing was spent twice
pub record Seeking (f : Entry → CvRDTValidation) (all : List Entry) (s : List ℕ) (end at : ℕ) : Type 0 where
  pub rest : List Entry
  pub owned : Owned s at end rest
  pub left : first_spent f all ≡ first_spent f rest

module _ {f : Entry → CvRDTValidation} {s : List ℕ} where
  pub seek-start : {m : Map} {l : Layout} → Lies s m l → Seeking f (entries_in m) s l.third l.second
  seek-start h = record { rest = _; owned = owned-all h; left = refl }

  module _ {all : List Entry} {end at : ℕ} (g : Seeking f all s end at) where
    module _ {r : Stop} (stops : (l : List Entry) → Owned s at end l → Stops s at end l r) (p : CvRDTValidation)
        (e : p ≡ f (stops g.rest g.owned).entry) where
      pub seek-here : is_twice p ≡ true → p ≡ first_spent f all
      unfolding first_spent
      seek-here t = sym (g.left ∙ ap (first_spent f) (stops g.rest g.owned).parts ∙ rw (← e) (or-this p _ t))

      pub seek-on : is_twice p ≡ false → Seeking f all s end r.next
      unfolding first_spent
      seek-on t = record {
        rest = (stops g.rest g.owned).more;
        owned = (stops g.rest g.owned).rest;
        left = g.left ∙ ap (first_spent f) (stops g.rest g.owned).parts ∙ rw (← e) (or-next p _ t);
      }

    pub seek-end : end ≤ at → Once ≡ first_spent f all
    unfolding first_spent
    seek-end n = sym (g.left ∙ ap (first_spent f) (owned-end g.rest g.owned n))
