-- What a plan says of a result, removal by removal.
use mathlib.Core.Path.{◌≡◌, ap, sym, ◌∙◌}
use mathlib.Core.Bool.{false}
use mathlib.Core.List.{List, [], ◌++◌}
use Prim.Native.Nat.{ℕ, ◌+◌, ◌≤◌, ◌<◌}
use native.Mathlib.Numerals.{add-one}
use native.Mathlib.Omega.{arith}
use borrow.Author.Tests.{ltb-false}
use lib.ListN.{length, drop, get_or, length-map, length-append}
use lib.Seq.{drop-cons}
use Rattle.listlaws.proofs.Rests.{drop-end}
use Rattle.removals.specs.declared.Removal.{Removal}
use Rattle.limits.specs.Limits.{waiting_limit}
use Rattle.removals.specs.Model.{no_removal, under_of}
use Rattle.clockimage.specs.Image.{dot_record}
use Rattle.mapimage.specs.MapImage.{flat_from, waiting_dots}
use Rattle.planned.specs.declared.Plan.{Plan}
use Rattle.planned.specs.Planned.{no_held, held_in, dots_left, Plans}
use Rattle.planned.specs.Left.{RunWithin}

-- the dots of the next removal
pub dots-next : (w : List Removal) (i : ℕ) → i < length w → flat_from waiting_dots i (drop i w) ≡ waiting_dots i (get_or w i no_removal) ++ flat_from
    waiting_dots (i + 1) (drop (i + 1) w)
unfolding flat_from
dots-next w i h = rw (drop-cons w i no_removal h, add-one)

pub dots-end : (w : List Removal) (i : ℕ) → length w ≤ i → flat_from waiting_dots i (drop i w) ≡ []
unfolding flat_from
dots-end w i h = rw (drop-end w i h)

module _ {s t : List ℕ} {w v result : List Removal} {p : Plan} (h : Plans s t w v result p) (f : p.over ≡ false) where
  -- so many are in use
  pub plan-places : {n : ℕ} → ((n ≤ waiting_limit) × (n ≤ p.len)) × (p.len ≤ waiting_limit → n ≡ p.len) → n ≡ length result
  plan-places g =
      let few = ltb-false waiting_limit (length result) (sym h.over ∙ f) in
      let c = h.count f in g.1 (omega arith) ∙ c

  module _ {i : ℕ} (k : i < length result) where
    pub plan-within : RunWithin (held_in s t (get_or p.items i no_held)) (get_or p.items i no_held)
    plan-within = let l = h.clocks f i k in record { order = l.order; few = l.few; within = l.within }

    pub plan-dots : dots_left s t (get_or p.items i no_held) ≡ under_of (get_or result i no_removal)
    plan-dots = (h.clocks f i k).dots

    -- how many dots are counted with those of the next removal
    pub plan-count : (total c : ℕ) → length (flat_from waiting_dots 0 result) ≡ total + length (flat_from waiting_dots i (drop i result))
        → c ≡ length (dots_left s t (get_or p.items i no_held))
        → length (flat_from waiting_dots 0 result) ≡ total + c + length (flat_from waiting_dots (i + 1) (drop (i + 1) result))
    plan-count total c e q =
        let r = get_or result i no_removal in
        omega (
          arith,
          ap length plan-dots,
          ap length (dots-next result i k),
          length-append (waiting_dots i r)
              (flat_from waiting_dots (i + 1) (drop (i + 1) result)),
          length-map (under_of r) (dot_record 5 i 0),
        )
