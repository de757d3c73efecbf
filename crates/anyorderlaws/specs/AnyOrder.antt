-- Demand 3, field by field in its own words, of runs of castribba_apply; EndMap has the words on the map that they end in.
use Rattle.std.specs.Prelude.{◌≡◌, false, ℕ}
use mathlib.Core.List.{List, map, Permᴰ}
use Rattle.removals.specs.Model.{listed_in}
use Rattle.removals.specs.Waits.{listed}
use Rattle.maprecords.specs.Related.{read_map}
use Rattle.anyorderlaws.specs.Ends.{EndMap}
use Rattle.anyorderlaws.specs.Calls.{AllDone, end, Trade, MapImage, RemovalImage, UpdateImage, removal_of, update_of}

-- "From any valid map, take any finite list of removals." `Passed` has "Given output buffers of the longest size" and "accepted throughout".
pub record RemovalsInAnyOrder (s : List ℕ) (ops : List (List ℕ)) : Type 0 where
  -- "if one order is accepted throughout, every order is"
  pub every-order : {others : List (List ℕ)} → Permᴰ ops others → AllDone s ops → AllDone s others
  -- "and all end in the same map", byte for byte
  pub same_map : {others : List (List ℕ)} → Permᴰ ops others → AllDone s ops → end s others ≡ end s ops
  -- whose image is accepted
  pub image : AllDone s ops → MapImage (end s ops)
  -- "each key loses exactly the dots at or below the largest counters among the clocks that list it, emptied values go, emptied entries go with
  -- all they hold, and a removal joins those waiting exactly if the map's clock doesn't cover it"
  pub end-map : AllDone s ops → EndMap (read_map s).map (map removal_of ops) (read_map (end s ops)).map
  -- and that is so of no other map
  pub only-map : AllDone s ops → (other : List ℕ) → MapImage other
      → EndMap (read_map s).map (map removal_of ops) (read_map other).map → other ≡ end s ops
  -- "An update also trades places with a removal not listing its key, when neither order refuses."
  pub update-trades : {u r : List ℕ} → UpdateImage u → RemovalImage r
      → listed (listed_in (removal_of r)) (update_of u).key ≡ false → Trade s u r
