-- The report of any two images: what is read from an image ascends, so that the laws of the report hold with no premise.
use mathlib.Core.List.{List}
use Prim.Native.Nat.{ℕ}
use Rattle.listlaws.specs.Order.{Ascending, by}
use Rattle.entries.specs.declared.Entry.{Entry}
use Rattle.acceptancelaws.proofs.Maps.{map-within}
use Rattle.differencelaws.specs.Reported.{entries_of_image, Reported}
use Rattle.differencelaws.proofs.Exactly.{told-says, says-told, told-ascends, told-once, empty-alike, alike-empty, told-turned}

rising : (s : List ℕ) → Ascending (by (λ (e : Entry). e.key)) (entries_of_image s)
rising s = (map-within s).valid.entries.rising

-- the end theorem of this crate
pub reported : (s t : List ℕ) → Reported s t
reported s t = record {
  told = told-says (rising s) (rising t);
  telling = says-told (rising s) (rising t);
  ascending = told-ascends (rising s) (rising t);
  once = told-once (rising s) (rising t);
  empty = empty-alike (rising s) (rising t);
  same = alike-empty (rising s) (rising t);
  exchanged = told-turned (rising s) (rising t);
}
