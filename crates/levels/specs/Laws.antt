-- What a map needs to know of its entries' values, and what is proved of every level: of cuts, of merges, of operations.
use Rattle.std.specs.Prelude.{◌≡◌, List, []}
use Rattle.clock.specs.declared.Dot.{Dot}
use Rattle.clock.specs.Dots.{join_dots}
use Rattle.clock.specs.Lawful.{Lawful}
use Rattle.rules.specs.OneEntry.{Holds}

-- two cuts trade places, two cuts are one cut by both clocks joined, a cut leaves it valid, and the empty clock cuts nothing
pub record CutLaws {A O : Type 0} (r : Holds A O) (Good : A → Type 0) : Type 0 where
  pub trade : (c d : List Dot) {v : A} → Good v → r.cut c (r.cut d v) ≡ r.cut d (r.cut c v)
  pub both : {c d : List Dot} → Lawful c → Lawful d → {v : A} → Good v → r.cut d (r.cut c v) ≡ r.cut (join_dots c d) v
  pub good : (c : List Dot) {v : A} → Good v → Good (r.cut c v)
  pub none : {v : A} → Good v → r.cut [] v ≡ v

-- the new value is valid, and a merge of valid values is
pub record MergeLaws {A O : Type 0} (r : Holds A O) (Good : A → Type 0) : Type 0 where
  pub none : Good r.none
  pub merged : {v w : A} → Good v → Good w → Good (r.merge v w)

-- so is a valid value after a valid operation
pub record ApplyLaws {A O : Type 0} (r : Holds A O) (Good : A → Type 0) (GoodO : O → Type 0) : Type 0 where
  pub applied : {v : A} {o : O} → Good v → GoodO o → Good (r.apply v o)
