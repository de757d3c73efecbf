-- What a reader of an operation's image holds after some records.
use Rattle.std.specs.Prelude.{◌≡◌, ℕ, ◌<◌, min, List, get_or}
use Rattle.clock.specs.Dots.{clock_of}
use Rattle.removals.specs.Model.{keys_as}
use Rattle.records.specs.declared.Record.{Record}
use Rattle.records.specs.Kinds.{removal_kind, removal_dot_kind, removal_key_kind, update_kind, put_value_kind, put_dot_kind}
use Rattle.scan.specs.Scanned.{Scanned}
use Rattle.clockimage.specs.Image.{is_kind, dots_from}
use Rattle.opimage.specs.declared.OpReader.{OpReader}
use Rattle.opimage.specs.OpImage.{how_many, record_of, keys_in}

-- what a reader holds after some records: of each kind none, one or many, and the parts
pub record OpParts (l : List Record) (s : OpReader) : Type 0 where
  pub counts : (k : ℕ) → k < 13 → get_or s.counts k 0 ≡ min 2 (how_many k l)
  pub head : s.head ≡ record_of update_kind l
  pub value : s.value ≡ record_of put_value_kind l
  pub under : s.under ≡ clock_of (dots_from (is_kind removal_dot_kind) l)
  pub keys : s.keys ≡ keys_as (keys_in (is_kind removal_key_kind) l)
  pub put : s.put ≡ clock_of (dots_from (is_kind put_dot_kind) l)

pub record OpSoFar (l : List Record) (s : OpReader) : Type 0 where
  pub scanned : Scanned removal_kind put_dot_kind l s.scan
  pub parts : s.scan.number ≡ 0 → OpParts l s
