-- When the records of an image are well formed: each good by itself, strictly ascending.
use Rattle.std.specs.Prelude.{ℕ, Bool, ◌&&◌, List}
use Rattle.records.specs.declared.Record.{Record}
use Rattle.records.specs.Kinds.{record_ok, before}
use Rattle.scan.specs.Each.{every, each}

-- good by itself, and behind all that stand before it
abbrev pub follows : ℕ → ℕ → List Record → Record → Bool
follows low high seen r = record_ok low high r && every (λ s. before s r) seen

unfoldable pub well_formed : ℕ → ℕ → List Record → Bool
well_formed low high l = each (follows low high) l
