-- "The settings are the frame and, for each key, which values stand: all but the value clocks and the order of a key's values."
use Rattle.std.specs.Prelude.{◌≡◌, ℕ}
use mathlib.Core.List.{List, map, Permᴰ}
use Rattle.register.specs.declared.Content.{Content}
use Rattle.entries.specs.Model.{dots_in, values_in}
use Rattle.map.specs.declared.Map.{Map}
use Rattle.map.specs.Model.{seen_by, waiting_in}
use Rattle.alikelaws.specs.Picture.{at_key}

-- a key's values without their clocks
abbrev pub contents_at : Map → ℕ → List Content
contents_at m k = map (λ v. v.value) (values_in (at_key m k))

pub record SameSettings (m n : Map) : Type 0 where
  -- "The frame of a map is its clock, entry clocks and waiting removals (kinds 1, 2, 5, 6)."
  pub clock : seen_by m ≡ seen_by n
  pub entries : (k : ℕ) → dots_in (at_key m k) ≡ dots_in (at_key n k)
  pub waiting : waiting_in m ≡ waiting_in n
  -- "kind 3 as a heap"
  pub values : (k : ℕ) → Permᴰ (contents_at m k) (contents_at n k)
