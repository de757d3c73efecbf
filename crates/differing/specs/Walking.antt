-- The next key of two maps whose entries lie ahead in their images, and its class.
use Rattle.std.specs.Prelude.{◌≡◌, List, ◌∷◌, ℕ, ◌+◌, ◌≤◌, ◌<◌, length}
use Rattle.entries.specs.declared.Entry.{Entry}
use Rattle.walks.specs.declared.Layout.{Layout}
use Rattle.entrywalk.specs.declared.Cursor.{Cursor}
use Rattle.entrywalk.specs.Walking.{Ahead}
use Rattle.differences.specs.Differences.{classed}
use Rattle.differing.specs.declared.Next.{Next}

-- 32 entries of each map
abbrev pub told_most : ℕ
told_most = 64

-- what comes next of the entries of two maps, es and fs, and what is left of them behind it
pub record Comes (s t : List ℕ) (l m : Layout) (x y : Cursor) (es fs : List Entry) (r : Next) : Type 0 where
  pub more : List Entry
  pub others : List Entry
  pub first : classed es fs ≡ r.told ∷ classed more others
  pub ahead : Ahead s l r.x more
  pub beside : Ahead t m r.y others
  pub onward : x.own ≤ r.x.own
  pub outward : y.own ≤ r.y.own
  pub some : x.own + y.own < r.x.own + r.y.own
  pub fewer : length more + length others < length es + length fs
