-- What a map's image is laid out as: its six sections, and where they stand.
use Rattle.std.specs.Prelude.{◌≡◌, Bool, ◌&&◌, cond, List, [], map, ℕ, ◌/◌, eqb, leb, length, replicate}
use Rattle.map.specs.declared.Map.{Map}
use Rattle.map.specs.Model.{seen_by, entries_in, waiting_in}
use Rattle.map.specs.Valid.{Within}
use Rattle.records.specs.declared.Record.{Record}
use Rattle.scan.specs.Numbers.{scan_number}
use Rattle.clockimage.specs.Image.{dot_of, dot_records}
use Rattle.mapimage.specs.MapImage.{flat_from, entry_records, waiting_dots, waiting_keys}
use Rattle.limits.specs.Limits.{dot_limit, entry_limit, waiting_limit}
use Rattle.records.specs.Kinds.{clock_dot_kind, entry_dot_kind, value_kind, value_dot_kind, waiting_dot_kind, waiting_key_kind}
use Rattle.walks.specs.Walk.{Sections, Splits, part, dot_test, run_end, entries_end, waits_end, keys_good}
use Rattle.walks.specs.declared.Layout.{Layout}
use Rattle.layout.specs.declared.Laid.{Laid}

-- six lists of records are the sections of a map's image
pub record Sectioned (m : Map) (a b c d e f : List Record) : Type 0 where
  pub first : dot_records clock_dot_kind 0 0 (seen_by m) ≡ a
  pub second : flat_from (entry_records entry_dot_kind) 0 (entries_in m) ≡ b
  pub third : flat_from (entry_records value_kind) 0 (entries_in m) ≡ c
  pub fourth : flat_from (entry_records value_dot_kind) 0 (entries_in m) ≡ d
  pub fifth : flat_from waiting_dots 0 (waiting_in m) ≡ e
  pub sixth : waiting_keys (waiting_in m) ≡ f

-- the walks accept six sections
unfoldable pub recognised : List Record → List Record → List Record → List Record → List Record → List Record → Bool
recognised a b c d e f =
    eqb (run_end (dot_test clock_dot_kind 0 0) 0 dot_limit 0 a) (length a) && (leb (entries_end (map dot_of a) entry_limit 0 0 b c d) entry_limit
    && (leb (waits_end waiting_limit 0 [] e) waiting_limit
    && keys_good (waits_end waiting_limit 0 [] e) (replicate waiting_limit 0) 0 f))

abbrev pub recognised_at : List ℕ → Layout → Bool
recognised_at s l =
    recognised (part s 0 l.second) (part s l.second l.third) (part s l.third l.fourth) (part s l.fourth l.fifth)
    (part s l.fifth l.sixth) (part s l.sixth l.end)

-- each place is the one where its kind begins, if there is one
pub record Parted (s : List ℕ) (l : Layout) : Type 0 where
  pub end : l.end ≡ length s / 16
  pub places : Sections (length s) l
  pub second : (at : ℕ) → Splits s 0 entry_dot_kind 0 l.end at → l.second ≡ at
  pub third : (at : ℕ) → Splits s 0 value_kind l.second l.end at → l.third ≡ at
  pub fourth : (at : ℕ) → Splits s 0 value_dot_kind l.third l.end at → l.fourth ≡ at
  pub fifth : (at : ℕ) → Splits s 0 waiting_dot_kind l.fourth l.end at → l.fifth ≡ at
  pub sixth : (at : ℕ) → Splits s 0 waiting_key_kind l.fifth l.end at → l.sixth ≡ at

-- 1 or 2 where the records show it one by one, else 3
abbrev pub slow_number : List Record → ℕ
slow_number l = cond (eqb (scan_number clock_dot_kind waiting_key_kind l) 0) 3 (scan_number clock_dot_kind waiting_key_kind l)

-- s is the image of a map within the limits, and these are the places of its sections
pub record Lies (s : List ℕ) (m : Map) (l : Layout) : Type 0 where
  pub within : Within m
  pub end : l.end ≡ length s / 16
  pub places : Sections (length s) l
  pub sections : Sectioned m (part s 0 l.second) (part s l.second l.third) (part s l.third l.fourth)
      (part s l.fourth l.fifth) (part s l.fifth l.sixth) (part s l.sixth l.end)

-- what `lay_out` answers of the image of m
pub record LaidOut (s : List ℕ) (m : Map) (r : Laid) : Type 0 where
  pub clock : r.clock ≡ m.clock
  pub entries : r.entries ≡ length (entries_in m)
  pub waits : r.waits ≡ length (waiting_in m)
  pub lies : Lies s m r.layout
