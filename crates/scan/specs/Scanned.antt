-- What a scan holds after some records of an image.
use Rattle.std.specs.Prelude.{◌≡◌, ◌⊎◌, ℕ, ◌+◌, ◌≤◌, Bool, true, false, List, [], ◌∷◌, ◌++◌, get_or}
use Rattle.records.specs.declared.Record.{Record}
use Rattle.records.specs.Kinds.{record_ok, waiting_key_kind}
use Rattle.scan.specs.Formed.{well_formed}
use Rattle.scan.specs.Limits.{outer, middle, inner, same_kind, same_outer, same_middle, tally}
use Rattle.scan.specs.declared.Scan.{Scan}
use Rattle.scan.specs.Numbers.{scan_number}

-- a count after one more record: of another group, of the same group and thing, of the same group and another thing
abbrev pub tally_on : ℕ → Bool → Bool → ℕ
tally_on n false same = 1
tally_on n true false = n + 1
tally_on n true true = n

-- q is the last of l, where there is any
abbrev pub Ends : List Record → Bool → Record → Type 0
Ends l any q = ((any ≡ false) × (l ≡ [])) ⊎ ((any ≡ true) × ((pre : List Record) × (l ≡ pre ++ (q ∷ []))))

pub record Tallied (l : List Record) (s : Scan) : Type 0 where
  pub by-outer : s.outer ≡ tally (same_kind s.last) outer l
  pub by-middle : s.middle ≡ tally (same_outer s.last) middle l
  pub by-inner : s.inner ≡ tally (same_middle s.last) inner l
  pub small : (s.outer ≤ 255) × ((s.middle ≤ 255) × (s.inner ≤ 255))

pub record Scanned (low high : ℕ) (l : List Record) (s : Scan) : Type 0 where
  pub number : s.number ≡ scan_number low high l
  pub ends : well_formed low high l ≡ true → Ends l s.any s.last
  pub tallied : s.number ≡ 0 → Tallied l s

-- r, where it is a good waiting key, finds n of its index before it
abbrev pub CountsUnder : ℕ → ℕ → List Record → Record → ℕ → Type 0
CountsUnder low high l r n = r.kind ≡ waiting_key_kind → record_ok low high r ≡ true → n ≡ tally (same_outer r) middle l

-- the waiting keys of each index, counted in a list
abbrev pub CountedUnder : List Record → List ℕ → Type 0
CountedUnder l under = (p : Record) → p.kind ≡ waiting_key_kind → get_or under p.index 0 ≡ tally (same_outer p) middle l
