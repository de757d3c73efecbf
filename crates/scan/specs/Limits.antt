-- When the records of an image are within the limits: "distinct keys, indexes, actors present are counted, one kind at a time".
use Rattle.std.specs.Prelude.{ℕ, Bool, not, cond, ◌&&◌, List, [], ◌∷◌, ◌++◌, eqb, leb, get_or}
use Rattle.listlaws.specs.First.{some}
use Rattle.limits.specs.Limits.{dot_limit, value_limit, entry_limit, waiting_limit, key_limit}
use Rattle.records.specs.declared.Record.{Record}
use Rattle.records.specs.Kinds.{actor_of, waiting_key_kind}
use Rattle.scan.specs.Each.{count_given, each}

-- what is counted in a kind, under that, and under both: keys, indexes, actors; and for a waiting key, of a kind by which indexes hold
-- keys: indexes, keys
abbrev pub outer : Record → ℕ
outer r = cond (eqb r.kind waiting_key_kind) r.index r.key

abbrev pub middle : Record → ℕ
middle r = cond (eqb r.kind waiting_key_kind) r.key r.index

abbrev pub inner : Record → ℕ
inner r = actor_of r

-- the two limits that sleds of several sizes have of their own: so many entries, so many waiting removals; all others are the same for each
pub record Limits : Type 0 where
  pub entries : ℕ
  pub waiting : ℕ

-- those of this sled
abbrev pub today : Limits
today = record { entries = entry_limit; waiting = waiting_limit }

-- by kind, from kind 0, which is none; a level that a kind does not use has one thing; update heads have no limit, and no operation has so
-- many records
abbrev pub outer_by : Limits → List ℕ
outer_by t = 0 ∷ 1 ∷ t.entries ∷ t.entries ∷ t.entries ∷ 1 ∷ t.waiting ∷ 1 ∷ 1 ∷ key_limit ∷ 255 ∷ 1 ∷ 1 ∷ []

abbrev pub middle_by : Limits → List ℕ
middle_by t = 0 ∷ 1 ∷ 1 ∷ value_limit ∷ value_limit ∷ t.waiting ∷ key_limit ∷ 1 ∷ 1 ∷ 1 ∷ 255 ∷ 1 ∷ 1 ∷ []

abbrev pub outer_limits : List ℕ
outer_limits = outer_by today

abbrev pub middle_limits : List ℕ
middle_limits = middle_by today

abbrev pub inner_limits : List ℕ
inner_limits = 0 ∷ dot_limit ∷ dot_limit ∷ 1 ∷ dot_limit ∷ dot_limit ∷ 1 ∷ 1 ∷ dot_limit ∷ 1 ∷ 255 ∷ 1 ∷ dot_limit ∷ []

abbrev pub limit_at : List ℕ → ℕ → ℕ
limit_at limits kind = get_or limits kind 0

-- records of one kind, of one kind and outer thing, of one kind, outer and middle thing
abbrev pub same_kind : Record → Record → Bool
same_kind r s = eqb s.kind r.kind

abbrev pub same_outer : Record → Record → Bool
same_outer r s = same_kind r s && eqb (outer s) (outer r)

abbrev pub same_middle : Record → Record → Bool
same_middle r s = same_outer r s && eqb (middle s) (middle r)

-- x is in the group, and what f gives of it is given by none of the group before it
abbrev pub fresh : (Record → Bool) → (Record → ℕ) → List Record → Record → Bool
fresh group f seen x = group x && not (some (λ s. group s && eqb (f s) (f x)) seen)

-- how many distinct numbers f gives in a group: each is counted where it first stands
unfoldable pub tally : (Record → Bool) → (Record → ℕ) → List Record → ℕ
tally group f l = count_given (fresh group f) l

-- the counts of one kind within its limits
abbrev pub within_limits_by : Limits → ℕ → ℕ → ℕ → ℕ → Bool
within_limits_by t kind o m i = leb o (limit_at (outer_by t) kind) && (leb m (limit_at (middle_by t) kind) && leb i (limit_at inner_limits kind))

abbrev pub within_limits : ℕ → ℕ → ℕ → ℕ → Bool
within_limits = within_limits_by today

-- the records up to r, r included, keep the limits of its kind
abbrev pub room_by : Limits → List Record → Record → Bool
room_by t seen r =
    within_limits_by t r.kind (tally (same_kind r) outer (seen ++ (r ∷ [])))
    (tally (same_outer r) middle (seen ++ (r ∷ []))) (tally (same_middle r) inner (seen ++ (r ∷ [])))

abbrev pub room : List Record → Record → Bool
room = room_by today

abbrev pub within_by : Limits → List Record → Bool
within_by t l = each (room_by t) l

unfoldable pub within : List Record → Bool
within l = within_by today l
