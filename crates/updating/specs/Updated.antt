-- An update drawn key by key: the entries that are to come, what comes next of them, and where the put lies.
use Rattle.std.specs.Prelude.{◌≡◌, Bool, false, cond, ◌||◌, List, [], ◌∷◌, ◌⊎◌, ℕ, ◌+◌, ◌-◌, ◌/◌, ◌≤◌, ◌<◌, length}
use Rattle.listlaws.specs.Order.{◌∈◌}
use Rattle.clock.specs.declared.Dot.{Dot}
use Rattle.limits.specs.Limits.{dot_limit}
use Rattle.clock.specs.Dots.{dots_of, add_dot}
use Rattle.clock.specs.Lawful.{Lawful}
use Rattle.register.specs.declared.Value.{Value}
use Rattle.register.specs.Values.{put_values}
use Rattle.entries.specs.declared.Entry.{Entry}
use Rattle.entries.specs.declared.Update.{Update}
use Rattle.entries.specs.Model.{dots_in, values_in, entry_as}
use Rattle.entries.specs.Entries.{put_entry, put_entries}
use Rattle.records.specs.Records.{record_from}
use Rattle.clockimage.specs.Image.{content_of}
use Rattle.runs.specs.Run.{run_dots}
use Rattle.walks.specs.declared.Layout.{Layout}
use Rattle.entrywalk.specs.declared.Cursor.{Cursor}
use Rattle.entrywalk.specs.Walking.{Ahead, LiesAt}
use Rattle.walks.specs.Walk.{between}
use Rattle.updating.specs.declared.Next.{Next}

-- an entry, with the put or without
abbrev pub entry_to : Update → Bool → Entry → Entry
entry_to u put e = cond put (put_entry u e) e

-- its dots and its values
abbrev pub dots_to : Update → Bool → Entry → List Dot
dots_to u put e = cond put (add_dot (dots_in e) u.dot) (dots_in e)

abbrev pub values_to : Update → Bool → Entry → List Value
values_to u put e = cond put (put_values (values_in e) u.put) (values_in e)

-- the entries that are to come: with the put, until it is done
abbrev pub coming : Update → Bool → List Entry → List Entry
coming u done es = cond done es (put_entries u es)

-- how many puts are to come
abbrev pub puts : Bool → ℕ
puts done = cond done 0 1

-- where an operation's image has the put of an update: its value in the second record, and its dots from the third on
pub record PutLies (op : List ℕ) (u : Update) : Type 0 where
  pub some : 2 ≤ length op / 16
  pub few : length op / 16 ≤ 2 + dot_limit
  pub value : content_of (record_from op 16) ≡ u.put.value
  pub dots : run_dots (between op 2 (length op / 16)) ≡ dots_of u.put.clock
  pub lawful : Lawful (dots_of u.put.clock)

-- what comes next of the entries es and of a put that is done or not: an entry, empty where the map has none of the put's key
pub record UpdateComes (s : List ℕ) (l : Layout) (u : Update) (x : Cursor) (done : Bool) (es : List Entry) (r : Next) : Type 0 where
  pub entry : Entry
  pub more : List Entry
  pub first : coming u done es ≡ entry_to u r.put entry ∷ coming u (done || r.put) more
  pub lies : LiesAt s entry r.entry
  pub known : (entry ∈ es) ⊎ (entry ≡ entry_as u.key [] [])
  pub ahead : Ahead s l r.entry.next more
  pub inside : (e : Entry) → e ∈ more → e ∈ es
  pub above : (e : Entry) → e ∈ more → r.entry.key < e.key
  pub below : (done || r.put) ≡ false → r.entry.key < u.key
  pub least : (low : ℕ) → ((e : Entry) → e ∈ es → low ≤ e.key) → (done ≡ false → low ≤ u.key) → low ≤ r.entry.key
  pub less : (l.third - r.entry.next.own) + puts (done || r.put) < (l.third - x.own) + puts done
  pub fewer : length more + puts (done || r.put) < length es + puts done
