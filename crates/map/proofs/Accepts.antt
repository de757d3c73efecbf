-- Where the end map of a list of removals is within the limits, so is the map at every stage (`stage`); and what it means that a map is
-- (`fits-means`, `fits-holds`).
use mathlib.Core.Path.{◌≡◌, refl, ap, ◌∙◌}
use mathlib.Core.Bool.{Bool, true, false, ◌||◌, cond}
use mathlib.Core.List.Memᴰ
use mathlib.Core.List.{List, ◌++◌}
use Prim.Native.Nat.{ℕ, ◌≤◌}
use native.Mathlib.Omega.{arith}
use borrow.Author.Tests.{ltb-false, le-ltb}
use lib.ListN.{length}
use Rattle.listlaws.specs.First.{some}
use Rattle.listlaws.specs.Fold.{fold}
use Rattle.listlaws.specs.Sift.{those}
use Rattle.listlaws.specs.Order.{◌∈◌}
use Rattle.listlaws.proofs.Orders.{apart}
use Rattle.listlaws.proofs.Folds.{fold-append}
use Rattle.listlaws.proofs.Sifts.{sift-append}
use Rattle.listlaws.proofs.Somes.{some-false, false-some}
use Rattle.clock.specs.declared.Dot.{Dot}
use Rattle.limits.specs.Limits.{dot_limit, value_limit, entry_limit, waiting_limit, key_limit}
use Rattle.clock.specs.Dots.{dots_of, clock_of}
use Rattle.clock.proofs.Packs.{dots-of}
use Rattle.register.specs.declared.Value.{Value}
use Rattle.entries.specs.declared.Entry.{Entry}
use Rattle.removals.specs.declared.Removal.{Removal}
use Rattle.entries.specs.Model.{dots_in, values_in}
use Rattle.removals.specs.Model.{under_of, listed_in}
use Rattle.removals.specs.Waits.{waits, unite_into}
use Rattle.removals.specs.Valid.{ValidRemoval}
use Rattle.entries.proofs.Packs.{entries-of}
use Rattle.removals.proofs.Packs.{waiting-of}
use Rattle.entries.proofs.Runs.{runs}
use Rattle.removals.proofs.WaitingValid.{ready-those, into-all}
use Rattle.entries.proofs.Limits.{EntryFits, runs_fit, runs-length}
use Rattle.removals.proofs.Lengths.{RemovalFits, into-longer, into-fits}
use Rattle.map.specs.declared.Map.{Map}
use Rattle.map.specs.Model.{seen_by, entries_in, waiting_in, map_as}
use Rattle.map.specs.Removing.{remove}
use Rattle.map.specs.Judging.{exceeding, over_dots, over_entries, over_values, over_waiting, over_keys, over_number}
use Rattle.map.specs.Valid.{Valid}
use Rattle.map.proofs.Orders.{removes-valid}

-- a map within every limit
pub record Fits (m : Map) : Type 0 where
  pub clock : length (seen_by m) ≤ dot_limit
  pub count : length (entries_in m) ≤ entry_limit
  pub entries : (e : Entry) → e ∈ entries_in m → EntryFits e
  pub number : length (waiting_in m) ≤ waiting_limit
  pub waiting : (r : Removal) → r ∈ waiting_in m → RemovalFits r

or-false : (b c : Bool) → (b || c) ≡ false → (b ≡ false) × (c ≡ false)
or-false true c t = apart t
or-false false c t = (refl, t)

false-or : {b c : Bool} → b ≡ false → c ≡ false → (b || c) ≡ false
false-or e f = rw (e, f)

within : {A : Type 0} (limit : ℕ) (l : List A) → exceeding limit l ≡ false → length l ≤ limit
within limit l t = ltb-false limit (length l) t

pub not-over : {A : Type 0} (limit : ℕ) (l : List A) → length l ≤ limit → exceeding limit l ≡ false
not-over limit l h = le-ltb limit (length l) h

-- an entry, or a value, with too long a clock
abbrev long : Value → Bool
long v = exceeding dot_limit (dots_of v.clock)

abbrev long_entry : Entry → Bool
long_entry e = exceeding dot_limit (dots_in e) || some long (values_in e)

-- no limit is broken
record Keeps (m : Map) : Type 0 where
  dots : over_dots m ≡ false
  entries : over_entries m ≡ false
  values : over_values m ≡ false
  waiting : over_waiting m ≡ false
  keys : over_keys m ≡ false

keeps-means : (m : Map) → over_number m ≡ 0 → Keeps m
unfolding over_number
keeps-means m e = go (over_dots m) (over_entries m) (over_values m) (over_waiting m) (over_keys m) refl refl refl refl refl e
  where
    go : (a b c d f : Bool) → over_dots m ≡ a → over_entries m ≡ b → over_values m ≡ c → over_waiting m ≡ d → over_keys m ≡ f
        → ◌≡◌ {A = ℕ} (cond a 4 (cond b 5 (cond c 6 (cond d 7 (cond f 8 0))))) 0 → Keeps m
    go true b c d f p q r s t z = absurd (omega arith)
    go false true c d f p q r s t z = absurd (omega arith)
    go false false true d f p q r s t z = absurd (omega arith)
    go false false false true f p q r s t z = absurd (omega arith)
    go false false false false true p q r s t z = absurd (omega arith)
    go false false false false false p q r s t z = record { dots = p; entries = q; values = r; waiting = s; keys = t }

pub fits-means : (m : Map) → over_number m ≡ 0 → Fits m
unfolding over_dots over_entries over_values over_waiting over_keys
fits-means m z =
    let k = keeps-means m z in
    let p = or-false (exceeding dot_limit (seen_by m)) _ k.dots in
    let q = or-false (some long_entry (entries_in m)) _ p.1 in
    record {
      clock = within dot_limit (seen_by m) p.0;
      count = within entry_limit (entries_in m) k.entries;
      entries = λ e i. let d = or-false (exceeding dot_limit (dots_in e)) _ (some-false long_entry q.0 e i) in record {
        dots = within dot_limit (dots_in e) d.0;
        count = within value_limit (values_in e) (some-false (λ x. exceeding value_limit (values_in x)) k.values e i);
        each = λ v j. within dot_limit (dots_of v.clock) (some-false long d.1 v j);
      };
      number = within waiting_limit (waiting_in m) k.waiting;
      waiting = λ r i. record {
        dots = within dot_limit (under_of r) (some-false (λ x. exceeding dot_limit (under_of x)) q.1 r i);
        keys = within key_limit (listed_in r) (some-false (λ x. exceeding key_limit (listed_in x)) k.keys r i);
      };
    }

pub fits-holds : {m : Map} → Fits m → over_number m ≡ 0
unfolding over_number over_dots over_entries over_values over_waiting over_keys
fits-holds {m} h =
    let d = false-some long_entry (entries_in m) (λ e i. false-or (not-over dot_limit (dots_in e) (h.entries e i).dots)
    (false-some long (values_in e) (λ v j. not-over dot_limit (dots_of v.clock) ((h.entries e i).each v j)))) in
    rw (
      not-over dot_limit (seen_by m) h.clock,
      d,
      false-some (λ r. exceeding dot_limit (under_of r)) (waiting_in m) (λ r i. not-over dot_limit (under_of r) (h.waiting r i).dots),
      not-over entry_limit (entries_in m) h.count,
      false-some (λ e. exceeding value_limit (values_in e)) (entries_in m) (λ e i. not-over value_limit (values_in e) (h.entries e i).count),
      not-over waiting_limit (waiting_in m) h.number,
      false-some (λ r. exceeding key_limit (listed_in r)) (waiting_in m) (λ r i. not-over key_limit (listed_in r) (h.waiting r i).keys),
    )

pub fits-as : (c : List Dot) (l : List Entry) (w : List Removal) → length c ≤ dot_limit → length l ≤ entry_limit → ((e : Entry) → e ∈ l → EntryFits e)
    → length w ≤ waiting_limit → ((r : Removal) → r ∈ w → RemovalFits r) → Fits (map_as c l w)
fits-as c l w a b f d g = record {
  clock = rw (dots-of {c = clock_of c} c refl) a;
  count = rw (entries-of l) b;
  entries = rw (entries-of l) f;
  number = rw (waiting-of w) d;
  waiting = rw (waiting-of w) g;
}

-- where the end map is within the limits, so is the map at an earlier stage
pub stage : {m : Map} (ws vs : List Removal) → Valid m → ((w : Removal) → w ∈ (ws ++ vs) → ValidRemoval w) → over_number m ≡ 0
    → over_number (fold remove m (ws ++ vs)) ≡ 0 → over_number (fold remove m ws) ≡ 0
stage {m} ws vs h f y z =
    rw (removes-valid h ws)
    (fits-holds (fits-as (seen_by m) (runs ws (entries_in m)) now a.clock
    (omega (arith, a.count, runs-length ws (entries_in m))) (runs_fit ws (entries_in m) a.entries)
    (omega (arith, b.number, ap length whole, into-longer (those p vs) now))
    (into-fits (those p vs) (into-all (those p ws) h.waiting (ready-those (seen_by m) (λ w i. f w (Memᴰ.append_left vs i))))
    (ready-those (seen_by m) (λ w i. f w (Memᴰ.append_right ws i))) (rw whole at b.waiting))))
  where
    p : Removal → Bool
    p = waits (seen_by m)

    -- what waits at that stage
    now : List Removal
    now = fold unite_into (waiting_in m) (those (waits (seen_by m)) ws)

    a : Fits m
    a = fits-means m y

    b : Fits (fold remove m (ws ++ vs))
    b = fits-means (fold remove m (ws ++ vs)) z

    -- what waits at the end
    whole : waiting_in (fold remove m (ws ++ vs)) ≡ fold unite_into now (those p vs)
    whole =
        ap (λ x. waiting_in x) (removes-valid h (ws ++ vs)) ∙ waiting-of (fold unite_into (waiting_in m) (those p (ws ++ vs)))
        ∙ ap (fold unite_into (waiting_in m)) (sift-append p (λ x. x) ws vs) ∙ fold-append unite_into (waiting_in m) (those p ws) (those p vs)
