-- An entry stays valid: cut, with a dot and a put, merged, and under a larger clock.
use mathlib.Core.Path.{◌≡◌, ap, sym, ◌∙◌}
use mathlib.Core.Bool.{true, false}
use mathlib.Core.List.Memᴰ
use mathlib.Core.List.{List, []}
use Prim.Native.Nat.{ℕ, ◌<◌}
use Rattle.listlaws.specs.Order.{◌∈◌}
use Rattle.clock.specs.declared.Dot.{Dot}
use Rattle.clock.specs.Dots.{dots_of, is_empty, covers, cut_dots, join_dots, add_dot}
use Rattle.clock.specs.Lawful.{Lawful}
use Rattle.clock.proofs.Cuts.{lawful-cut, lawful-common}
use Rattle.clock.proofs.Joins.{lawful-nil, lawful-join, lawful-add}
use Rattle.clock.proofs.Covers.{covers-trans, covers-cut, covers-add, covers-join, covers-join-left, covers-join-right}
use Rattle.clock.proofs.Within.{covers-nil, covers-common, covers-cuts, covers-adds}
use Rattle.register.specs.declared.Value.{Value}
use Rattle.register.specs.Values.{cut_values}
use Rattle.register.proofs.Kept.{cut-each}
use Rattle.removals.specs.declared.Removal.{Removal}
use Rattle.removals.specs.Model.{under_of}
use Rattle.entries.specs.declared.Entry.{Entry}
use Rattle.entries.specs.declared.Update.{Update}
use Rattle.entries.specs.Model.{dots_in, values_in, entry_as}
use Rattle.entries.specs.Entries.{cut_entry, remove_from, put_entry, cut_alone, merge_both}
use Rattle.entries.specs.Valid.{ValidValue, ValidEntry}
use Rattle.entries.proofs.Packs.{dots-in, values-in, laid_as}
use Rattle.entries.proofs.Preserving.{Closed, Made, entry-cut, entry-put, entry-alone, entry-together}
use Rattle.entries.proofs.Cuts.{Whole, whole-valid, whole-as, valid-cut-value, cut-dots}
use Rattle.entries.proofs.Runs.{from}
use Rattle.entries.proofs.Puts.{put_some}

module _ (k : ℕ) (c : List Dot) (l : List Value) where
  pub valid-as : {seen : List Dot} → Lawful c → is_empty c ≡ false → covers seen c ≡ true → ((v : Value) → v ∈ l → ValidValue v)
      → ValidEntry seen (entry_as k c l)
  valid-as h n t f = record {
    laid = laid_as k c l;
    clock = rw (dots-in k c l) h;
    some = rw (dots-in k c l) n;
    covered = rw (dots-in k c l) t;
    values = λ v i. f v (rw (values-in k c l) at i);
  }

pub valid-more : {seen more : List Dot} {e : Entry} → ValidEntry seen e → covers more seen ≡ true → ValidEntry more e
valid-more {seen} {more} v t = record {
  laid = v.laid;
  clock = v.clock;
  some = v.some;
  covered = covers-trans more seen _ t v.covered;
  values = v.values;
}

-- a clock that the map's clock covers
record Below (seen c : List Dot) : Type 0 where
  lawful : Lawful c
  covered : covers seen c ≡ true

below-closed : (seen : List Dot) → Closed (Below seen) ValidValue
below-closed seen = record {
  cut = λ by l h. let k = lawful-cut by h.lawful in
      record { lawful = k; covered = covers-trans seen l _ h.covered (covers-cut by h.lawful) };
  common = λ l m h. let k = lawful-common m h.lawful in
      record { lawful = k; covered = covers-trans seen l _ h.covered (covers-common m h.lawful) };
  join = λ l m h k. record {
    lawful = lawful-join h.lawful k.lawful;
    covered = covers-join h.lawful k.lawful seen h.covered
        k.covered;
  };
  value = valid-cut-value;
}

-- an entry that is valid, but its clock may be empty
record Nearly (seen : List Dot) (e : Entry) : Type 0 where
  whole : Whole e
  below : Below seen (dots_in e)

nearly-made : (seen : List Dot) → Made (λ k. Unit {0}) (Below seen) ValidValue (Nearly seen)
nearly-made seen = record {
  key = λ e h. tt;
  clock = λ e h. h.below;
  values = λ e h. h.whole.values;
  make = λ k c l t h f. record { whole = whole-as k h.lawful f; below = rw (dots-in k c l) h };
}

nearly : {seen : List Dot} {e : Entry} → ValidEntry seen e → Nearly seen e
nearly v = record { whole = whole-valid v; below = record { lawful = v.clock; covered = v.covered } }

fully : {seen : List Dot} {e : Entry} → Nearly seen e → is_empty (dots_in e) ≡ false → ValidEntry seen e
fully h n = record { laid = h.whole.laid; clock = h.whole.clock; some = n; covered = h.below.covered; values = h.whole.values }

module _ {seen : List Dot} {e : Entry} (v : ValidEntry seen e) where
  pub valid-cut : (c : List Dot) → is_empty (cut_dots c (dots_in e)) ≡ false → ValidEntry seen (cut_entry c e)
  valid-cut c n = fully (entry-cut (below-closed seen) (nearly-made seen) c e (nearly v)) (ap is_empty (cut-dots c e) ∙ n)

  -- cut along with the map's clock
  pub valid-reset : Lawful seen → (c : List Dot) → is_empty (cut_dots c (dots_in e)) ≡ false → ValidEntry (cut_dots c seen) (cut_entry c e)
  unfolding cut_entry
  valid-reset h c n =
      valid-as e.key (cut_dots c (dots_in e)) (cut_values c (values_in e)) (lawful-cut c v.clock) n (covers-cuts h v.clock v.covered c)
      (cut-each ValidValue c (values_in e) (λ w i m. valid-cut-value c w (v.values w i) m))

  pub valid-from : (r : Removal) → is_empty (dots_in (remove_from r e)) ≡ false → ValidEntry seen (remove_from r e)
  valid-from r =
      from r e (λ x. is_empty (dots_in x) ≡ false → ValidEntry seen x)
      (λ n. valid-cut (under_of r) (ap is_empty (sym (cut-dots (under_of r) e)) ∙ n)) (λ n. v)

-- an entry, or a new one, with a dot and a put
module _ {seen : List Dot} (h : Lawful seen) (u : Update) (n : 0 < u.dot.counter) (g : is_empty (dots_of u.put.clock) ≡ false
    → ValidValue u.put) where
  -- the map's clock with the dot covers an entry's clock with it
  added : {c : List Dot} → Below seen c → Below (add_dot seen u.dot) (add_dot c u.dot)
  added b = record { lawful = lawful-add b.lawful u.dot; covered = covers-adds h b.lawful b.covered u.dot }

  pub valid-put : {e : Entry} → ValidEntry seen e → ValidEntry (add_dot seen u.dot) (put_entry u e)
  valid-put {e} v =
      fully (entry-put (below-closed (add_dot seen u.dot)) (nearly-made (add_dot seen u.dot)) u e (nearly (valid-more v (covers-add h u.dot)))
      (added (nearly v).below) g) (put_some u e v.clock n)

  pub valid-new : (k : ℕ) → ValidEntry (add_dot seen u.dot) (put_entry u (entry_as k [] []))
  valid-new k =
      let none : (s : List Dot) → Nearly s (entry_as k [] []) = λ s. (nearly-made s).make k [] [] tt
      (record { lawful = lawful-nil; covered = covers-nil s }) (λ v i. absurd (Memᴰ.not-nil i)) in
      fully (entry-put (below-closed (add_dot seen u.dot)) (nearly-made (add_dot seen u.dot)) u (entry_as k [] []) (none (add_dot seen u.dot))
      (added (none seen).below) g)
      (put_some u (entry_as k [] []) (none seen).whole.clock n)

-- an entry that one side has alone
pub valid-alone : {seen : List Dot} {e : Entry} → ValidEntry seen e → (other : List Dot) → is_empty (dots_in (cut_alone other e)) ≡ false
    → ValidEntry seen (cut_alone other e)
valid-alone {seen} {e} v other n = fully (entry-alone (below-closed seen) (nearly-made seen) other e (nearly v)) n

-- an entry that both sides have
pub valid-together : {ours theirs : List Dot} {e f : Entry} → Lawful ours → Lawful theirs → ValidEntry ours e → ValidEntry theirs f
    → is_empty (dots_in (merge_both ours theirs e f)) ≡ false → ValidEntry (join_dots ours theirs) (merge_both ours theirs e f)
valid-together {ours} {theirs} {e} {f} h k v w n =
    let both = join_dots ours theirs in
    fully
    (entry-together (below-closed both) (nearly-made both) ours theirs e f (nearly (valid-more v (covers-join-left h k)))
    (nearly (valid-more w (covers-join-right h k)))) n
