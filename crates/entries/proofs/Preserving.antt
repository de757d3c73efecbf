-- What holds of an entry's key, clock and values holds of what every rule makes of it: the one law of preservation, at an entry.
use mathlib.Core.Path.{◌≡◌}
use mathlib.Core.Bool.{false}
use mathlib.Core.List.{List}
use Prim.Native.Nat.{ℕ}
use Rattle.listlaws.specs.Order.{◌∈◌}
use Rattle.clock.specs.declared.Dot.{Dot}
use Rattle.clock.specs.Dots.{dots_of, is_empty, cut_dots, common_dots, join_dots, add_dot}
use Rattle.register.specs.declared.Value.{Value}
use Rattle.register.specs.Values.{cut_value, cut_values, put_values, merge_values}
use Rattle.register.proofs.Kept.{cut-each, put-each, merge-each}
use Rattle.entries.specs.declared.Entry.{Entry}
use Rattle.entries.specs.declared.Update.{Update}
use Rattle.entries.specs.Model.{dots_in, values_in, entry_as}
use Rattle.entries.specs.Entries.{cut_entry, put_entry, cut_alone, keep_dots, merge_both}

-- a property of clocks that cutting and joining keep, and one of values that cutting keeps
pub record Closed (C : List Dot → Type 0) (Q : Value → Type 0) : Type 0 where
  pub cut : (by l : List Dot) → C l → C (cut_dots by l)
  pub common : (l m : List Dot) → C l → C (common_dots l m)
  pub join : (l m : List Dot) → C l → C m → C (join_dots l m)
  pub value : (by : List Dot) (v : Value) → Q v → is_empty (cut_dots by (dots_of v.clock)) ≡ false → Q (cut_value by v)

-- a property of entries that is one of its key, of its clock and of each of its values
pub record Made (K : ℕ → Type 0) (C : List Dot → Type 0) (Q : Value → Type 0) (E : Entry → Type 0) : Type 0 where
  pub key : (e : Entry) → E e → K e.key
  pub clock : (e : Entry) → E e → C (dots_in e)
  pub values : (e : Entry) → E e → (v : Value) → v ∈ values_in e → Q v
  pub make : (k : ℕ) (c : List Dot) (l : List Value) → K k → C c → ((v : Value) → v ∈ l → Q v) → E (entry_as k c l)

module _ {K : ℕ → Type 0} {C : List Dot → Type 0} {Q : Value → Type 0} {E : Entry → Type 0} (h : Closed C Q) (m : Made K C Q E) where
  values-cut : (c : List Dot) (l : List Value) → ((v : Value) → v ∈ l → Q v) → (v : Value) → v ∈ cut_values c l → Q v
  values-cut c l f = cut-each Q c l (λ v i n. h.value c v (f v i) n)

  pub entry-cut : (c : List Dot) (e : Entry) → E e → E (cut_entry c e)
  unfolding cut_entry
  entry-cut c e s = m.make e.key (cut_dots c (dots_in e)) (cut_values c (values_in e)) (m.key e s) (h.cut c (dots_in e) (m.clock e s))
      (values-cut c (values_in e) (m.values e s))

  pub entry-put : (u : Update) (e : Entry) → E e → C (add_dot (dots_in e) u.dot) → (is_empty (dots_of u.put.clock) ≡ false → Q u.put)
      → E (put_entry u e)
  unfolding put_entry
  entry-put u e s a p = m.make e.key (add_dot (dots_in e) u.dot) (put_values (values_in e) u.put) (m.key e s) a
      (put-each Q (values_in e) u.put (m.values e s) p)

  pub entry-alone : (other : List Dot) (e : Entry) → E e → E (cut_alone other e)
  unfolding cut_alone
  entry-alone other e s =
      let left = cut_dots other (dots_in e) in
      m.make e.key left (cut_values (cut_dots left other) (values_in e)) (m.key e s) (h.cut other (dots_in e) (m.clock e s))
      (values-cut (cut_dots left other) (values_in e) (m.values e s))

  pub keep-dots : (ours theirs a b : List Dot) → C a → C b → C (keep_dots ours theirs a b)
  unfolding keep_dots
  keep-dots ours theirs a b p q =
      h.join (join_dots (common_dots a b) (cut_dots theirs a)) (cut_dots ours b)
      (h.join (common_dots a b) (cut_dots theirs a) (h.common a b p) (h.cut theirs a p)) (h.cut ours b q)

  pub entry-together : (ours theirs : List Dot) (e f : Entry) → E e → E f → E (merge_both ours theirs e f)
  unfolding merge_both
  entry-together ours theirs e f s t =
      let keep = keep_dots ours theirs (dots_in e) (dots_in f) in
      let by = cut_dots keep (join_dots (dots_in e) (dots_in f)) in
      let l = merge_values (values_in e) (values_in f) in
      m.make e.key keep (cut_values by l) (m.key e s) (keep-dots ours theirs (dots_in e) (dots_in f) (m.clock e s) (m.clock f t))
      (values-cut by l (merge-each Q (values_in e) (values_in f) (m.values e s) (m.values f t)))
