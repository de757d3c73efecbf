-- Cutting an entry twice, again, and by nothing; a cut leaves it laid down and keeps its key.
use mathlib.Core.Path.{◌≡◌, ap, ap₂, sym, refl, ◌∙◌}
use mathlib.Core.Bool.{false, true}
use mathlib.Core.List.Memᴰ
use mathlib.Core.List.{List, []}
use Prim.Native.Nat.{ℕ}
use Rattle.listlaws.specs.Order.{◌∈◌}
use Rattle.listlaws.proofs.Pads.{take-pad}
use Rattle.clock.specs.declared.Dot.{Dot}
use Rattle.limits.specs.Limits.{dot_limit}
use Rattle.clock.specs.Dots.{no_dot, dots_of, clock_of, is_empty, cut_dots, join_dots}
use Rattle.clock.specs.Lawful.{Lawful}
use Rattle.clock.proofs.Cuts.{lawful-cut, lawful-common, cut-trade, cut-none}
use Rattle.clock.proofs.Joins.{lawful-join, lawful-nil, cut-cut}
use Rattle.clock.proofs.Empties.{empty-cut}
use Rattle.register.specs.declared.Value.{Value}
use Rattle.register.specs.Values.{cut_value, cut_values}
use Rattle.register.proofs.Cuts.{Sound, cut-values-none, cut-values-cut, cut-values-trade}
use Rattle.entries.specs.declared.Entry.{Entry}
use Rattle.entries.specs.Model.{dots_in, values_in, entry_as, LaidDown}
use Rattle.entries.specs.Valid.{ValidValue, ValidEntry}
use Rattle.entries.specs.Entries.{cut_entry}
use Rattle.entries.proofs.Packs.{dots-in, values-in, laid_as}
use Rattle.entries.proofs.Preserving.{Closed, Made, entry-cut}

-- an entry laid down, with a clock that may be empty, and values under clocks that are not
pub record Whole (e : Entry) : Type 0 where
  pub laid : LaidDown e
  pub clock : Lawful (dots_in e)
  pub values : (v : Value) → v ∈ values_in e → ValidValue v

pub whole-valid : {seen : List Dot} {e : Entry} → ValidEntry seen e → Whole e
whole-valid h = record { laid = h.laid; clock = h.clock; values = h.values }

sound-valid : {v : Value} → ValidValue v → Sound v
sound-valid h = (h.laid, h.clock, h.some)

pub cut-none-values : (l : List Value) → ((v : Value) → v ∈ l → ValidValue v) → cut_values [] l ≡ l
cut-none-values l f = cut-values-none l (λ v i. sound-valid (f v i))

pub valid-cut-value : (c : List Dot) (v : Value) → ValidValue v → is_empty (cut_dots c (dots_of v.clock)) ≡ false → ValidValue (cut_value c v)
valid-cut-value c v h n =
    let e = take-pad no_dot dot_limit (cut_dots c (dots_of v.clock)) in
    record { laid = ap (λ x. record { clock = clock_of x; value = v.value }) (sym e); clock = rw e (lawful-cut c h.clock); some = rw e n }

-- valid values under clocks: what cutting and joining keep
pub lawful-closed : Closed Lawful ValidValue
lawful-closed = record {
  cut = λ by l h. lawful-cut by h;
  common = λ l m h. lawful-common m h;
  join = λ l m h k. lawful-join h k;
  value = valid-cut-value;
}

pub whole-as : (k : ℕ) {c : List Dot} {l : List Value} → Lawful c → ((v : Value) → v ∈ l → ValidValue v) → Whole (entry_as k c l)
whole-as k {c} {l} h f = record {
  laid = laid_as k c l;
  clock = rw (dots-in k c l) h;
  values = rw (values-in k c l) f;
}

pub whole-none : (k : ℕ) → Whole (entry_as k [] [])
whole-none k = whole-as k lawful-nil (λ v i. absurd (Memᴰ.not-nil i))

pub whole-made : Made (λ k. Unit {0}) Lawful ValidValue Whole
whole-made = record { key = λ e h. tt; clock = λ e h. h.clock; values = λ e h. h.values; make = λ k c l t h f. whole-as k h f }

module _ (c : List Dot) (e : Entry) where
  pub cut-key : (cut_entry c e).key ≡ e.key
  unfolding cut_entry
  cut-key = refl

  pub cut-dots : dots_in (cut_entry c e) ≡ cut_dots c (dots_in e)
  unfolding cut_entry
  cut-dots = dots-in e.key (cut_dots c (dots_in e)) (cut_values c (values_in e))

  pub cut-values : values_in (cut_entry c e) ≡ cut_values c (values_in e)
  unfolding cut_entry
  cut-values = values-in e.key (cut_dots c (dots_in e)) (cut_values c (values_in e))

  pub laid-cut : LaidDown (cut_entry c e)
  unfolding cut_entry
  laid-cut = laid_as _ _ _

  pub gone-cut : is_empty (dots_in e) ≡ true → is_empty (dots_in (cut_entry c e)) ≡ true
  gone-cut t = rw cut-dots (empty-cut c (dots_in e) t)

  pub whole-cut : Whole e → Whole (cut_entry c e)
  whole-cut h = entry-cut lawful-closed whole-made c e h

-- a cut of an entry, by its dots and values
cut_twice : (c d : List Dot) (e : Entry)
    → cut_entry d (cut_entry c e) ≡ entry_as e.key (cut_dots d (cut_dots c (dots_in e))) (cut_values d (cut_values c (values_in e)))
unfolding cut_entry
cut_twice c d e = ap₂ (λ x l. entry_as e.key (cut_dots d x) (cut_values d l)) (cut-dots c e) (cut-values c e)

pub cut-entry-cut : {c d : List Dot} → Lawful c → Lawful d → (e : Entry) → cut_entry d (cut_entry c e) ≡ cut_entry (join_dots c d) e
unfolding cut_entry
cut-entry-cut {c} {d} h k e = cut_twice c d e ∙ ap₂ (entry_as e.key) (cut-cut h k (dots_in e)) (cut-values-cut h k (values_in e))

pub cut-entry-trade : (c d : List Dot) (e : Entry) → cut_entry c (cut_entry d e) ≡ cut_entry d (cut_entry c e)
cut-entry-trade c d e = cut_twice d c e ∙ ap₂ (entry_as e.key) (cut-trade c d (dots_in e)) (cut-values-trade c d (values_in e))
    ∙ sym (cut_twice c d e)

pub cut-entry-none : {e : Entry} → Whole e → cut_entry [] e ≡ e
unfolding cut_entry
cut-entry-none {e} h = ap₂ (entry_as e.key) (cut-none h.clock) (cut-none-values (values_in e) h.values) ∙ sym h.laid
