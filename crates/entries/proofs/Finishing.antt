-- Finished entries: one more, within the limits and over them; a loop that finishes a list.
use mathlib.Core.Path.{◌≡◌, refl, ap, sym, ◌∙◌}
use mathlib.Core.Bool.{true, false, ◌||◌}
use mathlib.Core.List.{List, [], ◌∷◌, ◌++◌, append-nil}
use Prim.Native.Nat.{ℕ, ◌+◌, ◌≤◌, ◌<◌}
use native.Mathlib.Omega.{arith}
use borrow.Author.Tests.{ltb-false, lt-ltb}
use lib.ListN.{length, set}
use lib.Seq.{append_snoc}
use Rattle.listlaws.specs.First.{some}
use Rattle.listlaws.specs.Sift.{sift}
use Rattle.listlaws.proofs.Pads.{push-pad, length-snoc}
use Rattle.listlaws.proofs.Tally.{some-snoc, both-pass}
use Rattle.limits.specs.Limits.{value_limit, entry_limit}
use Rattle.register.specs.InHand.{wide_values, settled}
use Rattle.register.proofs.Packs.{fits, settled-over, wide-values}
use Rattle.entries.specs.declared.Entry.{Entry}
use Rattle.entries.specs.declared.FinishedEntries.{FinishedEntries}
use Rattle.entries.specs.declared.WideEntry.{WideEntry}
use Rattle.entries.specs.declared.LaidEntry.{LaidEntry}
use Rattle.entries.specs.declared.Entries.{Entries}
use Rattle.entries.specs.Model.{no_entry, values_in, entries_as, LaidDown}
use Rattle.entries.specs.Steps.{wide_entry, laid_entry, overfull, Finishes}
use Rattle.entries.specs.Entries.{stays}

-- the entries, where they are within both limits
pub finish-open : {f : FinishedEntries} {l : List Entry} → Finishes l f → length l ≤ entry_limit → some overfull l ≡ false
    → ◌≡◌ {A = Entries} (record { items = f.items; len = f.count }) (entries_as l)
finish-open p few thin = λ i. record { items = p.items few thin i; len = p.count i }

-- one entry more, as it is laid down
pub finish-one : {f : FinishedEntries} {h : WideEntry} {s : LaidEntry} {k : ℕ} (l : List Entry) (e : Entry) → Finishes l f → h ≡ wide_entry e
    → LaidDown e
    → s ≡ laid_entry h → (f.count < entry_limit → k ≡ f.count)
    → Finishes (l ++ (e ∷ [])) (record { count = f.count + 1; wide = f.wide || s.over; items = set f.items k s.entry })
finish-one {f} {h} {s} {k} l e p q laid r place =
    let values : wide_values h.wide ≡ values_in e = wide-values (values_in e) (ap (λ x. x.wide) q) in
    let over : s.over ≡ overfull e = ap (λ x. x.over) r ∙ ap (λ v. (settled v).over) values ∙ settled-over (values_in e) in
    record {
      count = ap (λ n. n + 1) p.count ∙ sym (length-snoc l e);
      wide = rw (p.wide, over) (sym (some-snoc overfull l e));
      items = λ few thin.
          let less : length l < entry_limit = omega (arith, length-snoc l e) in
          let none : (some overfull l || overfull e) ≡ false = sym (some-snoc overfull l e) ∙ thin in
          let b = both-pass {n = length l} {k = entry_limit} (some overfull l) (overfull e) (rw (lt-ltb (length l) entry_limit less, none)) in
          let room : length (values_in e) ≤ value_limit = ltb-false value_limit (length (values_in e)) b.2 in
          let register : (settled (wide_values h.wide)).register ≡ e.register = ap (λ v. (settled v).register) values
          ∙ ap (λ x. x.register) (fits (values_in e) room) ∙ sym (ap (λ x. x.register) laid) in
          let item : s.entry ≡ e = ap (λ x. x.entry) r ∙ (λ i. record { key = (q i).key; clock = (q i).clock; register = register i }) in
          let at : k ≡ length l = place (omega (arith, p.count)) ∙ p.count in
          rw (p.items (omega arith) b.1, at, item) (push-pad no_entry entry_limit l e less);
    }

-- f has finished what is done of the whole, and the rest is to come
pub record Going (whole rest : List Entry) (f : FinishedEntries) : Type 0 where
  pub done : List Entry
  pub holds : Finishes done f
  pub parts : whole ≡ done ++ rest

pub go-start : {f : FinishedEntries} (pre : List Entry) {rest : List Entry} → Finishes pre f → Going (pre ++ rest) rest f
go-start pre p = record { done = pre; holds = p; parts = refl }

pub go-keep : {f g : FinishedEntries} {whole rest more : List Entry} {e : Entry} → Going whole rest f → rest ≡ e ∷ more
    → ((l : List Entry) → Finishes l f → Finishes (l ++ (e ∷ [])) g) → Going whole more g
go-keep {more = more} {e = e} p q step = record {
  done = p.done ++ (e ∷ []);
  holds = step p.done p.holds;
  parts = p.parts ∙ ap (λ r. p.done ++ r) q ∙ sym (append_snoc p.done e more);
}

pub go-skip : {f : FinishedEntries} {whole rest more : List Entry} → Going whole rest f → rest ≡ more → Going whole more f
go-skip p q = record { done = p.done; holds = p.holds; parts = p.parts ∙ ap (λ r. p.done ++ r) q }

pub go-end : {f : FinishedEntries} {whole rest : List Entry} → Going whole rest f → rest ≡ [] → Finishes whole f
go-end {f} p q = rw (p.parts ∙ ap (λ r. p.done ++ r) q ∙ append-nil p.done) p.holds

-- the first of the rest stays, or goes
module _ (change : Entry → Entry) (e : Entry) (l : List Entry) where
  pub one-stays : stays (change e) ≡ true → sift stays change (e ∷ l) ≡ change e ∷ sift stays change l
  unfolding sift
  one-stays t = rw t

  pub one-goes : stays (change e) ≡ false → sift stays change (e ∷ l) ≡ sift stays change l
  unfolding sift
  one-goes t = rw t
