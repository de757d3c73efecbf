-- Removals keep entries within the limits.
use mathlib.Core.List.{List, [], ◌∷◌}
use Prim.Native.Nat.{◌≤◌}
use native.Mathlib.Omega.{arith}
use lib.ListN.{length}
use Rattle.listlaws.specs.Fold.{fold}
use Rattle.listlaws.specs.Order.{◌∈◌}
use Rattle.listlaws.proofs.Sifts.{length-sift}
use Rattle.listlaws.proofs.Those.{sift-means}
use Rattle.clock.specs.declared.Dot.{Dot}
use Rattle.limits.specs.Limits.{dot_limit, value_limit}
use Rattle.clock.specs.Dots.{dots_of}
use Rattle.clock.proofs.Packs.{cut-length}
use Rattle.register.specs.declared.Value.{Value}
use Rattle.register.specs.Values.{alive, cut_value, cut_values}
use Rattle.register.proofs.Cuts.{dots-cut}
use Rattle.register.proofs.Packs
use Rattle.removals.specs.declared.Removal.{Removal}
use Rattle.removals.specs.Model.{under_of}
use Rattle.entries.specs.declared.Entry.{Entry}
use Rattle.entries.specs.Model.{dots_in, values_in}
use Rattle.entries.specs.Entries.{stays, cut_entry, remove_from, remove_entries}
use Rattle.entries.proofs.Cuts.{cut-dots, cut-values}
use Rattle.entries.proofs.Runs.{runs, from}

-- an entry within the limits
pub record EntryFits (e : Entry) : Type 0 where
  pub dots : length (dots_in e) ≤ dot_limit
  pub count : length (values_in e) ≤ value_limit
  pub each : (v : Value) → v ∈ values_in e → length (dots_of v.clock) ≤ dot_limit

value-fits : (c : List Dot) (l : List Value) → ((v : Value) → v ∈ l → length (dots_of v.clock) ≤ dot_limit) → (v : Value) → v ∈ cut_values c l
    → length (dots_of v.clock) ≤ dot_limit
unfolding cut_values
value-fits c l f v i =
    let r = sift-means alive (cut_value c) l i in
    rw (r.changed, dots-cut c r.source) (omega (arith, cut-length c (dots_of r.source.clock), f r.source r.stands))

pub entry-fits-cut : (c : List Dot) {e : Entry} → EntryFits e → EntryFits (cut_entry c e)
entry-fits-cut c {e} h = record {
  dots = rw (cut-dots c e) (omega (arith, cut-length c (dots_in e)));
  count = rw (cut-values c e) (omega (arith, Packs.cut-length c (values_in e)));
  each = rw (cut-values c e) (value-fits c (values_in e) h.each);
}

pub entry-fits-from : (w : Removal) {e : Entry} → EntryFits e → EntryFits (remove_from w e)
entry-fits-from w {e} h = from w e EntryFits (entry-fits-cut (under_of w) h) h

-- what a run leaves
pub runs_fit : (ws : List Removal) (l : List Entry) → ((e : Entry) → e ∈ l → EntryFits e) → (e : Entry) → e ∈ runs ws l → EntryFits e
unfolding fold remove_entries
runs_fit [] l f = f
runs_fit (w ∷ ws) l f =
    runs_fit ws (remove_entries w l) (λ e i. let r = sift-means stays (remove_from w) l i in
    rw r.changed (entry-fits-from w (f r.source r.stands)))

pub runs-length : (ws : List Removal) (l : List Entry) → length (runs ws l) ≤ length l
unfolding fold remove_entries
runs-length [] l = omega arith
runs-length (w ∷ ws) l = omega (arith, runs-length ws (remove_entries w l), length-sift stays (remove_from w) l)
