-- The put among entries in the order of their keys: behind a lower one, on that of its key, before all higher ones.
use mathlib.Core.Path.{◌≡◌, ap, ap₂, ◌∙◌}
use mathlib.Core.Bool.{true, false}
use mathlib.Core.List.{List, [], ◌∷◌, ◌++◌}
use Prim.Native.Nat.{◌<◌}
use native.Mathlib.Omega.{arith}
use lib.Dec.{eqb}
use borrow.Author.Tests.{lt-ltb, le-ltb, eq-eqb, ne_eqb}
use Rattle.listlaws.specs.First.{first_in}
use Rattle.listlaws.specs.Order.{◌∈◌}
use Rattle.listlaws.specs.Sift.{sift, those}
use Rattle.listlaws.proofs.Firsts.{first-none}
use Rattle.listlaws.proofs.Those.{those-all, those-none}
use Rattle.entries.specs.declared.Entry.{Entry}
use Rattle.entries.specs.declared.Update.{Update}
use Rattle.entries.specs.Model.{entry_as}
use Rattle.entries.specs.Entries.{put_entry, entry_at, aside, put_entries}

module _ (u : Update) where
  pub put-behind : (e : Entry) (es : List Entry) → e.key < u.key → put_entries u (e ∷ es) ≡ e ∷ put_entries u es
  unfolding put_entries entry_at sift first_in
  put-behind e es h = rw (
    lt-ltb e.key u.key h,
    le-ltb u.key e.key (omega arith),
    ne_eqb e.key u.key
        (λ q. absurd (omega (arith, q))),
  )

  module _ (es : List Entry) (above : (e : Entry) → e ∈ es → u.key < e.key) where
    none_below : those (aside true u.key) es ≡ []
    none_below = those-none (aside true u.key) es (λ e i. le-ltb e.key u.key (omega (arith, above e i)))

    all_above : those (aside false u.key) es ≡ es
    all_above = those-all (aside false u.key) es (λ e i. lt-ltb u.key e.key (above e i))

    pub put_first : put_entries u es ≡ put_entry u (entry_as u.key [] []) ∷ es
    unfolding put_entries entry_at
    put_first =
        let none = first-none (λ e. eqb e.key u.key) (λ e. e) (entry_as u.key [] []) es
        (λ e i. ne_eqb e.key u.key (λ q. absurd (omega (arith, q, above e i)))) in
        ap₂ (λ a b. a ++ (put_entry u (entry_at u.key es) ∷ b)) none_below all_above ∙ ap (λ e. put_entry u e ∷ es) none

    pub put_on : (e : Entry) → e.key ≡ u.key → put_entries u (e ∷ es) ≡ put_entry u e ∷ es
    unfolding put_entries entry_at sift first_in
    put_on e q = rw (le-ltb e.key u.key (omega arith), le-ltb u.key e.key (omega arith), eq-eqb e.key u.key q)
        (ap₂ (λ a b. a ++ (put_entry u e ∷ b)) none_below all_above)
