-- The entry of a key among entries, and what an update puts: it is not empty.
use mathlib.Core.Path.{◌≡◌, refl, ap}
use mathlib.Core.Bool.{true, false, not}
use mathlib.Core.Logic.{⊎_elim}
use mathlib.Core.List.Memᴰ
use mathlib.Core.List.{List, []}
use Prim.Native.Nat.{ℕ, ◌<◌}
use native.Mathlib.Omega.{arith}
use borrow.Author.Tests.{eq-eqb, eqb-true}
use lib.Dec.{eqb}
use Rattle.listlaws.specs.Sift.{those}
use Rattle.listlaws.specs.Order.{◌∈◌}
use Rattle.listlaws.proofs.Firsts.{first-cases, first-none}
use Rattle.listlaws.proofs.Those.{those-means, those-all}
use Rattle.clock.specs.Dots.{is_empty, add_dot}
use Rattle.clock.specs.Lawful.{Lawful}
use Rattle.clock.proofs.Joins.{counter-add}
use Rattle.clock.proofs.Empties.{counter-some}
use Rattle.register.specs.Values.{put_values}
use Rattle.entries.specs.declared.Entry.{Entry}
use Rattle.entries.specs.declared.Update.{Update}
use Rattle.entries.specs.Model.{dots_in, values_in, entry_as}
use Rattle.entries.specs.Entries.{stays, aside, put_entry, entry_at, put_entries}
use Rattle.entries.proofs.Packs.{dots-in}
use Rattle.entries.proofs.Cuts.{whole-none}

-- the entry of a key is one of the entries, or a new one
pub at_every : (P : Entry → Type 0) (k : ℕ) (l : List Entry) → ((e : Entry) → e ∈ l → e.key ≡ k → P e) → P (entry_as k [] []) → P (entry_at k l)
unfolding entry_at
at_every P k l f p =
    ⊎_elim
    (λ h. rw h.given (f h.found h.stands (eqb-true h.found.key k h.passes)))
    (λ g. rw (first-none (λ e. eqb e.key k) (λ e. e) (entry_as k [] []) l g) p)
    (first-cases (λ e. eqb e.key k) (λ e. e) (entry_as k [] []) l)

-- an entry that an update puts has its dot
pub put_some : (u : Update) (e : Entry) → Lawful (dots_in e) → 0 < u.dot.counter → is_empty (dots_in (put_entry u e)) ≡ false
unfolding put_entry
put_some u e h p =
    rw (dots-in e.key (add_dot (dots_in e) u.dot) (put_values (values_in e) u.put))
    (counter-some (add_dot (dots_in e) u.dot) u.dot.actor
    (omega (arith, rw (eq-eqb u.dot.actor u.dot.actor refl) at (counter-add h u.dot u.dot.actor))))

-- what stands among put entries
pub put-every : (P : Entry → Type 0) (u : Update) (l : List Entry) → ((e : Entry) → e ∈ l → P e) → P (put_entry u (entry_at u.key l)) → (e : Entry)
    → e ∈ put_entries u l → P e
unfolding put_entries
put-every P u l f p e i =
    ⊎_elim (λ j. f e (those-means (aside true u.key) l j).0)
    (λ j. ⊎_elim (λ (q : e ≡ put_entry u (entry_at u.key l)). rw q p) (λ s. f e (those-means (aside false u.key) l s).0)
    (Memᴰ.cases_cons j))
    (Memᴰ.append_cases (those (aside true u.key) l) i)

-- put entries stay
pub put-stays : (u : Update) (l : List Entry) → 0 < u.dot.counter → ((e : Entry) → e ∈ l → Lawful (dots_in e))
    → ((e : Entry) → e ∈ l → is_empty (dots_in e) ≡ false) → those stays (put_entries u l) ≡ put_entries u l
put-stays u l p f g =
    those-all stays (put_entries u l)
    (put-every (λ e. stays e ≡ true) u l (λ e i. ap not (g e i))
    (ap not (put_some u (entry_at u.key l) (at_every (λ e. Lawful (dots_in e)) u.key l (λ e i q. f e i) (whole-none u.key).clock) p)))
