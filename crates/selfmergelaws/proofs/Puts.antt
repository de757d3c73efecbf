-- Entries put under two different keys come to the same list in either order.
use mathlib.Core.Path.{◌≡◌, refl, ap, sym, ◌∙◌}
use mathlib.Core.Bool.{Bool, true, false}
use mathlib.Core.Logic.{◌⊎◌, inl, inr, ⊎_elim}
use mathlib.Core.List.Memᴰ
use mathlib.Core.List.{List, [], ◌∷◌}
use Prim.Native.Nat.{ℕ}
use native.Mathlib.Omega.{arith}
use borrow.Author.Tests.{ltb-true, ltb-false, lt-ltb, eqb-true, ne_eqb}
use lib.Dec.{ltb, eqb}
use Rattle.listlaws.specs.Sift.{those}
use Rattle.listlaws.specs.First.{first_in}
use Rattle.listlaws.specs.Order.{◌∈◌, Ascending, by}
use Rattle.listlaws.proofs.Orders.{by-strict, same-members}
use Rattle.listlaws.proofs.Ranks.{first_member}
use Rattle.listlaws.proofs.Firsts.{first-cases, first-none}
use Rattle.listlaws.proofs.Those.{those-means, those-holds}
use Rattle.entries.specs.declared.Entry.{Entry}
use Rattle.entries.specs.declared.Update.{Update}
use Rattle.entries.specs.Model.{entry_as}
use Rattle.entries.specs.Entries.{put_entry, entry_at, aside, put_entries}
use Rattle.entries.proofs.EntriesValid.{put-key, at_key}

-- the entry that an update puts
abbrev fresh : Update → List Entry → Entry
fresh u l = put_entry u (entry_at u.key l)

fresh-key : (u : Update) (l : List Entry) → (fresh u l).key ≡ u.key
fresh-key u l = put-key u (entry_at u.key l) ∙ at_key u.key l

-- what stands among put entries: that one, and those under other keys
put-means : (u : Update) (l : List Entry) {e : Entry} → e ∈ put_entries u l → (e ≡ fresh u l) ⊎ ((e ∈ l) × (e.key ≡ u.key → ⊥))
unfolding put_entries
put-means u l {e} i =
    ⊎_elim
    (λ j. let r = those-means (aside true u.key) l j in inr (r.0, λ q. omega (arith, ltb-true e.key u.key r.1)))
    (λ j. ⊎_elim (λ q. inl q) (λ s. let r = those-means (aside false u.key) l s in
    inr (r.0, λ q. omega (arith, ltb-true u.key e.key r.1))) (Memᴰ.cases_cons j))
    (Memᴰ.append_cases (those (aside true u.key) l) i)

put-fresh : (u : Update) (l : List Entry) → fresh u l ∈ put_entries u l
unfolding put_entries
put-fresh u l = Memᴰ.append_right (those (aside true u.key) l) (Memᴰ.head refl)

put_other : (u : Update) {l : List Entry} {e : Entry} → e ∈ l → (e.key ≡ u.key → ⊥) → e ∈ put_entries u l
unfolding put_entries
put_other u {l} {e} i n = go (ltb e.key u.key) refl
  where
    go : (b : Bool) → ltb e.key u.key ≡ b → e ∈ put_entries u l
    go true t = Memᴰ.append_left (fresh u l ∷ those (aside false u.key) l) (those-holds (aside true u.key) i t)
    go false t =
        Memᴰ.append_right (those (aside true u.key) l)
        (Memᴰ.tail (those-holds (aside false u.key) i (lt-ltb u.key e.key (omega (arith, n, ltb-false e.key u.key t)))))

-- the entry of another key is left as it is
entry_kept : (u : Update) (k : ℕ) (l : List Entry) → Ascending (by (λ e. e.key)) (put_entries u l) → (k ≡ u.key → ⊥)
    → entry_at k (put_entries u l) ≡ entry_at k l
unfolding entry_at
entry_kept u k l a n =
    ⊎_elim
    (λ h. let q = eqb-true h.found.key k h.passes in
    ap (λ x. first_in (λ e. eqb e.key x) (λ e. e) new (put_entries u l)) (sym q)
    ∙ first_member (λ e. e.key) (λ e. e) new a (put_other u h.stands (λ t. n (sym q ∙ t)))
    ∙ sym h.given)
    (λ f. first-none has (λ e. e) new (put_entries u l)
    (λ e i. ⊎_elim (λ (t : e ≡ fresh u l). ne_eqb e.key k (λ s. n (sym s ∙ ap (λ x. x.key) t ∙ fresh-key u l))) (λ r. f e r.0)
    (put-means u l i))
    ∙ sym (first-none has (λ e. e) new l f))
    (first-cases has (λ e. e) new l)
  where
    has : Entry → Bool
    has e = eqb e.key k

    new : Entry
    new = entry_as k [] []

-- what two puts leave, the other order leaves
puts-among : (u v : Update) (l : List Entry) → Ascending (by (λ e. e.key)) (put_entries u l) → Ascending (by (λ e. e.key)) (put_entries v l)
    → (u.key ≡ v.key → ⊥) → (e : Entry) → e ∈ put_entries v (put_entries u l) → e ∈ put_entries u (put_entries v l)
puts-among u v l a b n e i =
    ⊎_elim
    (λ (q : e ≡ fresh v (put_entries u l)). Memᴰ.cast (q ∙ same-fresh u v a (λ s. n (sym s)))
    (put_other u (put-fresh v l) (λ s. n (sym (sym (fresh-key v l) ∙ s)))))
    (λ r. ⊎_elim
    (λ (q : e ≡ fresh u l). Memᴰ.cast (q ∙ sym (same-fresh v u b n)) (put-fresh u (put_entries v l)))
    (λ s. put_other u (put_other v s.0 r.1) s.1)
    (put-means u l r.0))
    (put-means v (put_entries u l) i)
  where
    same-fresh : (x y : Update) → Ascending (by (λ e. e.key)) (put_entries x l) → (y.key ≡ x.key → ⊥) → fresh y (put_entries x l) ≡ fresh y l
    same-fresh x y c d = ap (put_entry y) (entry_kept x y.key l c d)

pub puts-trade : (u v : Update) (l : List Entry) → Ascending (by (λ e. e.key)) (put_entries u l) → Ascending (by (λ e. e.key)) (put_entries v l)
    → Ascending (by (λ e. e.key)) (put_entries v (put_entries u l)) → Ascending (by (λ e. e.key)) (put_entries u (put_entries v l))
    → (u.key ≡ v.key → ⊥) → put_entries v (put_entries u l) ≡ put_entries u (put_entries v l)
puts-trade u v l a b c d n =
    same-members (by-strict (λ e. e.key)) _ _ c d (puts-among u v l a b n) (puts-among v u l b a (λ q. n (sym q)))
