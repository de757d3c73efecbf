-- A merge's next entry: what it takes of each side's rest, and what is left to weave.
use mathlib.Core.Path.{◌≡◌, refl, sym}
use mathlib.Core.Bool.{Bool, true, false, not, ◌&&◌, ◌||◌, cond}
use mathlib.Core.Logic.{◌⊎◌, inl, inr}
use mathlib.Core.List.{List, [], ◌∷◌, flatten}
use Prim.Native.Nat.{ℕ, ◌+◌, ◌≤◌, ◌<◌}
use native.Mathlib.Omega.{arith}
use lib.Dec.{ltb}
use lib.ListN.{length, take, drop, get_or}
use Rattle.listlaws.specs.Order.{by}
use Rattle.listlaws.specs.Sift.{sift}
use Rattle.listlaws.proofs.Orders.{apart}
use Rattle.listlaws.proofs.Rests.{map_on, weave_first, weave-second, weave-both, weave-first-left, weave-second-left}
use Rattle.clock.specs.declared.Dot.{Dot}
use Rattle.clock.specs.Dots.{is_empty, covers}
use Rattle.entries.specs.declared.Entry.{Entry}
use Rattle.entries.specs.declared.MergeStep.{MergeStep}
use Rattle.entries.specs.Model.{dots_in, LaidDown}
use Rattle.entries.specs.Steps.{survivor_of, merge_step}
use Rattle.entries.specs.Entries.{stays, cut_alone, alone, keep_dots, merge_both, together, weave_entries}
use Rattle.entries.proofs.Packs.{none_read, laid-alone, laid-together}

-- nothing is left, or one entry as it is laid down
abbrev pub One : List Entry → Type 0
One l = (l ≡ []) ⊎ ((e : Entry) × (l ≡ e ∷ []) × LaidDown e)

pub one-alone : (other : List Dot) (e : Entry) → One (alone other e)
unfolding alone
one-alone other e = go (covers other (dots_in e))
  where
    go : (b : Bool) → One (cond b [] (cut_alone other e ∷ []))
    go true = inl refl
    go false = inr (cut_alone other e, refl, laid-alone other e)

pub one-together : (ours theirs : List Dot) (e f : Entry) → One (together ours theirs e f)
unfolding together
one-together ours theirs e f = go (is_empty (keep_dots ours theirs (dots_in e) (dots_in f)))
  where
    go : (b : Bool) → One (cond b [] (merge_both ours theirs e f ∷ []))
    go true = inl refl
    go false = inr (merge_both ours theirs e f, refl, laid-together ours theirs e f)

-- what is left of the next is the first of what both lists' rests are woven to, and some of them is taken
pub record Next (mine yours : List Dot) (l m : List Entry) (i j : ℕ) (r : MergeStep) : Type 0 where
  pub entries : List Entry
  pub left : r.survivor ≡ survivor_of entries
  pub one : One entries
  pub rest : weave_entries mine yours (drop i l) (drop j m) ≡ entries ∷ weave_entries mine yours (drop (i + r.ours) l) (drop (j + r.theirs) m)
  pub ours : i + r.ours ≤ length l
  pub theirs : j + r.theirs ≤ length m
  pub some : 1 ≤ r.ours + r.theirs
  pub few : (r.ours ≤ 1) × (r.theirs ≤ 1)

-- a place of a list that is in use and holds x, or that the list is used up
abbrev pub At : List Entry → ℕ → ℕ → Bool → Entry → Type 0
At xs n i b x = (b ≡ true → (i < length (take n xs)) × (x ≡ get_or xs i none_read)) × (b ≡ false → length (take n xs) ≤ i)

module _ (mine yours : List Dot) (xs : List Entry) (n i : ℕ) (ys : List Entry) (m j : ℕ) (x y : Entry) (u : i ≤ length (take n xs))
    (v : j ≤ length (take m ys)) where
  abbrev pick : Bool → Bool → Bool → Bool → MergeStep
  pick a b p q =
      cond (a && (not b || p)) (record { survivor = survivor_of (alone yours x); ours = 1; theirs = 0 })
      (cond (not a || q) (record { survivor = survivor_of (alone mine y); ours = 0; theirs = 1 })
      (record { survivor = survivor_of (together mine yours x y); ours = 1; theirs = 1 }))

  stay : (k : ℕ) → k + 0 ≡ k
  stay k = omega arith

  go : (a b p q : Bool) → At xs n i a x → At ys m j b y → ltb x.key y.key ≡ p → ltb y.key x.key ≡ q → (a || b) ≡ true
      → Next mine yours (take n xs) (take m ys) i j (pick a b p q)
  go true false p q f g s t o =
      let h = f.0 refl in
      let k = g.1 refl in
      record {
        entries = alone yours x;
        left = refl;
        one = one-alone yours x;
        rest = rw (
          stay j,
          h.1,
          weave-first-left (by (λ e. e.key)) (alone yours) (alone mine) (together mine yours) (drop i (take n xs))
              (take m ys) j k,
          weave-first-left (by (λ e. e.key)) (alone yours) (alone mine) (together mine yours) (drop (i + 1) (take n xs))
              (take m ys) j k,
        )
            (map_on xs n i none_read h.0 (alone yours));
        ours = omega (arith, h.0);
        theirs = omega arith;
        some = omega arith;
        few = (omega arith, omega arith);
      }
  go true true true q f g s t o =
      let h = f.0 refl in
      let k = g.0 refl in
      record {
        entries = alone yours x;
        left = refl;
        one = one-alone yours x;
        rest = rw (stay j, h.1) (weave_first (by (λ e. e.key)) (alone yours) (alone mine) (together mine yours) xs n i ys m j none_read h.0 k.0
            (rw (h.1, k.1) at s));
        ours = omega (arith, h.0);
        theirs = omega arith;
        some = omega arith;
        few = (omega arith, omega arith);
      }
  go true true false true f g s t o =
      let h = f.0 refl in
      let k = g.0 refl in
      record {
        entries = alone mine y;
        left = refl;
        one = one-alone mine y;
        rest = rw (stay i, k.1) (weave-second (by (λ e. e.key)) (alone yours) (alone mine) (together mine yours) xs n i ys m j none_read h.0
            k.0 (rw (h.1, k.1) at s) (rw (h.1, k.1) at t));
        ours = omega arith;
        theirs = omega (arith, k.0);
        some = omega arith;
        few = (omega arith, omega arith);
      }
  go true true false false f g s t o =
      let h = f.0 refl in
      let k = g.0 refl in
      record {
        entries = together mine yours x y;
        left = refl;
        one = one-together mine yours x y;
        rest = rw (h.1, k.1) (weave-both (by (λ e. e.key)) (alone yours) (alone mine) (together mine yours) xs n i ys m j none_read h.0 k.0
            (rw (h.1, k.1) at s) (rw (h.1, k.1) at t));
        ours = omega (arith, h.0);
        theirs = omega (arith, k.0);
        some = omega arith;
        few = (omega arith, omega arith);
      }
  go false true p q f g s t o =
      let h = f.1 refl in
      let k = g.0 refl in
      record {
        entries = alone mine y;
        left = refl;
        one = one-alone mine y;
        rest = rw (
          stay i,
          k.1,
          weave-second-left (by (λ e. e.key)) (alone yours) (alone mine) (together mine yours) (take n xs)
              (drop j (take m ys)) i h,
          weave-second-left (by (λ e. e.key)) (alone yours) (alone mine) (together mine yours) (take n xs)
              (drop (j + 1) (take m ys)) i h,
        )
            (map_on ys m j none_read k.0 (alone mine));
        ours = omega arith;
        theirs = omega (arith, k.0);
        some = omega arith;
        few = (omega arith, omega arith);
      }
  go false false p q f g s t o = apart (sym o)

  -- a step takes the next
  pub next : {a b : Bool} {r : MergeStep} → At xs n i a x → At ys m j b y → (a || b) ≡ true → r ≡ merge_step mine yours a b x y
      → Next mine yours (take n xs) (take m ys) i j r
  unfolding merge_step
  next {a} {b} f g o e = rw e (go a b (ltb x.key y.key) (ltb y.key x.key) f g refl refl o)

-- what a loop finishes of a list that begins with what is left of the next
module _ (change : Entry → Entry) {left : List Entry} (rest : List (List Entry)) where
  pub none_left : left ≡ [] → sift stays change (flatten (left ∷ rest)) ≡ sift stays change (flatten rest)
  unfolding flatten
  none_left e = rw e refl

  pub one_left : (e : Entry) → left ≡ e ∷ [] → sift stays change (flatten (left ∷ rest)) ≡ sift stays change (e ∷ flatten rest)
  unfolding flatten
  one_left e q = rw q refl
