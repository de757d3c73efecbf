-- How to see that a list of records is well formed and within the limits: what a writer's records are held against.
use mathlib.Core.Path.{◌≡◌, refl, ap, sym, ◌∙◌, fun_ext}
use mathlib.Core.Bool.{Bool, true, false, not, cond, ◌&&◌, ◌||◌}
use mathlib.Core.Logic.{⊎_elim}
use mathlib.Core.List.Memᴰ
use mathlib.Core.List.{List, [], ◌∷◌, ◌++◌}
use Prim.Native.Nat.{ℕ, suc, ◌+◌, ◌≤◌}
use native.Mathlib.Omega.{arith}
use lib.Dec.{eqb, leb}
use lib.ListN.{length}
use borrow.Author.Tests.{eq-eqb, eqb-true, le-leb}
use Rattle.listlaws.specs.Order.{◌∈◌, Ascending, nil, next}
use Rattle.listlaws.specs.First.{first_in, some}
use Rattle.listlaws.proofs.Orders.{apart, head-before, tail-ascends}
use Rattle.listlaws.proofs.Tally.{some-snoc}
use Rattle.records.specs.declared.Record.{Record}
use Rattle.records.specs.Kinds.{before, record_ok}
use Rattle.scan.specs.Each.{each_after, count_after}
use Rattle.scan.specs.Formed.{follows, well_formed}
use Rattle.scan.specs.Limits.{outer, middle, inner, Limits, today, outer_by, middle_by, inner_limits, limit_at, same_kind, same_outer, same_middle}
use Rattle.scan.specs.Limits.{fresh, tally, room_by, within_by, within}
use Rattle.scan.specs.Numbers.{scan_number}
use Rattle.scan.proofs.Eachs.{both_left, both_right, both, decide, every-at, every_of}
use Rattle.scan.proofs.Tallies.{tally-none}

-- good records in ascending order
module _ (low high : ℕ) where
  formed-after : (seen l : List Record) → ((s x : Record) → s ∈ seen → x ∈ l → before s x ≡ true) → Ascending before l
      → ((x : Record) → x ∈ l → record_ok low high x ≡ true)
      → each_after (follows low high) seen l ≡ true
  unfolding each_after
  formed-after seen [] b a g = refl
  formed-after seen (x ∷ l) b a g =
      both (follows low high seen x) _
      (both (record_ok low high x) _ (g x (Memᴰ.head refl)) (every_of (λ s. before s x) seen (λ s i. b s x i (Memᴰ.head refl))))
      (formed-after (seen ++ (x ∷ [])) l further (tail-ascends a) (λ y i. g y (Memᴰ.tail i)))
    where
      further : (s y : Record) → s ∈ (seen ++ (x ∷ [])) → y ∈ l → before s y ≡ true
      further s y i j =
          ⊎_elim (λ k. b s y k (Memᴰ.tail j)) (λ k. ap (λ z. before z y) (Memᴰ.eq_of_singleton k) ∙ head-before a y j)
          (Memᴰ.append_cases seen i)

  pub formed-of : (l : List Record) → Ascending before l → ((x : Record) → x ∈ l → record_ok low high x ≡ true) → well_formed low high l ≡ true
  unfolding well_formed
  formed-of l a g = formed-after [] l (λ s x i j. absurd (Memᴰ.not-nil i)) a g

-- a group without the records that give k, and what it has been counted so far of them
module _ (f : Record → ℕ) (k : ℕ) (group : Record → Bool) where
  abbrev without : Record → Bool
  without x = group x && not (eqb (f x) k)

  abbrev given : Record → Bool
  given x = group x && eqb (f x) k

  less-after : (seen l : List Record) → count_after (fresh group f) seen l ≤ count_after (fresh without f) seen l + cond (some given seen) 0 1
  unfolding count_after
  less-after seen [] = omega arith
  less-after seen (x ∷ l) =
      let rest = less-after (seen ++ (x ∷ [])) l in
      let a = count_after (fresh group f) (seen ++ (x ∷ [])) l in
      let b = count_after (fresh without f) (seen ++ (x ∷ [])) l in
      decide (group x)
      (λ g. decide (eqb (f x) k)
      (λ e. rw (eqb-true (f x) k e, g, eq-eqb k k refl) (same (some given seen) a b (rw (some-snoc given seen x, g, e) at rest)))
      (λ e. rw (g, e, ap (λ t. some t seen) (fun_ext (λ s. alike s e)))
      (other (some (λ s. group s && eqb (f s) (f x)) seen) (some given seen) a b (rw (some-snoc given seen x, g, e) at rest))))
      (λ g. rw g (still (some given seen) a b (rw (some-snoc given seen x, g) at rest)))
    where
      same : (given : Bool) (a b : ℕ) → a ≤ b + cond (given || true) 0 1 → cond (not given) (suc a) a ≤ b + cond given 0 1
      same true a b h = h
      same false a b h = omega arith

      other : (met given : Bool) (a b : ℕ) → a ≤ b + cond (given || false) 0 1 → cond (not met) (suc a) a ≤ cond (not met) (suc b) b + cond given 0 1
      other true true a b h = h
      other true false a b h = h
      other false true a b h = omega arith
      other false false a b h = omega arith

      still : (given : Bool) (a b : ℕ) → a ≤ b + cond (given || false) 0 1 → a ≤ b + cond given 0 1
      still true a b h = h
      still false a b h = h

      alike : (s : Record) → eqb (f x) k ≡ false → (group s && not (eqb (f s) k) && eqb (f s) (f x)) ≡ (group s && eqb (f s) (f x))
      alike s e =
          decide (eqb (f s) (f x))
          (λ q. rw (eqb-true (f s) (f x) q, e) (plain (group s)))
          (λ q. rw q (none (group s) (not (eqb (f s) k))))
        where
          plain : (b : Bool) → (b && true && eqb (f x) (f x)) ≡ (b && eqb (f x) (f x))
          plain true = refl
          plain false = refl

          none : (a b : Bool) → (a && b && false) ≡ (a && false)
          none true true = refl
          none true false = refl
          none false b = refl

  tally-less : (l : List Record) → tally group f l ≤ tally without f l + 1
  unfolding tally first_in
  tally-less l = less-after [] l

-- what is given lies among the numbers ks
pub tally-among : (f : Record → ℕ) (ks : List ℕ) (group : Record → Bool) (l : List Record) → ((x : Record) → x ∈ l → group x ≡ true → f x ∈ ks)
    → tally group f l ≤ length ks
tally-among f [] group l h =
    let z = tally-none group f l (λ x i. decide (group x) (λ g. absurd (Memᴰ.not-nil (h x i g))) (λ n. n)) in omega arith
tally-among f (k ∷ ks) group l h =
    let a = tally-less f k group l in
    let b = tally-among f ks (without f k group) l others in
    omega arith
  where
    others : (x : Record) → x ∈ l → without f k group x ≡ true → f x ∈ ks
    others x i t =
        ⊎_elim
        (λ (q : f x ≡ k). apart (sym (both_right (group x) (not (eqb (f x) k)) t) ∙ ap not (eq-eqb (f x) k q)))
        (λ j. j)
        (Memᴰ.cases_cons (h x i (both_left (group x) (not (eqb (f x) k)) t)))

-- numbers among which lie all that the groups of a record give, and that are no more than limits allow
pub record AmongBy (t : Limits) (l : List Record) (r : Record) : Type 0 where
  pub outers : List ℕ
  pub middles : List ℕ
  pub inners : List ℕ
  pub in-outers : (x : Record) → x ∈ l → same_kind r x ≡ true → outer x ∈ outers
  pub in-middles : (x : Record) → x ∈ l → same_outer r x ≡ true → middle x ∈ middles
  pub in-inners : (x : Record) → x ∈ l → same_middle r x ≡ true → inner x ∈ inners
  pub few-outers : length outers ≤ limit_at (outer_by t) r.kind
  pub few-middles : length middles ≤ limit_at (middle_by t) r.kind
  pub few-inners : length inners ≤ limit_at inner_limits r.kind

abbrev pub Among : List Record → Record → Type 0
Among = AmongBy today

within-after : (t : Limits) (seen l whole : List Record) → ((x : Record) → x ∈ seen → x ∈ whole) → ((x : Record) → x ∈ l → x ∈ whole)
    → ((r : Record) → r ∈ whole → AmongBy t whole r) → each_after (room_by t) seen l ≡ true
unfolding each_after
within-after t seen [] whole a b h = refl
within-after t seen (r ∷ l) whole a b h =
    let m = h r (b r (Memᴰ.head refl)) in
    both (room_by t seen r) _
    (both (leb (tally (same_kind r) outer (seen ++ (r ∷ []))) (limit_at (outer_by t) r.kind)) _
    (le-leb _ _ (fits (same_kind r) outer m.outers m.few-outers m.in-outers))
    (both (leb (tally (same_outer r) middle (seen ++ (r ∷ []))) (limit_at (middle_by t) r.kind)) _
    (le-leb _ _ (fits (same_outer r) middle m.middles m.few-middles m.in-middles))
    (le-leb _ _ (fits (same_middle r) inner m.inners m.few-inners m.in-inners))))
    (within-after t (seen ++ (r ∷ [])) l whole further (λ x i. b x (Memᴰ.tail i)) h)
  where
    further : (x : Record) → x ∈ (seen ++ (r ∷ [])) → x ∈ whole
    further x i = ⊎_elim (λ j. a x j) (λ j. b x (Memᴰ.head (Memᴰ.eq_of_singleton j))) (Memᴰ.append_cases seen i)

    fits : (group : Record → Bool) (f : Record → ℕ) (ks : List ℕ) {n : ℕ} → length ks ≤ n → ((x : Record) → x ∈ whole → group x ≡ true → f x ∈ ks)
        → tally group f (seen ++ (r ∷ [])) ≤ n
    fits group f ks few h = let e = tally-among f ks group (seen ++ (r ∷ [])) (λ x i. h x (further x i)) in omega arith

-- records whose groups give few numbers
pub within_by_lem : (t : Limits) (l : List Record) → ((r : Record) → r ∈ l → AmongBy t l r) → within_by t l ≡ true
within_by_lem t l h = within-after t [] l l (λ x i. absurd (Memᴰ.not-nil i)) (λ x i. i) h

pub within_of : (l : List Record) → ((r : Record) → r ∈ l → Among l r) → within l ≡ true
unfolding within
within_of l h = within_by_lem today l h

-- number 0
pub scan-of : (low high : ℕ) (l : List Record) → Ascending before l → ((x : Record) → x ∈ l → record_ok low high x ≡ true)
    → ((r : Record) → r ∈ l → Among l r) → scan_number low high l ≡ 0
unfolding scan_number
scan-of low high l a g h = rw (formed-of low high l a g, within_of l h)

-- and back: well-formed records stand in ascending order
module _ (low high : ℕ) where
  behind-seen : (seen l : List Record) → each_after (follows low high) seen l ≡ true → (s x : Record) → s ∈ seen → x ∈ l → before s x ≡ true
  unfolding each_after
  behind-seen seen [] e s x i j = absurd (Memᴰ.not-nil j)
  behind-seen seen (y ∷ l) e s x i j =
      ⊎_elim
      (λ (q : x ≡ y). rw q (every-at (λ s. before s y) seen s (both_right (record_ok low high y) _ (both_left (follows low high seen y) _ e)) i))
      (λ k. behind-seen (seen ++ (y ∷ [])) l (both_right (follows low high seen y) _ e) s x (Memᴰ.append_left (y ∷ []) i) k)
      (Memᴰ.cases_cons j)

  ascends-after : (seen l : List Record) → each_after (follows low high) seen l ≡ true → Ascending before l
  unfolding each_after
  ascends-after seen [] e = nil
  ascends-after seen (x ∷ l) e =
      let rest = both_right (follows low high seen x) _ e in
      next (λ y i. behind-seen (seen ++ (x ∷ [])) l rest x y (Memᴰ.append_right seen (Memᴰ.head refl)) i)
      (ascends-after (seen ++ (x ∷ [])) l rest)

  pub formed-ascends : (l : List Record) → well_formed low high l ≡ true → Ascending before l
  unfolding well_formed
  formed-ascends l e = ascends-after [] l e
