-- The records of an image, as they were judged before and as they are.
use mathlib.Core.Path.{◌≡◌, refl, ap, ◌∙◌}
use mathlib.Core.Logic.{⊎_elim}
use mathlib.Core.Bool.{Bool, true, false, cond, ◌&&◌}
use mathlib.Core.List.Memᴰ
use mathlib.Core.List.{List, [], ◌∷◌, ◌++◌}
use Prim.Native.Nat.{ℕ}
use lib.Dec.{eqb}
use Rattle.listlaws.specs.Order.{◌∈◌}
use Rattle.listlaws.specs.First.{first_in, some}
use Rattle.records.specs.declared.Record.{Record}
use Rattle.scan.specs.Each.{each_after, count_after}
use Rattle.scan.specs.Formed.{follows, well_formed}
use Rattle.scan.specs.Limits.{outer, middle, inner, same_kind, same_outer, same_middle, fresh, tally, within, room_by, within_limits_by}
use Rattle.scan.specs.Limits.{Limits, today, within_by}
use Rattle.scan.specs.Numbers.{scan_number}
use Rattle.scan.proofs.Eachs.{both_left, both_right, both, decide}
use Rattle.originlaws.specs.Before.{old_ok, old_follows, old_formed, old_room, old_within, old_judged}
use Rattle.originlaws.proofs.Records.{Unnamed, was-unnamed, by-actor, still-follows}

-- each element passes another test where it passes one
each_on : (p q : List Record → Record → Bool) (seen l : List Record) → ((m : List Record) (x : Record) → x ∈ l → p m x ≡ true → q m x ≡ true)
    → each_after p seen l ≡ true → each_after q seen l ≡ true
unfolding each_after
each_on p q seen [] f h = refl
each_on p q seen (x ∷ l) f h =
    both (q seen x) _ (f seen x (Memᴰ.head refl) (both_left (p seen x) _ h))
    (each_on p q (seen ++ (x ∷ [])) l (λ m y i. f m y (Memᴰ.tail i)) (both_right (p seen x) _ h))

each-has : (low high : ℕ) (seen l : List Record) → each_after (old_follows low high) seen l ≡ true → (x : Record) → x ∈ l → Unnamed x
unfolding each_after
each-has low high seen [] h x i = absurd (Memᴰ.not-nil i)
each-has low high seen (y ∷ l) h x i =
    ⊎_elim
    (λ (e : x ≡ y). rw e (was-unnamed low high y (both_left (old_ok low high y) _ (both_left (old_follows low high seen y) _ h))))
    (λ j. each-has low high (seen ++ (y ∷ [])) l (both_right (old_follows low high seen y) _ h) x j)
    (Memᴰ.cases_cons i)

module _ (low high : ℕ) (l : List Record) where
  pub all-unnamed : old_formed low high l ≡ true → (x : Record) → x ∈ l → Unnamed x
  all-unnamed h x i = each-has low high [] l h x i

  pub still_formed : old_formed low high l ≡ true → well_formed low high l ≡ true
  unfolding well_formed
  still_formed h = each_on (old_follows low high) (follows low high) [] l (λ m x i. still-follows low high m x) h

some_same : (p q : Record → Bool) (l : List Record) → ((y : Record) → y ∈ l → p y ≡ q y) → some p l ≡ some q l
unfolding first_in
some_same p q [] h = refl
some_same p q (y ∷ l) h = rw (h y (Memᴰ.head refl), some_same p q l (λ z i. h z (Memᴰ.tail i))) refl

-- what two functions give alike is counted alike
module _ (group : Record → Bool) (f g : Record → ℕ) where
  some_alike : (x : Record) (l : List Record) → f x ≡ g x → ((y : Record) → y ∈ l → f y ≡ g y)
      → some (λ s. group s && eqb (f s) (f x)) l ≡ some (λ s. group s && eqb (g s) (g x)) l
  some_alike x l e h = some_same (λ s. group s && eqb (f s) (f x)) (λ s. group s && eqb (g s) (g x)) l (λ y i. rw (h y i, e) refl)

  count-alike : (seen l : List Record) → ((y : Record) → y ∈ seen → f y ≡ g y) → ((y : Record) → y ∈ l → f y ≡ g y)
      → count_after (fresh group f) seen l ≡ count_after (fresh group g) seen l
  unfolding count_after
  count-alike seen [] a h = refl
  count-alike seen (x ∷ l) a h =
      let e = h x (Memᴰ.head refl) in
      let more = count-alike (seen ++ (x ∷ [])) l (λ y i. ⊎_elim (a y) (λ j. let s : y ≡ x = Memᴰ.eq_of_singleton j in rw s e)
      (Memᴰ.append_cases seen i)) (λ y i. h y (Memᴰ.tail i)) in
      rw (some_alike x seen e a, more) refl

  tally-alike : (l : List Record) → ((y : Record) → y ∈ l → f y ≡ g y) → tally group f l ≡ tally group g l
  unfolding tally
  tally-alike l h = count-alike [] l (λ y i. absurd (Memᴰ.not-nil i)) h

within-after : (t : Limits) (seen l : List Record) → ((x : Record) → x ∈ seen → Unnamed x) → ((x : Record) → x ∈ l → Unnamed x)
    → each_after (old_room t) seen l ≡ each_after (room_by t) seen l
unfolding each_after
within-after t seen [] a h = refl
within-after t seen (r ∷ l) a h =
    let here : (x : Record) → x ∈ (seen ++ (r ∷ [])) → Unnamed x = λ x i. ⊎_elim (a x) (λ j. let s : x ≡ r = Memᴰ.eq_of_singleton j in
    rw s (h r (Memᴰ.head refl))) (Memᴰ.append_cases seen i) in
    let one = ap (within_limits_by t r.kind (tally (same_kind r) outer (seen ++ (r ∷ []))) (tally (same_outer r) middle (seen ++ (r ∷ []))))
    (tally-alike (same_middle r) (λ x. x.actor) inner (seen ++ (r ∷ [])) (λ y i. by-actor y (here y i))) in
    rw (one, within-after t (seen ++ (r ∷ [])) l here (λ x i. h x (Memᴰ.tail i))) refl

pub same-within-by : (t : Limits) (l : List Record) → ((x : Record) → x ∈ l → Unnamed x) → old_within t l ≡ within_by t l
same-within-by t l h = within-after t [] l (λ x i. absurd (Memᴰ.not-nil i)) h

same-within : (l : List Record) → ((x : Record) → x ∈ l → Unnamed x) → old_within today l ≡ within l
unfolding within
same-within l h = same-within-by today l h

-- the verdict on records, as it is
abbrev pub judged_by : {R : Type 0} → ℕ → ℕ → (ℕ → R) → (List Record → Bool) → (List Record → R) → List Record → R
judged_by low high refused fit meant l =
    cond (eqb (scan_number low high l) 0) (cond (fit l) (meant l) (refused 3)) (refused (scan_number low high l))

module _ {R : Type 0} (low high : ℕ) (refused : ℕ → R) (fit : List Record → Bool) (meant : List Record → R) (l : List Record) where
  pub judged-same : old_formed low high l ≡ true → judged_by low high refused fit meant l ≡ old_judged today low high refused fit meant l
  unfolding scan_number
  judged-same h =
      let w = same-within l (all-unnamed low high l h) in
      decide (within l)
      (λ t. rw (h, w ∙ t, still_formed low high l h, t) refl)
      (λ f. rw (h, w ∙ f, still_formed low high l h, f) refl)

  pub judged-one : old_formed low high l ≡ false → old_judged today low high refused fit meant l ≡ refused 1
  judged-one f = rw f refl
