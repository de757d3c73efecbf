-- Registers that hold the same value-and-clock pairs in another order give the same report.
use mathlib.Core.Path.{◌≡◌, refl, ap, sym, ◌∙◌}
use mathlib.Core.Bool.{Bool, true, false, not, cond}
use mathlib.Core.Logic.{⊎_elim}
use mathlib.Core.List.Memᴰ
use mathlib.Core.List.Permᴰ
use mathlib.Core.List.{List, [], ◌∷◌, map, map-map, Permᴰ}
use Prim.Native.Nat.{ℕ, ◌≤◌}
use native.Mathlib.Nat.{le_antisymm}
use native.Mathlib.Omega.{arith}
use lib.ListN.{length-map}
use Rattle.listlaws.specs.Sift.{sift, those}
use Rattle.listlaws.specs.First.{first_in, some}
use Rattle.listlaws.specs.Fold.{fold}
use Rattle.listlaws.specs.Order.{◌∈◌}
use Rattle.listlaws.proofs.Often.{perm-length}
use Rattle.listlaws.proofs.Pads.{take-pad}
use Rattle.listlaws.proofs.Perms.{perm_in, perm-those}
use Rattle.listlaws.proofs.Somes.{some-cases, some_holds, false-some}
use Rattle.listlaws.proofs.Those.{those-same}
use Rattle.clock.specs.declared.Dot.{Dot}
use Rattle.limits.specs.Limits.{dot_limit}
use Rattle.clock.specs.Dots.{no_dot, dots_of, clock_of}
use Rattle.register.specs.declared.Value.{Value}
use Rattle.register.specs.Values.{yields}
use Rattle.entries.specs.Model.{values_in}
use Rattle.entries.specs.Entries.{entry_at}
use Rattle.map.specs.declared.Map.{Map}
use Rattle.map.specs.Model.{entries_in}
use Rattle.loader.specs.Choice.{is_below, undropped, smallest, another, differ, report_on, report_of, pairs_of}
use Rattle.loader.specs.Reports.{report_at}
use Rattle.loader.proofs.Smallest.{lower, smallest-least, smallest-stands, differ-smallest}

-- the same values, in another order
module _ {l m : List Value} (d : Permᴰ l m) where
  some-perm : (p : Value → Bool) → some p l ≡ some p m
  some-perm p =
      ⊎_elim (λ r. some_holds p r.1 r.2 ∙ sym (some_holds p (perm_in (Permᴰ.symm d) r.0 r.1) r.2))
      (λ f. false-some p l f ∙ sym (false-some p m (λ x i. f x (perm_in d x i))))
      (some-cases p l)

  remaining-perm : Permᴰ (undropped l) (undropped m)
  unfolding undropped is_below
  remaining-perm =
      let e = those-same (λ v. not (is_below l v)) (λ v. not (is_below m v)) m (λ v i. ap not (some-perm (yields false v))) in
      rw (← e) (perm-those (λ v. not (is_below l v)) d)

smallest-within : (l m : List Value) {w : Value} → w ∈ m → ((z : Value) → z ∈ m → z ∈ l) → smallest l ≤ smallest m
smallest-within l m i f =
    let s = smallest-stands m i in
    let h = smallest-least l s.0 (f s.0 s.1) in
    let e = s.2 in
    omega arith

smallest-perm : (l m : List Value) → Permᴰ l m → smallest l ≡ smallest m
smallest-perm [] [] d = refl
smallest-perm [] (y ∷ m) d = absurd (Memᴰ.not-nil (perm_in d y (Memᴰ.head refl)))
smallest-perm (x ∷ l) [] d = absurd (Memᴰ.not-nil (perm_in (Permᴰ.symm d) x (Memᴰ.head refl)))
smallest-perm (x ∷ l) (y ∷ m) d =
    le_antisymm (smallest-within (x ∷ l) (y ∷ m) (Memᴰ.head refl) (perm_in d))
    (smallest-within (y ∷ m) (x ∷ l) (Memᴰ.head refl) (perm_in (Permᴰ.symm d)))

differ-perm : (l m : List Value) → Permᴰ l m → differ l ≡ differ m
differ-perm l m d =
    differ-smallest l ∙ ap (λ n. some (another n) l) (smallest-perm l m d) ∙ some-perm d (another (smallest m)) ∙ sym (differ-smallest m)

report-perm : {l m : List Value} → Permᴰ l m → report_of l ≡ report_of m
unfolding report_of
report-perm d = on (remaining-perm d)
  where
    on : {l m : List Value} → Permᴰ l m → report_on l ≡ report_on m
    on {l} {m} p = rw (perm-length p, differ-perm l m p, smallest-perm l m p)

-- a report is one of pairs: of a clock it sees its dots alone
abbrev laid : Value → Value
laid v = record { clock = clock_of (dots_of v.clock); value = record { number = v.value.number; origin = 0 } }

some-map : {A B : Type 0} (p : B → Bool) (q : A → Bool) (g : A → B) (l : List A) → ((x : A) → p (g x) ≡ q x) → some p (map g l) ≡ some q l
unfolding first_in
some-map p q g [] f = refl
some-map p q g (x ∷ l) f = rw (f x, some-map p q g l f)

those-map : {A B : Type 0} (p : B → Bool) (q : A → Bool) (g : A → B) (l : List A) → ((x : A) → p (g x) ≡ q x) → those p (map g l) ≡ map g (those q l)
unfolding sift
those-map p q g [] f = refl
those-map p q g (x ∷ l) f = rw (f x) (go (q x) (those-map p q g l f))
  where
    go : (b : Bool) {s : List _} → s ≡ map g (those q l) → cond b (g x ∷ s) s ≡ map g (cond b (x ∷ those q l) (those q l))
    go true e = ap (λ t. g x ∷ t) e
    go false e = e

yields-laid : (v w : Value) → yields false (laid v) (laid w) ≡ yields false v w
unfolding yields
yields-laid v w = rw (take-pad no_dot dot_limit (dots_of v.clock), take-pad no_dot dot_limit (dots_of w.clock))

remaining-laid : (l : List Value) → undropped (map laid l) ≡ map laid (undropped l)
unfolding undropped is_below
remaining-laid l =
    those-map (λ v. not (is_below (map laid l) v)) (λ v. not (is_below l v)) laid l
    (λ v. ap not (some-map (yields false (laid v)) (yields false v) laid l (yields-laid v)))

smallest-laid : (l : List Value) → smallest (map laid l) ≡ smallest l
unfolding smallest fold
smallest-laid [] = refl
smallest-laid (v ∷ l) = from v.value.number l
  where
    from : (n : ℕ) (l : List Value) → fold lower n (map laid l) ≡ fold lower n l
    from n [] = refl
    from n (w ∷ k) = from (lower n w) k

differ-laid : (l : List Value) → differ (map laid l) ≡ differ l
differ-laid l =
    differ-smallest (map laid l) ∙ ap (λ n. some (another n) (map laid l)) (smallest-laid l)
    ∙ some-map (another (smallest l)) (another (smallest l)) laid l (λ v. refl) ∙ sym (differ-smallest l)

report-laid : (l : List Value) → report_of (map laid l) ≡ report_of l
unfolding report_of
report-laid l = ap report_on (remaining-laid l) ∙ on (undropped l)
  where
    on : (k : List Value) → report_on (map laid k) ≡ report_on k
    on k = rw (length-map k laid, differ-laid k, smallest-laid k)

pub same-report : (l m : List Value) → Permᴰ (pairs_of l) (pairs_of m) → report_of l ≡ report_of m
same-report l m d =
    let e = Permᴰ.map back d in
    let p = rw (map-map back pair l, map-map back pair m) at e in
    sym (report-laid l) ∙ report-perm p ∙ report-laid m
  where
    back : List Dot × ℕ → Value
    back p = record { clock = clock_of p.0; value = record { number = p.1; origin = 0 } }

    pair : Value → List Dot × ℕ
    pair v = (dots_of v.clock, v.value.number)

-- so of a bay in two maps
pub same-bay : (m n : Map) (bay : ℕ) → Permᴰ (pairs_of (values_in (entry_at bay (entries_in m)))) (pairs_of (values_in (entry_at bay (entries_in n))))
    → report_at m bay ≡ report_at n bay
unfolding report_at
same-bay m n bay d = same-report _ _ d
