-- The report of a bay: no standing clock is below another, so all values of a key remain, and the report is one of values without clocks and order.
use mathlib.Core.Path.{◌≡◌, refl, ap, ap₂, sym, ◌∙◌}
use mathlib.Core.Bool.{Bool, false, not}
use mathlib.Core.Logic.{◌⊎◌, inl, inr, ⊎_elim}
use mathlib.Core.List.Memᴰ
use mathlib.Core.List.{List, [], ◌∷◌, ◌++◌, map}
use mathlib.Core.List.Permᴰ
use mathlib.Core.List.{Permᴰ}
use Prim.Native.Nat.{ℕ, zero, suc, ◌+◌, min}
use native.Mathlib.Omega.{arith}
use lib.ListN.{length-map}
use Rattle.listlaws.specs.First.{first_in, some}
use Rattle.listlaws.specs.Fold.{fold}
use Rattle.listlaws.specs.Order.{◌∈◌}
use Rattle.listlaws.proofs.Somes.{false-some}
use Rattle.listlaws.proofs.Those.{those-all}
use Rattle.clock.specs.declared.Dot.{Dot}
use Rattle.clock.specs.Dots.{dots_of, clock_of, covers}
use Rattle.clock.specs.Lawful.{Lawful}
use Rattle.clock.proofs.Packs.{dots-of}
use Rattle.clock.proofs.Joins.{lawful-nil}
use Rattle.clock.proofs.Covers.{covers-means, order-self}
use Rattle.register.specs.declared.Content.{Content}
use Rattle.register.specs.declared.Value.{Value}
use Rattle.register.specs.Values.{yielding, yields}
use Rattle.entries.specs.declared.Update.{Update}
use Rattle.map.specs.declared.Map.{Map}
use Rattle.scan.proofs.Eachs.{decide}
use Rattle.loader.specs.Choice.{is_below, undropped, smallest, another, differ, report_on, report_of}
use Rattle.loader.specs.Reports.{report_at, report_bytes, reports_after}
use Rattle.loader.proofs.Reordered.{same-report}
use Rattle.readiness.specs.Ready.{put_of}
use Rattle.alikelaws.specs.Picture.{ValueOf, Matched, EachOnce, nil, next, AtKey}
use Rattle.alikelaws.proofs.Matching.{matched-source, yields-false}

-- two values of a register are one, or come from two updates
record Two (us : List Update) (v w : Value) : Type 0 where
  one : Update
  other : Update
  one_in : one ∈ us
  other-in : other ∈ us
  one-fits : ValueOf one v
  other_fits : ValueOf other w
  apart : other ≡ one → ⊥

pairs : {us : List Update} {vs : List Value} → Matched us vs → EachOnce us → {v w : Value} → v ∈ vs → w ∈ vs → (v ≡ w) ⊎ Two us v w
pairs nil o i j = absurd (Memᴰ.not-nil i)
pairs (next {u = u} {v = x} {us = us} f m) (next n o) {v} {w} i j =
    ⊎_elim
    (λ (p : v ≡ x). ⊎_elim (λ (q : w ≡ x). inl (p ∙ sym q))
    (λ k. let r = matched-source m k in inr (record {
      one = u;
      other = r.0;
      one_in = Memᴰ.head refl;
      other-in = Memᴰ.tail r.1;
      one-fits = rw p f;
      other_fits = r.2;
      apart = λ z. n (Memᴰ.cast (sym z) r.1);
    })) (Memᴰ.cases_cons j))
    (λ l. ⊎_elim
    (λ (q : w ≡ x). let r = matched-source m l in inr (record {
      one = r.0;
      other = u;
      one_in = Memᴰ.tail r.1;
      other-in = Memᴰ.head refl;
      one-fits = r.2;
      other_fits = rw q f;
      apart = λ z. n (Memᴰ.cast z r.1);
    }))
    (λ k. ⊎_elim (λ z. inl z) (λ r. inr (record {
      one = r.one;
      other = r.other;
      one_in = Memᴰ.tail r.one_in;
      other-in = Memᴰ.tail r.other-in;
      one-fits = r.one-fits;
      other_fits = r.other_fits;
      apart = r.apart;
    })) (pairs m o l k)) (Memᴰ.cases_cons j))
    (Memᴰ.cases_cons i)

-- a clock is not below itself
self-not-below : (v : Value) → Lawful (dots_of v.clock) → yields false v v ≡ false
unfolding yields
self-not-below v h = ap (yielding false) (order-self h)

-- where none is below another, all remain
all-remain : (l : List Value) → ((v w : Value) → v ∈ l → w ∈ l → yields false v w ≡ false) → report_of l ≡ report_on l
unfolding report_of undropped is_below
all-remain l f = ap report_on (those-all (λ v. not (is_below l v)) l (λ v i. ap not (false-some (yields false v) l (λ w j. f v w i j))))

-- "no standing clock is below another (each has an own dot that no other names)"
standing-remain : {Up : Update → Type 0} {Sp : Dot → Type 0} {c : List Dot} {l : List Value} → AtKey Up Sp c l → report_of l ≡ report_on l
standing-remain {l = l} a = all-remain l (λ v w i j. ⊎_elim
    (λ (e : v ≡ w). rw (← e) (self-not-below v (matched-source a.matched i).2.valid.clock))
    (λ r. yields-false v w (decide (covers (dots_of w.clock) (dots_of v.clock))
    (λ t. absurd ((a.stand r.one r.one_in).unnamed r.other (a.stand r.other r.other-in).among r.apart (omega (
      arith,
      r.one-fits.own,
      covers-means (dots_of w.clock) (dots_of v.clock) t r.one.dot.actor,
      covers-means (put_of r.other) (dots_of w.clock) r.other_fits.within r.one.dot.actor,
    )))) (λ t. t)))
    (pairs a.matched a.once i j))

-- values without clocks
abbrev bare : Content → Value
bare x = record { clock = clock_of []; value = x }

abbrev bared : List Value → List Value
bared l = map bare (map (λ v. v.value) l)

some-bare : (p : Value → Bool) (l : List Value) → ((v : Value) → p (bare v.value) ≡ p v) → some p (bared l) ≡ some p l
unfolding first_in
some-bare p [] f = refl
some-bare p (v ∷ l) f = rw (f v, some-bare p l f)

smallest-bare : (l : List Value) → smallest (bared l) ≡ smallest l
unfolding smallest fold
smallest-bare [] = refl
smallest-bare (v ∷ l) = from v.value.number l
  where
    from : (n : ℕ) (k : List Value) → fold (λ x w. min x w.value.number) n (bared k) ≡ fold (λ x w. min x w.value.number) n k
    from n [] = refl
    from n (w ∷ k) = from (min n w.value.number) k

differ-bare : (l : List Value) → differ (bared l) ≡ differ l
unfolding differ
differ-bare l =
    some-bare (λ v. some (another v.value.number) (bared l)) l (λ v. refl)
    ∙ ap (λ q. some q l) (λ i v. some-bare (another v.value.number) l (λ w. refl) i)

on-bare : (l : List Value) → report_on (bared l) ≡ report_on l
on-bare l = rw (length-map (map (λ v. v.value) l) bare, length-map l (λ v. v.value), differ-bare l, smallest-bare l)

bare-remain : (l : List Value) → report_of (bared l) ≡ report_on (bared l)
bare-remain l = all-remain (bared l) (λ v w i j.
    let r = Memᴰ.of_map bare (map (λ x. x.value) l) i in
    let s = Memᴰ.of_map bare (map (λ x. x.value) l) j in
    rw (← r.2, ← s.2) (bares r.0 s.0))
  where
    bares : (x y : Content) → yields false (bare x) (bare y) ≡ false
    bares x y = unfold yields in ap (yielding false) (order-self (rw (dots-of {c = clock_of []} [] refl) lawful-nil))

-- so the same values in another order, under other clocks, give the same report
pub report-settings : {Up Vp : Update → Type 0} {Sp Tp : Dot → Type 0} {c d : List Dot} {l k : List Value} → AtKey Up Sp c l → AtKey Vp Tp d k
    → Permᴰ (map (λ v. v.value) l) (map (λ v. v.value) k) → report_of l ≡ report_of k
report-settings {l = l} {k = k} a b p =
    standing-remain a ∙ sym (on-bare l) ∙ sym (bare-remain l)
    ∙ same-report (bared l) (bared k) (Permᴰ.map (λ v. (dots_of v.clock, v.value.number)) (Permᴰ.map bare p))
    ∙ bare-remain k ∙ on-bare k ∙ sym (standing-remain b)

pub reports-same : (m n : Map) → ((bay : ℕ) → report_at m bay ≡ report_at n bay) → (after number : ℕ)
    → reports_after m after number ≡ reports_after n after number
unfolding reports_after
reports-same m n f after zero = refl
reports-same m n f after (suc number) = ap₂ (λ r l. report_bytes r ++ l) (f (after + 1)) (reports-same m n f (after + 1) number)
