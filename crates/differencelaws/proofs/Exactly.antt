-- The report's end theorems: each key with its class exactly where the sentence holds, ascending, each once; empty exactly where both maps
-- have the same entries; and with the maps exchanged, classes 1 and 2 exchange and 3 stays.
use mathlib.Core.Path.{◌≡◌, refl, ap, sym, subst, ◌∙◌}
use mathlib.Core.Bool.{Bool, true, false, cond}
use mathlib.Core.Logic.{◌⊎◌, inl, inr, ⊎_elim}
use mathlib.Core.List.Memᴰ
use mathlib.Core.List.{List, [], ◌∷◌, map}
use Prim.Native.Nat.{ℕ}
use native.Mathlib.Omega.{arith}
use lib.Dec.{eqb}
use borrow.Author.Tests.{ltb-true}
use Rattle.listlaws.specs.Order.{◌∈◌, Ascending, nil, next, by}
use Rattle.listlaws.specs.Weave.{weave}
use Rattle.listlaws.proofs.Orders.{apart, by-strict, same-members}
use Rattle.listlaws.proofs.Levels.{Level}
use Rattle.listlaws.proofs.Ranks.{by-steady, by_level, level_by, same_rank, ranks-ascend}
use Rattle.listlaws.proofs.Those.{those-means, those-holds, those-ascends, those-none}
use Rattle.listlaws.proofs.Weaves.{weave-map}
use Rattle.listlaws.proofs.Woven.{weave-has-first, weave-has-second, weave-has-both, weave-every, weave-ascends}
use Rattle.listlaws.proofs.Somes.{level-cases}
use Rattle.scan.proofs.Eachs.{decide}
use Rattle.entries.specs.declared.Entry.{Entry}
use Rattle.differences.specs.declared.Difference.{Difference}
use Rattle.differences.specs.Differences.{same_entry, only_first, only_second, in_both, classed, differs, differences_of}
use Rattle.differences.proofs.Turned.{same-turned}
use Rattle.differencelaws.specs.Reported.{HasKey, BothOther, SaysClass, SameEntries, turned}

abbrev by_key : Entry → Entry → Bool
by_key = by (λ e. e.key)

both-class : (e f : Entry) (b : Bool) → same_entry e f ≡ b → (in_both e f).class ≡ cond b 0 3
both-class e f b h = rw h

differs-both : (e f : Entry) → differs (in_both e f) ≡ true → same_entry e f ≡ false
differs-both e f t = decide (same_entry e f)
    (λ s. absurd (omega (arith, both-class e f true s, ltb-true 0 (in_both e f).class t))) (λ s. s)

cast : (t : Difference) {c k : ℕ} {l : List Difference} → c ≡ t.class → k ≡ t.key → record { class = c; key = k } ∈ l → t ∈ l
cast t p q i = Memᴰ.cast (λ j. record { class = sym p j; key = sym q j }) i

module _ {l m : List Entry} (a : Ascending by_key l) (b : Ascending by_key m) where
  -- what is told is so
  pub told-says : (t : Difference) → t ∈ differences_of l m → SaysClass l m t
  unfolding differences_of classed
  told-says t i =
      let r = those-means differs (weave by_key only_first only_second in_both l m) i in
      weave-every by_key only_first only_second in_both (by-strict (λ e. e.key)) (by-steady (λ e. e.key))
      (λ z. differs z ≡ true → SaysClass l m z) a b
      (λ x j alone n. inl (refl, (x, j, refl), λ y k e. alone y k (level_by (λ e. e.key) x y (sym e))))
      (λ y j alone n. inr (inl (refl, (λ x k e. alone x k (level_by (λ e. e.key) x y e)), (y, j, refl))))
      (λ x y j k e n. let s = differs-both x y n in inr (inr (
        both-class x y false s,
        record {
          mine = x;
          yours = y;
          here = j;
          there = k;
          same = refl;
          level = sym (by_level (λ e. e.key) x y e);
          apart = s;
        },
      )))
      t r.0 r.1

  -- what is so is told
  pub says-told : (t : Difference) → SaysClass l m t → t ∈ differences_of l m
  unfolding differences_of classed
  says-told t (inl (c, (e, i, k), lacks)) =
      cast t (sym c) k (those-holds differs (weave-has-first by_key only_first only_second in_both i
      (λ y j v. lacks y j (sym (by_level (λ e. e.key) e y v) ∙ k))) refl)
  says-told t (inr (inl (c, lacks, (f, i, k)))) =
      cast t (sym c) k (those-holds differs (weave-has-second by_key only_first only_second in_both i
      (λ x j v. lacks x j (by_level (λ e. e.key) x f v ∙ k))) refl)
  says-told t (inr (inr (c, o))) =
      let e = both-class o.mine o.yours false o.apart in
      cast t (e ∙ sym c) o.same (those-holds differs (weave-has-both by_key only_first only_second in_both (by-strict (λ e. e.key)) (by-steady
      (λ e. e.key)) a b
      o.here o.there (level_by (λ e. e.key) o.mine o.yours (o.same ∙ sym o.level))) (rw o.apart))

-- "ascending by key, each exactly once"
ranked : {A : Type 0} (rank : A → ℕ) (l : List A) → Ascending (by (λ n. n)) (map rank l) → Ascending (by rank) l
ranked rank [] a = nil
ranked rank (x ∷ l) (next f a) = next (λ y i. f (rank y) (Memᴰ.map rank i)) (ranked rank l a)

module _ {l m : List Entry} (a : Ascending by_key l) (b : Ascending by_key m) where
  pub told-ascends : Ascending (by (λ t. t.key)) (differences_of l m)
  unfolding differences_of classed
  told-ascends =
      let keys = sym (weave-map by_key (λ (e : Entry). e) (λ (e : Entry). e) (λ (e f : Entry). e) (λ e. e.key) l m)
      ∙ weave-map by_key only_first only_second in_both (λ t. t.key) l m in
      those-ascends differs (ranked (λ t. t.key) (weave by_key only_first only_second in_both l m) (subst (λ z. Ascending (by (λ n. n)) z) keys
      (ranks-ascend (λ e. e.key) (weave-ascends by_key (λ e. e) (λ e. e) (λ e f. e) (by-strict (λ e. e.key)) (by-steady (λ e. e.key))
      (λ x. level_by (λ e. e.key) x x refl) (λ x. level_by (λ e. e.key) x x refl) (λ x y v. level_by (λ e. e.key) x x refl) a b))))

  pub told-once : (t u : Difference) → t ∈ differences_of l m → u ∈ differences_of l m → t.key ≡ u.key → t ≡ u
  told-once t u i j e = same_rank (λ t. t.key) told-ascends i j e

  none_in : {t : Difference} → differences_of l m ≡ [] → t ∈ differences_of l m → ⊥
  none_in e i = Memᴰ.not-nil (rw e at i)

  pub empty-alike : differences_of l m ≡ [] → SameEntries l m
  empty-alike n = record {
    ours = λ e i. ⊎_elim
        (λ (r : (f : Entry) × (f ∈ m) × Level by_key e f). let k = by_level (λ e. e.key) e r.0 r.2 in
        decide (same_entry e r.0) (λ s. (r.0, r.1, sym k, s)) (λ s. absurd (none_in n (says-told a b (record { class = 3; key = e.key })
        (inr (inr (refl, record { mine = e; yours = r.0; here = i; there = r.1; same = refl; level = sym k; apart = s })))))))
        (λ f. absurd (none_in n (says-told a b (record { class = 1; key = e.key })
        (inl (refl, (e, i, refl), λ y j k. f y j (level_by (λ e. e.key) e y (sym k)))))))
        (level-cases by_key e m);
    theirs = λ f i. ⊎_elim
        (λ (r : (e : Entry) × (e ∈ l) × Level by_key f e). (r.0, r.1, sym (by_level (λ e. e.key) f r.0 r.2)))
        (λ g. absurd (none_in n (says-told a b (record { class = 2; key = f.key })
        (inr (inl (refl, (λ x j k. g x j (level_by (λ e. e.key) f x (sym k))), (f, i, refl)))))))
        (level-cases by_key f l);
  }

  pub alike-empty : SameEntries l m → differences_of l m ≡ []
  unfolding differences_of classed
  alike-empty h = those-none differs (weave by_key only_first only_second in_both l m)
      (weave-every by_key only_first only_second in_both (by-strict (λ e. e.key)) (by-steady (λ e. e.key)) (λ z. differs z ≡ false) a b
      (λ x i alone. let r = h.ours x i in absurd (alone r.0 r.1 (level_by (λ e. e.key) x r.0 (sym r.2))))
      (λ y i alone. let r = h.theirs y i in absurd (alone r.0 r.1 (level_by (λ e. e.key) r.0 y r.2)))
      (λ x y i j v. let r = h.ours x i in
      let q : r.0 ≡ y = same_rank (λ e. e.key) b r.1 j (r.2 ∙ by_level (λ e. e.key) x y v) in
      rw (sym (ap (same_entry x) q) ∙ r.3)))

-- with the maps exchanged
module _ {l m : List Entry} (a : Ascending by_key l) (b : Ascending by_key m) where
  back : (t : Difference) → t ∈ differences_of m l → t ∈ map turned (differences_of l m)
  back t i = go (told-says b a t i)
    where
      put : (c d : ℕ) → c ≡ t.class → turned (record { class = d; key = t.key }) ≡ record { class = c; key = t.key }
          → record { class = d; key = t.key } ∈ differences_of l m
          → t ∈ map turned (differences_of l m)
      put c d p e j = cast t p refl (Memᴰ.cast (sym e) (Memᴰ.map turned j))

      go : SaysClass m l t → t ∈ map turned (differences_of l m)
      go (inl (c, has, lacks)) = put 1 2 (sym c) refl (says-told a b _ (inr (inl (refl, lacks, has))))
      go (inr (inl (c, lacks, has))) = put 2 1 (sym c) refl (says-told a b _ (inl (refl, has, lacks)))
      go (inr (inr (c, o))) = put 3 3 (sym c) refl (says-told a b _ (inr (inr (
        refl,
        record {
          mine = o.yours;
          yours = o.mine;
          here = o.there;
          there = o.here;
          same = o.level;
          level = o.same;
          apart = same-turned o.mine o.yours ∙ o.apart;
        },
      ))))

turned-ascends : {l : List Difference} → Ascending (by (λ t. t.key)) l → Ascending (by (λ t. t.key)) (map turned l)
turned-ascends nil = nil
turned-ascends (next {x} {l} f a) = next {x = turned x} (λ y i. let r = Memᴰ.of_map turned l i in rw (← r.2) (f r.0 r.1)) (turned-ascends a)

module _ {l m : List Entry} (a : Ascending by_key l) (b : Ascending by_key m) where
  forth : (t : Difference) → t ∈ map turned (differences_of l m) → t ∈ differences_of m l
  forth t i = let r = Memᴰ.of_map turned (differences_of l m) i in Memᴰ.cast (sym r.2) (go r.0 (told-says a b r.0 r.1))
    where
      go : (u : Difference) → SaysClass l m u → turned u ∈ differences_of m l
      go u (inl (c, has, lacks)) = says-told b a (turned u) (inr (inl (rw c refl, lacks, has)))
      go u (inr (inl (c, lacks, has))) = says-told b a (turned u) (inl (rw c refl, has, lacks))
      go u (inr (inr (c, o))) = says-told b a (turned u) (inr (inr (
        rw c refl,
        record {
          mine = o.yours;
          yours = o.mine;
          here = o.there;
          there = o.here;
          same = o.level;
          level = o.same;
          apart = same-turned o.mine o.yours ∙ o.apart;
        },
      )))

  pub told-turned : differences_of m l ≡ map turned (differences_of l m)
  told-turned = same-members (by-strict (λ t. t.key)) (differences_of m l) (map turned (differences_of l m)) (told-ascends b a)
      (turned-ascends (told-ascends a b)) (back a b) forth
