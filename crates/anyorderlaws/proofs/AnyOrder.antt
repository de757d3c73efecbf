-- Demand 3 of castribba_apply, from an accepted image and in the middle of any accepted run; and a removal that comes again.
use mathlib.Core.Path.{◌≡◌}
use mathlib.Core.Bool.{false}
use mathlib.Core.Logic.{⊎_elim}
use mathlib.Core.List.Memᴰ
use mathlib.Core.List.Permᴰ
use mathlib.Core.List.{List, [], ◌∷◌, ◌++◌, Permᴰ}
use Prim.Native.Nat.{ℕ}
use Rattle.listlaws.specs.Order.{◌∈◌}
use Rattle.listlaws.proofs.Perms.{perm_in}
use Rattle.removals.specs.Model.{listed_in}
use Rattle.removals.specs.Waits.{listed}
use Rattle.maprecords.specs.Related.{read_map}
use Rattle.selfmergelaws.specs.Pairs.{Independent}
use Rattle.maplaws.specs.Among.{Exactly}
use Rattle.anyorderlaws.specs.Calls.{AllDone, end, MapImage, OpImages, RemovalImage, RemovalImages, UpdateImage, removal_of, update_of}
use Rattle.anyorderlaws.specs.AnyOrder.{RemovalsInAnyOrder}
use Rattle.anyorderlaws.proofs.Images.{end-map, only-map, same_end, update-trades, two-updates}
use Rattle.anyorderlaws.proofs.Composed.{passed-split, after, replaced, traded}

-- lists in another order have the same elements
perm_same : {l m : List (List ℕ)} → Permᴰ l m → (o : List ℕ) → Exactly (o ∈ l) (o ∈ m)
perm_same d o = (λ i. perm_in (Permᴰ.symm d) o i, λ i. perm_in d o i)

-- demand 3
pub in-any-order : {s : List ℕ} {ops : List (List ℕ)} → MapImage s → RemovalImages ops → RemovalsInAnyOrder s ops
in-any-order h f = record {
  every-order = λ d p. (same_end h f (perm_same d) p).0;
  same_map = λ d p. (same_end h f (perm_same d) p).1;
  image = λ p. after h (λ o i. (f o i).image) p;
  end-map = end-map h f;
  only-map = only-map h f;
  update-trades = update-trades h;
}

-- in the middle of a longer run, of any operations
module _ {s : List ℕ} {before : List (List ℕ)} (h : MapImage s) (g : OpImages before) where
  -- end theorems from here on
  pub later-in-any-order : {ops : List (List ℕ)} → AllDone s before → RemovalImages ops → RemovalsInAnyOrder (end s before) ops
  later-in-any-order p f = in-any-order (after h g p) f

  module _ (behind : List (List ℕ)) where
    -- the same removals, in another order or more than once
    pub same-within : {ops others : List (List ℕ)} → RemovalImages ops → ((o : List ℕ) → Exactly (o ∈ ops) (o ∈ others))
        → AllDone s (before ++ (ops ++ behind))
        → AllDone s (before ++ (others ++ behind)) × (end s (before ++ (others ++ behind)) ≡ end s (before ++ (ops ++ behind)))
    same-within {ops} {others} f e p =
        let r = passed-split before p in
        replaced before ops others behind p (same_end (after h g r.0) f e (passed-split ops r.1).0)

    -- late or twice: a removal that comes again, anywhere among the removals, changes nothing
    pub comes-again : (first second : List (List ℕ)) {o : List ℕ} → RemovalImages (first ++ second) → o ∈ (first ++ second)
        → Exactly (AllDone s (before ++ ((first ++ second) ++ behind))) (AllDone s (before ++ ((first ++ (o ∷ second)) ++ behind)))
        × (AllDone s (before ++ ((first ++ second) ++ behind)) → end s (before ++ ((first ++ (o ∷ second)) ++ behind)) ≡ end s
        (before ++ ((first ++ second) ++ behind)))
    comes-again first second {o} f i = (
      (λ p. (same-within f once p).0, λ p. (same-within (λ q j. f q ((once q).1 j)) (λ q. ((once q).1, (once q).0)) p).0),
      λ p. (same-within f once p).1,
    )
      where
        once : (q : List ℕ) → Exactly (q ∈ (first ++ second)) (q ∈ (first ++ (o ∷ second)))
        once q = (
          λ j. ⊎_elim (λ k. Memᴰ.append_left (o ∷ second) k) (λ k. Memᴰ.append_right first (Memᴰ.tail k)) (Memᴰ.append_cases first j),
          λ j. ⊎_elim (λ k. Memᴰ.append_left second k)
              (λ k. ⊎_elim (λ (e : q ≡ o). Memᴰ.cast e i) (λ t. Memᴰ.append_right first t) (Memᴰ.cases_cons k)) (Memᴰ.append_cases first j),
        )

    -- an update and a removal that does not list its key
    pub update-trades-within : {u r : List ℕ} → UpdateImage u → RemovalImage r → listed (listed_in (removal_of r)) (update_of u).key ≡ false
        → AllDone s (before ++ (u ∷ r ∷ behind)) → AllDone s (before ++ (r ∷ u ∷ []))
        → AllDone s (before ++ (r ∷ u ∷ behind)) × (end s (before ++ (r ∷ u ∷ behind)) ≡ end s (before ++ (u ∷ r ∷ behind)))
    update-trades-within {u} {r} i j n p = traded before u r behind (update-trades (after h g (passed-split before p).0) i j n) p

    -- two unseen updates by different actors on different keys, where nothing is waiting
    pub two-updates-within : {u v : List ℕ} → UpdateImage u → UpdateImage v → Independent (read_map (end s before)).map (update_of u) (update_of v)
        → AllDone s (before ++ (u ∷ v ∷ behind)) → AllDone s (before ++ (v ∷ u ∷ []))
        → AllDone s (before ++ (v ∷ u ∷ behind)) × (end s (before ++ (v ∷ u ∷ behind)) ≡ end s (before ++ (u ∷ v ∷ behind)))
    two-updates-within {u} {v} i j a p = traded before u v behind (two-updates (after h g (passed-split before p).0) i j a) p
