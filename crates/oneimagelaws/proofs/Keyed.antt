-- What is counted of records: the keys of entries ascend and are those of entry dots, and the waiting removals are one more than the highest index.
use mathlib.Core.Path.{◌≡◌, refl, sym, ◌∙◌}
use mathlib.Core.Bool.{true, false, cond}
use mathlib.Core.Logic.{⊎_elim}
use mathlib.Core.List.Memᴰ
use mathlib.Core.List.{List, [], ◌∷◌, ◌++◌}
use Prim.Native.Nat.{ℕ, ◌+◌, ◌≤◌, ◌<◌, max}
use native.Mathlib.Omega.{arith}
use lib.Dec.{eqb}
use borrow.Author.Tests.{eqb-true, eqb-false, lt-ltb}
use Rattle.listlaws.specs.Order.{◌∈◌, Ascending, nil, by}
use Rattle.listlaws.specs.First.{some}
use Rattle.listlaws.specs.Fold.{fold}
use Rattle.listlaws.proofs.Orders.{head-before, tail-ascends}
use Rattle.listlaws.proofs.Sides.{one-ascends, append-ascends, fold-keeps}
use Rattle.listlaws.proofs.Somes.{some-means, some-false}
use Rattle.records.specs.declared.Record.{Record}
use Rattle.records.specs.Kinds.{before}
use Rattle.scan.proofs.Eachs.{decide}
use Rattle.scan.proofs.Befores.{before-fields}
use Rattle.clockimage.specs.Image.{is_kind}
use Rattle.maprecords.specs.Reading.{add_new, entry_keys, waiting_count}
use Rattle.maprecords.proofs.Counts.{keys-counted}

abbrev with_key : List ℕ → Record → List ℕ
with_key keys r = cond (is_kind 2 r) (add_new keys r.key) keys

-- the key of an entry dot is there
pub keys-has : (l : List Record) (s : Record) → s ∈ l → s.kind ≡ 2 → s.key ∈ entry_keys l
keys-has l s i k = let y = some-means (λ x. eqb x s.key) (entry_keys l) ((keys-counted l).all s i k) in
    Memᴰ.cast (sym (eqb-true y.0 s.key y.2)) y.1

-- and each is the key of an entry dot
pub keys-means : (l : List Record) (k : ℕ) → k ∈ entry_keys l → (s : Record) × (s ∈ l) × (s.kind ≡ 2) × (s.key ≡ k)
unfolding entry_keys
keys-means l =
    fold-keeps with_key (λ keys. (k : ℕ) → k ∈ keys → (s : Record) × (s ∈ l) × (s.kind ≡ 2) × (s.key ≡ k)) l
    (λ keys r i g. decide (is_kind 2 r)
    (λ t. decide (some (λ x. eqb x r.key) keys) (λ o. rw (t, o) g)
    (λ n. rw (t, n) (λ k j. ⊎_elim (λ a. g k a) (λ a. (r, i, eqb-true r.kind 2 t, sym (Memᴰ.eq_of_singleton a)))
    (Memᴰ.append_cases keys j))))
    (λ f. rw f g)) [] (λ k i. absurd (Memᴰ.not-nil i))

-- keys that ascend, and are no higher than those to come
rise-from : (keys : List ℕ) (l : List Record) → Ascending (by (λ k. k)) keys → Ascending before l
    → ((k : ℕ) (s : Record) → k ∈ keys → s ∈ l → s.kind ≡ 2 → k ≤ s.key) → Ascending (by (λ k. k)) (fold with_key keys l)
unfolding fold
rise-from keys [] a b f = a
rise-from keys (r ∷ l) a b f =
    decide (is_kind 2 r)
    (λ t. decide (some (λ x. eqb x r.key) keys)
    (λ o. rw (t, o) (rise-from keys l a (tail-ascends b) further))
    (λ n. rw (t, n) (rise-from (keys ++ (r.key ∷ [])) l (append-ascends a (one-ascends r.key) (above (eqb-true r.kind 2 t) n)) (tail-ascends b)
    (added (eqb-true r.kind 2 t)))))
    (λ n. rw n (rise-from keys l a (tail-ascends b) further))
  where
    further : (k : ℕ) (s : Record) → k ∈ keys → s ∈ l → s.kind ≡ 2 → k ≤ s.key
    further k s i j e = f k s i (Memᴰ.tail j) e

    above : r.kind ≡ 2 → some (λ x. eqb x r.key) keys ≡ false → (x y : ℕ) → x ∈ keys → y ∈ (r.key ∷ []) → by (λ k. k) x y ≡ true
    above e n x y i j =
        let same : y ≡ r.key = Memᴰ.eq_of_singleton j in
        let most = f x r i (Memᴰ.head refl) e in
        let other = eqb-false x r.key (some-false (λ x. eqb x r.key) n x i) in
        lt-ltb x y (omega arith)

    added : r.kind ≡ 2 → (k : ℕ) (s : Record) → k ∈ (keys ++ (r.key ∷ [])) → s ∈ l → s.kind ≡ 2 → k ≤ s.key
    added e k s i j q =
        ⊎_elim (λ a. further k s a j q)
        (λ a. let same : k ≡ r.key = Memᴰ.eq_of_singleton a in let most = (before-fields (head-before b s j)).key (e ∙ sym q) in omega arith)
        (Memᴰ.append_cases keys i)

pub keys-rise : (l : List Record) → Ascending before l → Ascending (by (λ k. k)) (entry_keys l)
unfolding entry_keys
keys-rise l a = rise-from [] l nil a (λ k s i. absurd (Memᴰ.not-nil i))

abbrev with_index : ℕ → Record → ℕ
with_index n r = cond (is_kind 5 r) (max n (r.index + 1)) n

-- no more waiting removals than a bound on every index
pub count_most : (l : List Record) (n : ℕ) → ((s : Record) → s ∈ l → s.kind ≡ 5 → s.index < n) → waiting_count l ≤ n
unfolding waiting_count
count_most l n f =
    fold-keeps with_index (λ k. k ≤ n) l (λ k r i p. decide (is_kind 5 r) (λ t. let b = f r i (eqb-true r.kind 5 t) in rw t (omega arith))
    (λ o. rw o p)) 0 (omega arith)
