-- A loop that hands the records of a slice to a state, one after the other.
use mathlib.Core.Path.{◌≡◌, sym, ◌∙◌}
use mathlib.Core.List.{List, [], ◌∷◌, ◌++◌, append-nil}
use Prim.Native.Nat.{ℕ, suc, ◌+◌, ◌*◌, ◌-◌, ◌/◌, ◌≤◌, ◌<◌}
use native.Mathlib.Omega.{arith}
use lib.ListN.{length}
use lib.Seq.{append_snoc}
use Rattle.records.specs.Records.{record_from, records_from, records_of}
use Rattle.records.specs.declared.Record.{Record}

-- i records of s are handed over, and the state holds what `Fed` says of them
pub record Feeding {S : Type 0} (Fed : List Record → S → Type 0) (s : List ℕ) (i : ℕ) (state : S) : Type 0 where
  pub done : List Record
  pub fed : Fed done state
  pub parts : records_of s ≡ done ++ records_from s (i * 16) (length s / 16 - i)

module _ {S : Type 0} {Fed : List Record → S → Type 0} (s : List ℕ) where
  pub feed-start : {state : S} → Fed [] state → Feeding Fed s 0 state
  feed-start f =
      let n : length s / 16 - 0 ≡ length s / 16 = omega arith in
      record { done = []; fed = f; parts = rw n }

  pub feed-on : {i : ℕ} {state next : S} → Feeding Fed s i state → i < length s / 16
      → ((l : List Record) → Fed l state → Fed (l ++ (record_from s (i * 16) ∷ [])) next) → Feeding Fed s (i + 1) next
  unfolding records_from
  feed-on {i} f h step =
      let n : length s / 16 - i ≡ suc (length s / 16 - (i + 1)) = omega arith in
      let at : (i + 1) * 16 ≡ i * 16 + 16 = omega arith in
      record {
        done = f.done ++ (record_from s (i * 16) ∷ []);
        fed = step f.done f.fed;
        parts = f.parts ∙ rw (n, at) (sym (append_snoc f.done (record_from s (i * 16)) (records_from s (i * 16 + 16) (length s / 16 - (i + 1)))));
      }

  pub feed-end : {i : ℕ} {state : S} → Feeding Fed s i state → length s / 16 ≤ i → (l : List Record) × (Fed l state) × (l ≡ records_of s)
  unfolding records_from
  feed-end {i} f h =
      let n : length s / 16 - i ≡ 0 = omega arith in
      (f.done, f.fed, sym (f.parts ∙ rw n (append-nil f.done)))
