-- Number 3 in 01's own sentences: an image that is well formed and within the limits answers 3 exactly when one of them fails.
use mathlib.Core.Path.{◌≡◌, refl, sym}
use mathlib.Core.Bool.{Bool, true, false, cond}
use mathlib.Core.List.{List}
use Prim.Native.Nat.{ℕ, ◌%◌}
use native.Mathlib.Omega.{arith}
use borrow.Author.Tests.{le-ltb, eq-eqb}
use lib.ListN.{length}
use Rattle.listlaws.proofs.Orders.{apart}
use Rattle.records.specs.Records.{records_of}
use Rattle.scan.specs.Numbers.{scan_number}
use Rattle.scan.proofs.Eachs.{decide}
use Rattle.opimage.specs.OpImage.{op_longest, op_related, read_op}
use Rattle.mapimage.specs.MapImage.{map_longest}
use Rattle.maprecords.specs.Related.{related, read_map}
use Rattle.sentencelaws.specs.Sentences.{MapSentences, OpSentences, SoundImage, Three}
use Rattle.sentencelaws.proofs.Holding.{holding}
use Rattle.sentencelaws.proofs.Needing.{needing}
use Rattle.sentencelaws.proofs.Ops.{op-holding, op-needing}

-- a test that the sentences decide, and a number that the test decides
three : {Sentences : Type 0} {number : ℕ} (test : Bool) → (test ≡ true → Sentences) → (Sentences → test ≡ true) → number ≡ cond test 0 3
    → Three Sentences number
three true f g e = record { all_hold = λ h. e; one-fails = λ n. absurd (n (f refl)); three-means = λ t h. omega (arith, e); zero-means = λ t. f refl }
three false f g e = record {
  all_hold = λ h. apart (sym (g h));
  one-fails = λ n. e;
  three-means = λ t h. apart (sym (g h));
  zero-means = λ t. absurd (omega (arith, e));
}

scan-zero : {longest low high : ℕ} {s : List ℕ} → SoundImage longest low high s → scan_number low high (records_of s) ≡ 0
unfolding scan_number
scan-zero h = rw (h.formed, h.few) refl

-- the number by the test
map-number : (s : List ℕ) → SoundImage map_longest 1 6 s → (read_map s).number ≡ cond (related (records_of s)) 0 3
unfolding read_map
map-number s h =
    rw (le-ltb map_longest (length s) h.short, eq-eqb (length s % 16) 0 h.whole, eq-eqb (scan_number 1 6 (records_of s)) 0 (scan-zero h))
    (decide (related (records_of s)) (λ t. rw t refl) (λ f. rw f refl))

op-number : (s : List ℕ) → SoundImage op_longest 7 12 s → (read_op s).number ≡ cond (op_related (records_of s)) 0 3
unfolding read_op
op-number s h =
    rw (le-ltb op_longest (length s) h.short, eq-eqb (length s % 16) 0 h.whole, eq-eqb (scan_number 7 12 (records_of s)) 0 (scan-zero h))
    (decide (op_related (records_of s)) (λ t. rw t refl) (λ f. rw f refl))

-- the end theorems of this crate
pub map-three : (s : List ℕ) → SoundImage map_longest 1 6 s → Three (MapSentences (records_of s)) (read_map s).number
map-three s h = three (related (records_of s)) (holding (records_of s) (scan-zero h)) (needing (records_of s) (scan-zero h)) (map-number s h)

pub op_three : (s : List ℕ) → SoundImage op_longest 7 12 s → Three (OpSentences (records_of s)) (read_op s).number
op_three s h = three (op_related (records_of s)) (op-holding (records_of s)) (op-needing (records_of s)) (op-number s h)
