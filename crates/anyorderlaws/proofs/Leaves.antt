-- What a call leaves where it answers 0: its image in front, the length as the word, later bytes unchanged; and that one accepted call of
-- castribba_apply is what a run asks for.
use mathlib.Core.Path.{◌≡◌, refl, ap, ap₂, ◌∙◌}
use mathlib.Core.List.{List, ◌++◌}
use Prim.Native.Nat.{ℕ, ◌+◌, ◌*◌, ◌^◌, ◌≤◌, ◌<◌}
use native.Mathlib.Omega.{arith}
use borrow.Author.Tests.{ltb-false}
use lib.Dec.{ltb}
use lib.Seq.{take-append_seam}
use lib.ListN.{length, take, drop}
use Rattle.listlaws.specs.Fold.{fold}
use Rattle.scan.proofs.Eachs.{decide}
use Rattle.mapimage.specs.MapImage.{map_longest}
use Rattle.answers.specs.Answer.{Answer, short_of, number_of, word_of, out_of, Answered}
use Rattle.answers.proofs.Answers.{number-done}
use Rattle.promises.specs.Calls.{apply_answer}
use Rattle.anyorderlaws.specs.Calls.{Done, image_after, AllDone, none, more, end, Called, stop, call}
use Rattle.readbacklaws.proofs.Back.{zeros}

pub record Left (bytes entry exit : List ℕ) (word : ℕ) : Type 0 where
  pub length-given : word ≡ length bytes
  pub image-first : exit ≡ bytes ++ drop (length bytes) entry

plus : (n : ℕ) → 0 * 2 ^ 32 + n ≡ n
plus n = omega arith

-- by the contract of a call with an output
module _ {a : Answer} {entry exit : List ℕ} {word : ℕ} (r : Answered a entry exit word) where
  -- what it leaves where it answers 0
  leaves : number_of a entry ≡ 0 → Left a.bytes entry exit word
  unfolding word_of out_of
  leaves z = record { length-given = (rw z at r.packed) ∙ plus (length a.bytes); image-first = rw z at r.left }

  -- a word below 2^32 is a length: the call answered 0, and so many bytes of the output are its image
  pub answers-zero : word < 2 ^ 32 → number_of a entry ≡ 0
  unfolding word_of
  answers-zero w = omega (arith, r.packed, w)

  pub first-bytes : word < 2 ^ 32 → take word exit ≡ a.bytes
  first-bytes w =
      let l = leaves (answers-zero w) in
      ap₂ take l.length-given l.image-first ∙ take-append_seam a.bytes (drop (length a.bytes) entry)

-- the image that castribba_apply leaves
step_is : (s o : List ℕ) → (apply_answer s o).bytes ≡ image_after s o
unfolding image_after
step_is s o = refl

-- what fits an output
fits : (bytes out : List ℕ) → short_of bytes out ≡ 0 → length bytes ≤ length out
fits bytes out e = decide (ltb (length out) (length bytes)) (λ t. absurd (let z = rw t at e in omega (arith, z)))
    (λ f. ltb-false (length out) (length bytes) f)

-- a call that was accepted once, with an output of the longest size or a shorter one, is accepted with every output of the longest size
pub once-done : (s o out : List ℕ) → length out ≤ map_longest → number_of (apply_answer s o) out ≡ 0 → Done s o
once-done s o out n e other m =
    let z = zeros (apply_answer s o) out e in
    let d = fits (apply_answer s o).bytes out z.short in
    number-done (apply_answer s o) other z.first z.second z.own (omega (arith, d))

-- an end theorem: calls that a program made are a run, and its last map is the run's
pub called-passed : {s last : List ℕ} {ops : List (List ℕ)} → Called s ops last → AllDone s ops × (last ≡ end s ops)
unfolding fold
called-passed stop = (none, refl)
called-passed (call {s = s} {o = o} {entry = entry} {ops = ops} r n w c) =
    let t = called-passed c in
    let next = first-bytes r w ∙ step_is s o in
    (more (once-done s o entry (omega (arith, n)) (answers-zero r w)) (rw next at t.0), t.1 ∙ ap (λ x. end x ops) next)
