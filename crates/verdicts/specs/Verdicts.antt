-- What a validation or the guard says of two images: its number, and what it found where both passed.
use Rattle.std.specs.Prelude.{ℕ, cond, List, [], ◌∷◌, eqb}
use Rattle.asking.specs.declared.CmRDTValidation.TheVariants.{Fits}
use Rattle.asking.specs.declared.CvRDTValidation.TheVariants.{Once}
use Rattle.readiness.specs.declared.Readiness.TheVariants.{Next}
use Rattle.opimage.specs.OpImage.{read_op}
use Rattle.maprecords.specs.Related.{read_map}
use Rattle.answers.specs.Answer.{first_of, number_of}
use Rattle.promises.specs.Calls.{op_validation, order_answer, spent_of, spent_answer}
use Rattle.promises.specs.Ready.{readiness_of, ready_answer}
use Rattle.verdicts.specs.declared.OpVerdict.{OpVerdict}
use Rattle.verdicts.specs.declared.MergeVerdict.{MergeVerdict}
use Rattle.verdicts.specs.declared.ReadyVerdict.{ReadyVerdict}

abbrev pub op_verdict : List ℕ → List ℕ → OpVerdict
op_verdict map op = record {
  number = number_of (order_answer map op) [];
  order = cond (eqb (first_of ((read_map map).number ∷ (read_op op).number ∷ [])) 0) (op_validation map op) Fits;
}

abbrev pub merge_verdict : List ℕ → List ℕ → MergeVerdict
merge_verdict map other = record {
  number = number_of (spent_answer map other) [];
  spent = cond (eqb (first_of ((read_map map).number ∷ (read_map other).number ∷ [])) 0) (spent_of map other) Once;
}

abbrev pub ready_verdict : List ℕ → List ℕ → ReadyVerdict
ready_verdict map op = record {
  number = number_of (ready_answer map op) [];
  ready = cond (eqb (first_of ((read_map map).number ∷ (read_op op).number ∷ [])) 0) (readiness_of map op) Next;
}
