-- `differences` meets its contract: each way out is a law of `Answers`.
use mathlib.Core.Path.{◌≡◌, refl, ap, sym, ◌∙◌}
use Prim.Native.Nat.{◌*◌}
use native.Mathlib.Omega.{arith}
use mathlib.Core.List.{List}
use lib.ListN.{length}
use Rattle.map.specs.Model.{entries_in}
use Rattle.maprecords.specs.Related.{read_map}
use Rattle.answers.proofs.Answers.{number-first, number-second, number_short, number-done, refuses, writes}
use Rattle.differences.specs.declared.Difference.{Difference}
use Rattle.differences.specs.Differences.{differences_of, all_told}
use Rattle.differences.proofs.Classes.{length-told}
use Rattle.differing.proofs.telling.differences.Goals.{After-count-n}
use Rattle.differing.proofs.telling.differences.Goals as goal

-- the report, and its length
abbrev report : After-count-n → List Difference
report n =
    let a = n.args in
    differences_of (entries_in (read_map a.map.now).map) (entries_in (read_map a.other.now).map)

long : (n : After-count-n) → length (all_told (report n)) ≡ n.count-n.result * 5
long n = length-told (report n) ∙ ap (λ z. z * 5) (sym n.count-n.ensures.0)

pub returns-then-a-ne0 : goal.returns-then-a-ne0
returns-then-a-ne0 c =
    let i = c.before in
    rw c.word.ensures (refuses _ _ (number-first _ _ i.lay_out-a.ensures.0 i.if-a-ne0.true) i.if-a-ne0.true)

pub returns-then-b-ne0 : goal.returns-then-b-ne0
returns-then-b-ne0 c =
    let i = c.before in
    let j = i.before.before.before in
    let first = sym j.lay_out-a.ensures.0 ∙ j.if-a-ne0.false in
    rw c.word-then-b-ne0.ensures (refuses _ _ (number-second _ _ first i.lay_out-b.ensures.0 i.if-b-ne0.true) i.if-b-ne0.true)

pub count-n-requires : goal.count-n-requires
count-n-requires c =
    let i = c.before.before in
    let j = i.before.before.before in
    ((j.lay_out-a.ensures.1 j.if-a-ne0.false).lies, (i.lay_out-b.ensures.1 i.if-b-ne0.false).lies)

pub overflow_mul-n : goal.overflow_mul-n
overflow_mul-n c = omega (arith, c.count-n.ensures.1)

pub returns-then-out-n : goal.returns-then-out-n
returns-then-out-n c =
    let n = c.before.before in
    let i = n.before.before.before in
    let j = i.before.before.before in
    let first = sym j.lay_out-a.ensures.0 ∙ j.if-a-ne0.false in
    let second = sym i.lay_out-b.ensures.0 ∙ i.if-b-ne0.false in
    rw c.word-then-out-n.ensures (refuses _ _ (number_short _ _ first second refl
    (omega (arith, long (goal.at.returns-then-out-n c).After-count-n, c.if-out-n.true))) (omega arith))

pub write-requires : goal.write-requires
write-requires c =
    let n = c.before.before in
    let i = n.before.before.before in
    let j = i.before.before.before in (
      ((j.lay_out-a.ensures.1 j.if-a-ne0.false).lies, (i.lay_out-b.ensures.1 i.if-b-ne0.false).lies),
      omega (arith, n.count-n.ensures.0, c.if-out-n.false),
    )

pub returns : goal.returns
returns c =
    let w = c.before.before in
    let n = w.before.before.before in
    let i = n.before.before.before in
    let j = i.before.before.before in
    let first = sym j.lay_out-a.ensures.0 ∙ j.if-a-ne0.false in
    let second = sym i.lay_out-b.ensures.0 ∙ i.if-b-ne0.false in
    writes _ _ (number-done _ _ first second refl (omega (arith, long (goal.at.returns c).After-count-n, w.if-out-n.false))) w.write.ensures
