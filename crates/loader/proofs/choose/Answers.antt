-- `choose` meets its contract: a value that is below no other is reported, one a turn.
use mathlib.Core.Path.{◌≡◌, refl, ap, sym, ◌∙◌}
use mathlib.Core.Bool.{true, false, not}
use mathlib.Core.List.{List, ◌∷◌, [], ◌++◌}
use Prim.Native.Nat.{ℕ, ◌+◌, ◌-◌, ◌<◌}
use native.Mathlib.Omega.{arith}
use native.Mathlib.Numerals.{add-one}
use lib.ListN.{length, take, get_or}
use lib.Seq.{take-suc, take_all}
use borrow.Author.Tests.{not-true, not-false}
use Rattle.listlaws.specs.First.{first_in}
use Rattle.listlaws.specs.Sift.{sift, those}
use Rattle.scan.proofs.Rooms.{those-yes, those-no}
use Rattle.register.specs.declared.Value.{Value}
use Rattle.register.specs.Values.{no_value}
use Rattle.keyed.specs.Keyed.{Registered}
use Rattle.comparing.specs.Registers.{RunsOf}
use Rattle.entrywalk.proofs.Starts.{runs-compared}
use Rattle.entrywalk.proofs.Lying.{many-there}
use Rattle.loader.specs.Choice.{is_below, undropped, smallest, differ, report_on, report_of}
use mathlib.Core.Bool.{not}
use Rattle.loader.proofs.choose.Invariants.{left}
use Rattle.loader.proofs.choose.Goals.{At-loop-i, then-not-is_below, else-not-is_below}
use Rattle.loader.proofs.choose.Goals as goal

pub starts_of-starts-requires : goal.starts_of-starts-requires
starts_of-starts-requires c =
    let p = c.requires.1 in
    (omega (arith, p.few, many-there p.key _ p.third), (p.fourth.order, p.fourth.within))

-- the values can be compared
module _ (c : At-loop-i) where
  compared : (l : List Value) → let a = c.args in
      Registered a.map.now l a.values a.clocks → RunsOf a.map.now c.starts_of-starts.result (a.values.to - a.values.from) l
  compared l h =
      let many = many-there h.key l h.third in
      runs-compared (c.starts_of-starts.ensures h.key l many h.fourth.records) many h.few h.each

pub loop-i-init : goal.loop-i-init
unfolding sift smallest differ first_in
loop-i-init c =
    let p = c.requires.1 in
    ((omega arith, omega (arith, p.few, many-there p.key _ p.third)), λ key l h r. refl)

pub is_below-requires : goal.is_below-requires
is_below-requires c = let p = c.requires in (omega arith, (p.0, compared (goal.at.is_below-requires c).At-loop-i p.0 p.1))

pub number_at-requires : goal.number_at-requires
number_at-requires c =
    let p = c.requires in
    (p.1.key, p.0, p.1.third, omega (arith, many-there p.1.key p.0 p.1.third))

pub with_value-r-requires : goal.with_value-r-requires
with_value-r-requires c = omega arith

-- one value more
module _ (l : List Value) (i : ℕ) (h : i < length l) where
  taken : take (i + 1) l ≡ take i l ++ (get_or l i no_value ∷ [])
  taken = rw (add-one i) (take-suc l i no_value h)

  stays : is_below l (get_or l i no_value) ≡ false → left l (i + 1) ≡ left l i ++ (get_or l i no_value ∷ [])
  stays t = ap (those (λ v. not (is_below l v))) taken ∙ those-yes (λ v. not (is_below l v)) (take i l) (get_or l i no_value) (ap not t)

  goes : is_below l (get_or l i no_value) ≡ true → left l (i + 1) ≡ left l i
  goes t = ap (those (λ v. not (is_below l v))) taken ∙ those-no (λ v. not (is_below l v)) (take i l) (get_or l i no_value) (ap not t)

pub loop-i-preserved : goal.loop-i-preserved
loop-i-preserved c = elim c.if-not-is_below.branch [
  | then-not-is_below w ↦ rw w.r-is (
    (omega (arith, w.with_value-r.ensures.0), c.loop-i.invariant.0.1),
    λ key l h r.
        let k : c.loop-i.i < length l = omega (arith, r.count) in
        w.with_value-r.ensures.1 (left l c.loop-i.i) (get_or l c.loop-i.i no_value) (c.loop-i.invariant.1 key l h r)
        (w.number_at.ensures key l h k)
        ∙ ap report_on (sym (stays l c.loop-i.i k (sym (c.is_below.ensures l r) ∙ not-true _ (ap not w.if-not-is_below.true)))),
  )
  | else-not-is_below w ↦ rw w.r-is (
    (omega arith, c.loop-i.invariant.0.1),
    λ key l h r.
        let k : c.loop-i.i < length l = omega (arith, r.count) in
        c.loop-i.invariant.1 key l h r
        ∙ ap report_on (sym (goes l c.loop-i.i k (sym (c.is_below.ensures l r) ∙ not-false _ (ap not w.if-not-is_below.false)))),
  )
]

pub returns : goal.returns
unfolding report_of undropped
returns c = λ l h.
    let s = c.before in
    let n = many-there h.key l h.third in
    s.loop-i.invariant.1 h.key l h.third (compared (goal.at.returns c).At-loop-i l h) ∙ ap (λ k. report_on (those (λ v. not (is_below l v)) k))
    (take_all s.loop-i.i l (omega arith))
