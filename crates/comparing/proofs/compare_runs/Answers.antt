-- `compare_runs` meets its contract: the loop walks both runs side by side, and keeps what each covers of the other.
use mathlib.Core.Path.{◌≡◌, refl, ap, ap₂, sym, ◌∙◌, subst}
use mathlib.Core.Bool.{Bool, true, false, ◌&&◌}
use mathlib.Core.List.{List}
use mathlib.Core.Logic.{◌⊎◌, inl, inr, ⊎_swap}
use Prim.Native.Nat.{ℕ, ◌≤◌, ◌<◌, ◌+◌, ◌/◌}
use lib.Dec.{leb}
use lib.ListN.{length, get_or}
use lib.Seq.{take-length}
use borrow.Author.Tests.{ltb-true, le-leb, lt-leb, not-true}
use Rattle.clock.specs.declared.Dot.{Dot}
use Rattle.clock.specs.declared.Order.TheVariants.{Concurrent}
use Rattle.clock.specs.Dots.{no_dot, outcome, order_of, covers}
use Rattle.clock.specs.Lawful.{Lawful}
use Rattle.clock.proofs.Walks.{Covering, covering-start, covering-past, covering-both, covering-missed, covering-end, covering-gone}
use Rattle.runs.specs.Run.{run_dots}
use Rattle.marks.proofs.Dots.{run_at, length_run, all}
use borrow.Author.Rules.{rules}
use native.Mathlib.Omega.{arith}
use mathlib.Core.Bool.{not}
use Rattle.comparing.proofs.compare_runs.Goals.{then-loop-i-test+else-j-m, else-loop-i-test, After-dot_at-e, Left-loop-i}
use Rattle.comparing.proofs.compare_runs.Goals as goal

whole : {l : List Dot} → Lawful l → Lawful (all l)
whole {l} h = rw (take-length l) h

covers-all : (a b : List Dot) → covers (all a) (all b) ≡ covers a b
covers-all a b = rw (take-length a, take-length b)

pub loop-i-init : goal.loop-i-init
loop-i-init c =
    let p = c.requires in
    let a = (whole p.0).rising in
    let b = (whole p.1).rising in
    (search rules, search rules, covering-start a b, covering-start b a)

-- both places are in use, and their dots were read
record Level (c : After-dot_at-e) : Type 0 where
  pub first : let s = c.before.before.before.before in s.loop-i.i < length (all (run_dots s.args.x.now))
  pub second : let s = c.before.before.before.before in s.loop-i.j < length (all (run_dots s.args.y.now))
  pub ours : let s = c.before.before.before.before in
      get_or (run_dots s.args.x.now) s.loop-i.i no_dot ≡ c.dot_at-d.result
  pub theirs : let s = c.before.before.before.before in
      get_or (run_dots s.args.y.now) s.loop-i.j no_dot ≡ c.dot_at-e.result

level : (c : After-dot_at-e) → Level c
level c =
    let s = c.before.before.before.before in
    let x = s.args.x.now in
    let y = s.args.y.now in
    let k : s.loop-i.j < length y / 16 = c.if-j-m.true in
    record {
      first = rw (take-length (run_dots x)) (omega (arith, length_run x));
      second = rw (take-length (run_dots y)) (omega (arith, length_run y));
      ours = run_at x s.loop-i.i (omega arith) ∙ sym c.dot_at-d.ensures;
      theirs = run_at y s.loop-i.j k ∙ sym c.dot_at-e.ensures;
    }

-- a flag by another name
flagged : {xs ys : List Dot} {n i m j : ℕ} {b c : Bool} → b ≡ c → Covering xs n i ys m j b → Covering xs n i ys m j c
flagged {xs} {ys} {n} {i} {m} {j} e g = subst (λ f. Covering xs n i ys m j f) e g

and_yes : (b : Bool) {c : Bool} → c ≡ true → (b && c) ≡ b
and_yes true e = e
and_yes false e = refl

and_no : (b : Bool) {c : Bool} → c ≡ false → (b && c) ≡ false
and_no true e = e
and_no false e = refl

-- neither covers the other
apart-runs : (a b : List Dot) → covers (all a) (all b) ≡ false → covers (all b) (all a) ≡ false → Concurrent ≡ order_of a b
unfolding order_of
apart-runs a b p q = rw (← covers-all a b, ← covers-all b a, p, q)

-- where the walk stands, and what it walks along
module _ (c : After-dot_at-e) where
  abbrev ours : List Dot
  ours = run_dots c.args.x.now

  abbrev theirs : List Dot
  theirs = run_dots c.args.y.now

  in-second : c.loop-i.j < length c.args.y.now / 16
  in-second = c.if-j-m.true

  -- an actor that only the first has
  module _ (e : c.dot_at-d.result.actor < c.dot_at-e.result.actor) where
    first-over : Covering ours (length ours) (c.loop-i.i + 1) theirs (length theirs) c.loop-i.j c.loop-i.over
    first-over = let q = level c in covering-past c.loop-i.invariant.2 q.first q.second (rw (q.ours, q.theirs) e)

    first_under : Covering theirs (length theirs) c.loop-i.j ours (length ours) (c.loop-i.i + 1) false
    first_under =
        let q = level c in
        covering-missed c.loop-i.invariant.3 (whole c.requires.0) q.second q.first (rw (q.ours, q.theirs) e)

  -- an actor that only the second has
  module _ (e : c.dot_at-e.result.actor < c.dot_at-d.result.actor) where
    second-over : Covering ours (length ours) c.loop-i.i theirs (length theirs) (c.loop-i.j + 1) false
    second-over =
        let q = level c in
        covering-missed c.loop-i.invariant.2 (whole c.requires.1) q.first q.second (rw (q.ours, q.theirs) e)

    second-under : Covering theirs (length theirs) (c.loop-i.j + 1) ours (length ours) c.loop-i.i c.loop-i.under
    second-under = let q = level c in covering-past c.loop-i.invariant.3 q.second q.first (rw (q.ours, q.theirs) e)

  -- an actor that both have
  module _ (e : c.dot_at-d.result.actor ≡ c.dot_at-e.result.actor) where
    both-over : Covering ours (length ours) (c.loop-i.i + 1) theirs (length theirs) (c.loop-i.j + 1)
        (c.loop-i.over && leb c.dot_at-e.result.counter c.dot_at-d.result.counter)
    both-over =
        let q = level c in
        flagged (ap₂ (λ d e. c.loop-i.over && leb e.counter d.counter) q.ours q.theirs)
        (covering-both c.loop-i.invariant.2 q.first q.second (rw (q.ours, q.theirs) e))

    both_under : Covering theirs (length theirs) (c.loop-i.j + 1) ours (length ours) (c.loop-i.i + 1)
        (c.loop-i.under && leb c.dot_at-d.result.counter c.dot_at-e.result.counter)
    both_under =
        let q = level c in
        flagged (ap₂ (λ d e. c.loop-i.under && leb d.counter e.counter) q.ours q.theirs)
        (covering-both c.loop-i.invariant.3 q.second q.first (rw (q.ours, q.theirs) (sym e)))

pub returns-then-not-over : goal.returns-then-not-over
returns-then-not-over c =
    let y = c.before.before.before.before in
    apart-runs (ours (goal.at.returns-then-not-over c).After-dot_at-e) (theirs (goal.at.returns-then-not-over c).After-dot_at-e)
    (covering-gone y.loop-i.invariant.2 (not-true _ (ap not c.if-not-over.true)))
    (covering-gone (first_under (goal.at.returns-then-not-over c).After-dot_at-e c.if-d-e.true) refl)

pub loop-i-preserved-then-d-e : goal.loop-i-preserved-then-d-e
loop-i-preserved-then-d-e c = let y = c.before.before.before.before in let e = c.if-d-e.true in (
  omega arith,
  search rules,
  first-over (goal.at.loop-i-preserved-then-d-e c).After-dot_at-e e,
  first_under (goal.at.loop-i-preserved-then-d-e c).After-dot_at-e e,
)

pub returns-then-not-under : goal.returns-then-not-under
returns-then-not-under c =
    let y = c.before.before.before.before.before.before.before in
    apart-runs (ours (goal.at.returns-then-not-under c).After-dot_at-e) (theirs (goal.at.returns-then-not-under c).After-dot_at-e)
    (covering-gone (second-over (goal.at.returns-then-not-under c).After-dot_at-e c.if-e-d.true) refl)
    (covering-gone y.loop-i.invariant.3 (not-true _ (ap not c.if-not-under.true)))

pub loop-i-preserved-then-e-d : goal.loop-i-preserved-then-e-d
loop-i-preserved-then-e-d c =
    let y = c.before.before.before.before.before.before.before in
    let e = c.if-e-d.true in (
      search rules,
      omega (arith, in-second (goal.at.loop-i-preserved-then-e-d c).After-dot_at-e),
      second-over (goal.at.loop-i-preserved-then-e-d c).After-dot_at-e e,
      second-under (goal.at.loop-i-preserved-then-e-d c).After-dot_at-e e,
    )

pub returns-then-not-under-2 : goal.returns-then-not-under-2
returns-then-not-under-2 c =
    let y = c.before.before.before.before.before.before.before.before.before.before in
    let e : y.dot_at-d.result.actor ≡ y.dot_at-e.result.actor = omega
    (arith, c.if-e-d.false, c.if-d-e.false) in
    apart-runs (ours (goal.at.returns-then-not-under-2 c).After-dot_at-e) (theirs (goal.at.returns-then-not-under-2 c).After-dot_at-e)
    (covering-gone (both-over (goal.at.returns-then-not-under-2 c).After-dot_at-e e) (and_no y.loop-i.over (lt-leb _ _ c.if-d-e-2.true)))
    (covering-gone y.loop-i.invariant.3 (not-true _ (ap not c.if-not-under-2.true)))

pub loop-i-preserved-then-d-e-2 : goal.loop-i-preserved-then-d-e-2
loop-i-preserved-then-d-e-2 c =
    let y = c.before.before.before.before.before.before.before.before.before.before in
    let e : y.dot_at-d.result.actor ≡ y.dot_at-e.result.actor = omega
    (arith, c.if-e-d.false, c.if-d-e.false) in
    let k = c.if-d-e-2.true in (
      omega (arith, y.loop-i-test),
      omega (arith, in-second (goal.at.loop-i-preserved-then-d-e-2 c).After-dot_at-e),
      flagged (and_no y.loop-i.over (lt-leb _ _ k)) (both-over (goal.at.loop-i-preserved-then-d-e-2 c).After-dot_at-e e),
      flagged (and_yes y.loop-i.under (le-leb y.dot_at-d.result.counter y.dot_at-e.result.counter (omega (arith, k))))
          (both_under (goal.at.loop-i-preserved-then-d-e-2 c).After-dot_at-e e),
    )

pub returns-then-not-over-2 : goal.returns-then-not-over-2
returns-then-not-over-2 c =
    let y = c.before.before.before.before.before.before.before.before.before.before.before.before.before in
    let e : y.dot_at-d.result.actor ≡ y.dot_at-e.result.actor = omega (
      arith,
      c.if-e-d.false,
      c.if-d-e.false,
    ) in
    apart-runs (ours (goal.at.returns-then-not-over-2 c).After-dot_at-e) (theirs (goal.at.returns-then-not-over-2 c).After-dot_at-e)
    (covering-gone y.loop-i.invariant.2 (not-true _ (ap not c.if-not-over-2.true)))
    (covering-gone (both_under (goal.at.returns-then-not-over-2 c).After-dot_at-e e) (and_no y.loop-i.under (lt-leb _ _ c.if-e-d-2.true)))

pub loop-i-preserved-then-e-d-2 : goal.loop-i-preserved-then-e-d-2
loop-i-preserved-then-e-d-2 c =
    let y = c.before.before.before.before.before.before.before.before.before.before.before.before.before in
    let e : y.dot_at-d.result.actor ≡ y.dot_at-e.result.actor = omega (
      arith,
      c.if-e-d.false,
      c.if-d-e.false,
    ) in
    let k = c.if-e-d-2.true in (
      omega (arith, y.loop-i-test),
      omega (arith, in-second (goal.at.loop-i-preserved-then-e-d-2 c).After-dot_at-e),
      flagged (and_yes y.loop-i.over (le-leb y.dot_at-e.result.counter y.dot_at-d.result.counter (omega (arith, k))))
          (both-over (goal.at.loop-i-preserved-then-e-d-2 c).After-dot_at-e e),
      flagged (and_no y.loop-i.under (lt-leb _ _ k)) (both_under (goal.at.loop-i-preserved-then-e-d-2 c).After-dot_at-e e),
    )

pub loop-i-preserved : goal.loop-i-preserved
loop-i-preserved c =
    let y = c.before.before.before.before.before.before.before.before.before.before.before.before in
    let e : y.dot_at-d.result.actor ≡ y.dot_at-e.result.actor = omega (
      arith,
      c.if-e-d.false,
      c.if-d-e.false,
    ) in (
      omega (arith, y.loop-i-test),
      omega (arith, in-second (goal.at.loop-i-preserved c).After-dot_at-e),
      flagged (and_yes y.loop-i.over (le-leb _ _ c.if-d-e-2.false)) (both-over (goal.at.loop-i-preserved c).After-dot_at-e e),
      flagged (and_yes y.loop-i.under (le-leb _ _ c.if-e-d-2.false)) (both_under (goal.at.loop-i-preserved c).After-dot_at-e e),
    )

-- one of the two is used up
left_over : (c : Left-loop-i) → let s = c.before in
    (length (all (run_dots s.args.x.now)) ≤ s.loop-i.i) ⊎
    (length (all (run_dots s.args.y.now)) ≤ s.loop-i.j)
left_over c =
    let s = c.before in
    let x = s.args.x.now in
    let y = s.args.y.now in
    elim c.loop-i-test.branch [
      | then-loop-i-test+else-j-m w ↦ inr (rw (take-length (run_dots y)) (omega (arith, w.if-j-m.false, length_run y)))
      | else-loop-i-test w ↦ inl (rw (take-length (run_dots x)) (omega (arith, w.loop-i-test.false, length_run x)))
    ]

long : (s : List ℕ) → length s / 16 ≡ length (all (run_dots s))
long s = rw (take-length (run_dots s)) (sym (length_run s))

pub returns : goal.returns
unfolding order_of
returns c =
    let s = c.before.before in
    let p = s.requires in
    let x = s.args.x.now in
    let y = s.args.y.now in
    let e = left_over (goal.at.returns c).Left-loop-i in
    c.outcome.ensures
    ∙ ap₂ outcome
    (ap (λ k. s.loop-i.over && leb k s.loop-i.j) (long y) ∙ covering-end s.loop-i.invariant.2 (whole p.1) e ∙ covers-all (run_dots x) (run_dots y))
    (ap (λ k. s.loop-i.under && leb k s.loop-i.i) (long x) ∙ covering-end s.loop-i.invariant.3 (whole p.0) (⊎_swap e) ∙ covers-all (run_dots y)
    (run_dots x))

pub dot_at-e-requires : goal.dot_at-e-requires
dot_at-e-requires c = omega (arith, ltb-true)

pub loop-i-smaller-then-d-e : goal.loop-i-smaller-then-d-e
loop-i-smaller-then-d-e c = omega (arith, ltb-true)

pub loop-i-smaller-then-e-d : goal.loop-i-smaller-then-e-d
loop-i-smaller-then-e-d c = omega (arith, ltb-true)

pub loop-i-smaller-then-d-e-2 : goal.loop-i-smaller-then-d-e-2
loop-i-smaller-then-d-e-2 c = omega (arith, ltb-true)

pub loop-i-smaller-then-e-d-2 : goal.loop-i-smaller-then-e-d-2
loop-i-smaller-then-e-d-2 c = omega (arith, ltb-true)

pub loop-i-smaller : goal.loop-i-smaller
loop-i-smaller c = omega (arith, ltb-true)
