-- `keeps` meets its contract: the loop walks both entries' clocks side by side, with both maps' clocks beside them.
use mathlib.Core.Path.{◌≡◌, refl}
use mathlib.Core.Bool.{Bool, true, false, ◌||◌}
use mathlib.Core.Logic.{◌⊎◌, ⊎_elim, inl, inr}
use Prim.Native.Nat.{ℕ, ◌<◌, ◌-◌, ◌+◌}
use lib.Dec.{ltb}
use borrow.Author.Tests.{ltb-true}
use Rattle.listlaws.proofs.Sifting.{sifting-start}
use Rattle.listlaws.proofs.Weaving.{both-past}
use Rattle.limits.specs.Limits.{dot_limit}
use Rattle.clock.specs.Dots.{dots_of}
use Rattle.keeping.proofs.Meets.{Meets, meets}
use Rattle.keeping.proofs.Walked.{Keeps, Step, walked_start, walked_step, walked_end, keeps-room, keeps_on, keeps-off}
use Rattle.keeping.proofs.Walked.{keeps-end, deletes-room, deletes-on, deletes-off, deletes-end}
use borrow.Author.Rules.{rules}
use native.Mathlib.Omega.{arith}
use Rattle.keeping.proofs.keeps.Goals.{then-k-gt0, else-k-gt0, After-max-all, After-meet-r, Joined-k-gt0, Then-k-all, Then-k-gt0}
use Rattle.keeping.proofs.keeps.Goals as goal

-- one of two is left
one_left : (i n j m : ℕ) → (ltb i n || ltb j m) ≡ true → (i < n) ⊎ (j < m)
one_left i n j m t = go (ltb i n) refl t
  where
    go : (b : Bool) → ltb i n ≡ b → (b || ltb j m) ≡ true → (i < n) ⊎ (j < m)
    go true e u = inl (ltb-true i n e)
    go false e u = inr (ltb-true j m u)

pub loop-i-init : goal.loop-i-init
loop-i-init c =
    let a = c.before.before.before.before.before.before in
    let r = a.requires in (
      search rules,
      search rules,
      record {
        t = 0;
        walked = walked_start _ _ _ _ r.0.0 r.0.1 r.1.0.0 r.1.0.1;
        keeps = sifting-start c.new-keep.ensures;
        deletes = sifting-start c.new-gone.ensures;
      },
    )

-- the next actor
met : (c : After-meet-r) → let s = c.before.before in
    let a = s.args in
    Meets (dots_of a.x) (dots_of a.y) s.loop-i.i s.loop-i.j c.meet-r.result
met c =
    let s = c.before.before in
    let first = s.size-n.ensures in
    let second = s.size-m.ensures in
    meets (omega (arith, s.loop-i.invariant.0, first)) (omega (arith, s.loop-i.invariant.1, second))
    (⊎_elim (λ h. inl (omega (arith, first))) (λ h. inr (omega (arith, second)))
    (one_left s.loop-i.i s.size-n.result s.loop-i.j
    s.size-m.result c.loop-i-test.true))
    c.meet-r.ensures

-- one dot more of both
step : (c : After-max-all) → let s = c.before.before.before.before.before.before in
    let a = s.args in
    Step a.x a.y a.mine a.yours s.loop-i.invariant.2.t c.meet-r.result
    c.seek-e.result c.seek-f.result
step c =
    let s = c.before.before.before.before.before.before in
    let p = s.requires in
    walked_step _ _ _ _ p.0.0 p.0.1 s.loop-i.invariant.2.walked (met c.before.before.before.before)
    c.seek-e.ensures c.seek-f.ensures

-- there is room for one more
room-keep : (c : Then-k-gt0) → c.loop-i.keep.len < dot_limit
room-keep c =
    let l = c.before in
    let s = l.before.before.before.before.before.before in
    keeps-room _ _ _ _ (step l) l.kept_counter-k.ensures s.loop-i.invariant.2.keeps c.if-k-gt0.true
    s.requires.1.1

room_gone : (c : Then-k-all) → c.loop-i.gone.len < dot_limit
room_gone c =
    let l = c.before.before in
    let s = l.before.before.before.before.before.before in
    deletes-room _ _ _ _ (step l) l.kept_counter-k.ensures s.loop-i.invariant.2.deletes l.max-all.ensures c.if-k-all.true
    s.requires.1.1

-- what is kept with that dot passed
keeping : (c : Joined-k-gt0) → let s = c.before.before.before.before.before.before.before in
    let a = s.args in
    Keeps a.x a.y a.mine a.yours (s.loop-i.invariant.2.t + 1) c.if-k-gt0.keep
keeping c =
    let l = c.before in
    let s = l.before.before.before.before.before.before in
    let g = s.loop-i.invariant.2.keeps in
    let e = l.kept_counter-k.ensures in
    elim c.if-k-gt0.branch [
      | then-k-gt0 w ↦ rw w.keep-is (keeps_on _ _ _ _ (step l) e g w.if-k-gt0.true s.requires.1.1)
      | else-k-gt0 w ↦ rw w.keep-is (keeps-off _ _ _ _ (step l) e g w.if-k-gt0.false)
    ]

pub loop-i-preserved-then-k-all : goal.loop-i-preserved-then-k-all
loop-i-preserved-then-k-all c =
    let j = c.before in
    let l = j.before in
    let s = l.before.before.before.before.before.before in
    let m = met l.before.before.before.before in (
      omega (arith, m.first-within, s.size-n.ensures),
      omega (arith, m.second-within, s.size-m.ensures),
      record {
        t = s.loop-i.invariant.2.t + 1;
        walked = (step l).on;
        keeps = keeping j;
        deletes = deletes-on _ _ _ _ (step l) l.kept_counter-k.ensures s.loop-i.invariant.2.deletes l.max-all.ensures c.if-k-all.true
            s.requires.1.1;
      },
    )

pub loop-i-preserved : goal.loop-i-preserved
loop-i-preserved c =
    let j = c.before in
    let l = j.before in
    let s = l.before.before.before.before.before.before in
    let m = met l.before.before.before.before in (
      omega (arith, m.first-within, s.size-n.ensures),
      omega (arith, m.second-within, s.size-m.ensures),
      record {
        t = s.loop-i.invariant.2.t + 1;
        walked = (step l).on;
        keeps = keeping j;
        deletes = deletes-off _ _ _ _ (step l) l.kept_counter-k.ensures s.loop-i.invariant.2.deletes l.max-all.ensures c.if-k-all.false;
      },
    )

-- the walk comes nearer to the end
less : (c : After-max-all) → let s = c.before.before.before.before.before.before in
    let n = s.size-n.result in
    let m = s.size-m.result in
    (n - c.meet-r.result.i) + (m - c.meet-r.result.j) < (n - s.loop-i.i) +
    (m - s.loop-i.j)
less c =
    let s = c.before.before.before.before.before.before in
    let m = met c.before.before.before.before in
    omega (
      arith,
      m.onward,
      m.first-within,
      m.second-within,
      s.size-n.ensures,
      s.size-m.ensures,
    )

pub returns : goal.returns
returns c =
    let s = c.before in
    let a = s.args in
    let p = s.requires in
    let g = s.loop-i.invariant.2 in
    let o = both-past s.loop-i.i s.size-n.result s.loop-i.j
    s.size-m.result c.loop-i-test.false in
    let n = walked_end a.x a.y a.mine a.yours g.walked
    (omega (arith, o.0, s.size-n.ensures))
    (omega (arith, o.1, s.size-m.ensures)) in
    (keeps-end a.x a.y a.mine a.yours p.0.0 p.0.1 g.keeps n, deletes-end a.x a.y a.mine a.yours g.deletes n)

pub offset_bounds-keep-w : goal.offset_bounds-keep-w
offset_bounds-keep-w c = omega (arith, room-keep c)

pub bounds-keep-w : goal.bounds-keep-w
bounds-keep-w c = omega (arith, room-keep c)

pub overflow_add-keep : goal.overflow_add-keep
overflow_add-keep c = omega (arith, room-keep c)

pub offset_bounds-gone-w : goal.offset_bounds-gone-w
offset_bounds-gone-w c = omega (arith, room_gone c)

pub bounds-gone-w : goal.bounds-gone-w
bounds-gone-w c = omega (arith, room_gone c)

pub overflow_add-gone : goal.overflow_add-gone
overflow_add-gone c = omega (arith, room_gone c)

pub loop-i-smaller-then-k-all : goal.loop-i-smaller-then-k-all
loop-i-smaller-then-k-all c = less c.before.before

pub loop-i-smaller : goal.loop-i-smaller
loop-i-smaller c = less c.before.before
