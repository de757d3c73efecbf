-- `before` meets its contract: a comparison of tuples decides by the first field that differs.
use mathlib.Core.Path.{◌≡◌, refl, ◌∙◌}
use mathlib.Core.Bool.{Bool, true, false, cond, ◌&&◌, ◌||◌}
use lib.Dec.{eqb, ltb}
use Rattle.std.proofs.Common.{Option, Some, Less, Equal, Greater}
use Rattle.std.specs.declared.cmp.Ordering.{Ordering}
use Rattle.std.specs.Ordering.{is_lt, is_some_and, partial_ordering_then}
use Rattle.records.specs.Kinds.{before}
use Rattle.records.proofs.before.Goals as goal

-- how two numbers stand, from whether the first is less and whether they are the same
abbrev order : Bool → Bool → Option Ordering
order less same = Some (cond less Less (cond same Equal Greater))

-- kinds, keys, indexes and actors, in turn
decided : (k k' y y' i i' a a' : Bool)
    → is_some_and is_lt (partial_ordering_then (partial_ordering_then (partial_ordering_then (order k k') (order y y')) (order i i')) (order a a'))
    ≡ (k || (k' && (y || (y' && (i || (i' && a))))))
decided true k' y y' i i' a a' = refl
decided false false y y' i i' a a' = refl
decided false true true y' i i' a a' = refl
decided false true false false i i' a a' = refl
decided false true false true true i' a a' = refl
decided false true false true false false a a' = refl
decided false true false true false true true a' = refl
decided false true false true false true false true = refl
decided false true false true false true false false = refl

pub returns : goal.returns
unfolding before
returns c =
    let a = c.args.a in
    let b = c.args.b in
    let x = c.actor_of.result in
    let y = c.actor_of-2.result in
    rw (← c.actor_of.ensures, ← c.actor_of-2.ensures)
    (c.lt.ensures
    ∙ decided (ltb a.kind b.kind) (eqb a.kind b.kind) (ltb a.key b.key) (eqb a.key b.key) (ltb a.index b.index) (eqb a.index b.index)
    (ltb x y) (eqb x y))
