-- The counterexamples E1 to E5, computed over the calls: why castribba_rm_read_ctx, why the guard, why for readers too, and why bytes may differ.
use mathlib.Core.Path.{refl}
use mathlib.Core.Bool.{true}
use mathlib.Core.List.{List, [], ◌∷◌}
use Prim.Native.Nat.{ℕ}
use native.Mathlib.Omega.{arith}
use Rattle.listlaws.specs.Pad.{pad}
use Rattle.listlaws.specs.Sift.{sift}
use Rattle.listlaws.specs.First.{first_in}
use Rattle.listlaws.specs.Fold.{fold}
use Rattle.listlaws.specs.Weave.{weave}
use Rattle.clock.specs.declared.Dot.{Dot}
use Rattle.clock.specs.Dots.{is_empty, counter_in, covers, order_of, cut_dots, join_dots, add_dot}
use Rattle.clock.proofs.Examples.{dot, one}
use Rattle.register.specs.Values.{yields, outdone, remaining, put_values, cut_values}
use Rattle.register.proofs.Examples.{value}
use Rattle.entries.specs.declared.Entry.{Entry}
use Rattle.entries.specs.Model.{entry_as}
use Rattle.removals.specs.Model.{no_removal}
use Rattle.entries.specs.Entries.{cut_entry, remove_from, remove_entries, put_entry, entry_at, put_entries}
use Rattle.removals.specs.Waits.{listed, waits, clock_before, union_keys, unite_all}
use Rattle.map.specs.declared.Op.{Op}
use Rattle.map.specs.Model.{map_as}
use Rattle.map.specs.Removing.{remove, afresh}
use Rattle.map.specs.Updating.{update}
use Rattle.map.specs.Applying.{apply}
use Rattle.map.specs.Judging.{over_dots, over_entries, over_values, over_waiting, over_keys, over_number}
use Rattle.asking.specs.Contexts.{add_context}
use Rattle.asking.specs.Asking.{clock_at, update_under, make_update, removal_op}
use Rattle.readiness.specs.declared.Readiness.TheVariants.{Next, Hold}
use Rattle.readiness.specs.Ready.{first_lacking, ready_under, ready}
use Rattle.answers.specs.Answer.{first_of, number_of, word_of, carried_of}
use Rattle.oneimagelaws.specs.One.{GoodOp}
use Rattle.alikelaws.proofs.Played.{Ends, Sets, Removes, RemovesEntry, Told, none, more, ends, sets-there, good-there}
use Rattle.alikelaws.proofs.Played.{removes-there, removes-entry-there, good-removal-there, told-there}

-- A, B and C write as actors 1, 2 and 3
abbrev pub sets : ℕ → ℕ → List Dot → ℕ → Op
sets a k put x = record { up = true; removal = no_removal; update = record { dot = dot a 1; key = k; put = value put x } }

-- bay 5 removed
abbrev pub without : List Dot → Op
without c = removal_op c 5

abbrev pub two : List Dot
two = dot 1 1 ∷ dot 2 1 ∷ []

abbrev pub late : List Dot
late = dot 2 1 ∷ dot 3 1 ∷ []

abbrev pub three : List Dot
three = dot 1 1 ∷ dot 2 1 ∷ dot 3 1 ∷ []

-- "A sets 5 = 10 (1:1)", and "B is given 1:1, sets 5 = 40 (2:1, put {1:1 2:1})"
abbrev pub ten : Op
ten = sets 1 5 (one 1 1) 10

abbrev pub forty : Op
forty = sets 2 5 two 40

-- "E1, rm_get, two drives. A sets 5 = 10 (1:1), removes 5. B is given 1:1, sets 5 = 40. A is given it, removes 5 by rm_get ({2:1})."
pub record E1 : Type 0 where
  pub sets-ten : Sets [] 1 5 10 ten
  pub removes : Removes (ten ∷ []) 5 (one 1 1)
  pub sets-forty : Sets (ten ∷ []) 2 5 40 forty
  pub removes-entry : RemovesEntry (ten ∷ without (one 1 1) ∷ forty ∷ []) 5 (one 2 1)
  -- the guard is kept
  pub next-ten : Told [] ten 0 0 0
  pub next-at-A : Told (ten ∷ without (one 1 1) ∷ []) forty 0 0 0
  pub next-at-B : Told (ten ∷ []) forty 0 0 0
  -- at A it is gone; "B is given that removal: B boots 40"
  pub at-A : Ends (ten ∷ without (one 1 1) ∷ forty ∷ without (one 2 1) ∷ []) (map_as two [] [])
  pub at-B : Ends (ten ∷ forty ∷ without (one 2 1) ∷ []) (map_as two (entry_as 5 (one 1 1) (value (one 1 1) 40 ∷ []) ∷ []) [])

-- "E2, rm_get, all have all. C sets 6 (3:1). B is given it, sets 5 = 40 (2:1, put {2:1 3:1}), removes 5 by rm_get ({2:1}). A sets 5 = 41 (1:1)."
abbrev six : Op
six = sets 3 6 (one 3 1) 9

abbrev after-six : Op
after-six = sets 2 5 late 40

abbrev other : Op
other = sets 1 5 (one 1 1) 41

abbrev bay-six : Entry
bay-six = entry_as 6 (one 3 1) (value (one 3 1) 9 ∷ [])

pub record E2 : Type 0 where
  pub sets-six : Sets [] 3 6 9 six
  pub sets-forty : Sets (six ∷ []) 2 5 40 after-six
  pub removes-entry : RemovesEntry (six ∷ after-six ∷ []) 5 (one 2 1)
  pub sets-other : Sets [] 1 5 41 other
  pub next-six : Told [] six 0 0 0
  pub next-forty : Told (six ∷ []) after-six 0 0 0
  pub next-before : Told (six ∷ after-six ∷ []) other 0 0 0
  pub next-after : Told (six ∷ after-six ∷ without (one 2 1) ∷ []) other 0 0 0
  -- "A drive that has 1:1 before the removal boots 40, one that has it after boots 41."
  pub before : Ends (six ∷ after-six ∷ other ∷ without (one 2 1) ∷ [])
      (map_as three (entry_as 5 (one 1 1) (value (one 3 1) 40 ∷ value (one 1 1) 41 ∷ []) ∷ bay-six ∷ []) [])
  pub after : Ends (six ∷ after-six ∷ without (one 2 1) ∷ other ∷ [])
      (map_as three (entry_as 5 (one 1 1) (value (one 1 1) 41 ∷ []) ∷ bay-six ∷ []) [])

-- "E3, actor's order alone. A sets 5 = 10 (1:1). B is given it, sets 5 = 40 (2:1). C is given 2:1 alone, removes 5 ({2:1})."
pub record E3 : Type 0 where
  pub held : Told [] forty 21 1 1
  pub removes : Removes (forty ∷ []) 5 (one 2 1)
  -- "B is given the removal, C is given 1:1: B boots 40, C boots 10."
  pub at-B : Ends (ten ∷ forty ∷ without (one 2 1) ∷ []) (map_as two (entry_as 5 (one 1 1) (value (one 1 1) 40 ∷ []) ∷ []) [])
  pub at-C : Ends (forty ∷ without (one 2 1) ∷ ten ∷ []) (map_as two (entry_as 5 (one 1 1) (value (one 1 1) 10 ∷ []) ∷ []) [])

-- "E4, only a reader out of order. 1:1 on 6; 2:1 on 5 after it; 3:1 on 5 after both; a removal of 5 under {1:1}."
abbrev first : Op
first = sets 1 6 (one 1 1) 9

abbrev third : Op
third = sets 3 5 three 41

abbrev first-bay : Entry
first-bay = entry_as 6 (one 1 1) (value (one 1 1) 9 ∷ [])

pub record E4 : Type 0 where
  pub sets_first : Sets [] 1 6 9 first
  pub sets-second : Sets (first ∷ []) 2 5 40 forty
  pub sets-third : Sets (first ∷ forty ∷ []) 3 5 41 third
  pub removes : Removes (first ∷ []) 5 (one 1 1)
  pub held : Told [] third 21 1 1
  pub in_order : Ends (first ∷ forty ∷ third ∷ without (one 1 1) ∷ []) (map_as three (entry_as 5 late (value late 41 ∷ []) ∷ first-bay ∷ []) [])
  -- "The reader takes 3:1, the removal, 1:1, 2:1: two values under 5, the overwritten one too."
  pub reader : Ends (third ∷ without (one 1 1) ∷ first ∷ forty ∷ [])
      (map_as three (entry_as 5 late (value late 41 ∷ value two 40 ∷ []) ∷ first-bay ∷ []) [])

-- "E5, other bytes. A sets 5 (1:1), removes 5 ({1:1}). B is given 1:1, sets 5 = 40 (2:1). Each is given the other's"
pub record E5 : Type 0 where
  pub sets-ten : Sets [] 1 5 10 ten
  pub removes : Removes (ten ∷ []) 5 (one 1 1)
  pub sets-forty : Sets (ten ∷ []) 2 5 40 forty
  pub next-ten : Told [] ten 0 0 0
  pub next-at-A : Told (ten ∷ without (one 1 1) ∷ []) forty 0 0 0
  pub next-at-B : Told (ten ∷ []) forty 0 0 0
  -- "at A 40 has the clock {1:1 2:1}, at B {2:1}"
  pub at-A : Ends (ten ∷ without (one 1 1) ∷ forty ∷ []) (map_as two (entry_as 5 (one 2 1) (value two 40 ∷ []) ∷ []) [])
  pub at-B : Ends (ten ∷ forty ∷ without (one 1 1) ∷ []) (map_as two (entry_as 5 (one 2 1) (value (one 2 1) 40 ∷ []) ∷ []) [])

pub record Counterexamples : Type 0 where
  pub e1 : E1
  pub e2 : E2
  pub e3 : E3
  pub e4 : E4
  pub e5 : E5

-- good operations
pub record GoodOps : Type 0 where
  pub ten-good : GoodOp ten
  pub forty-good : GoodOp forty
  pub six-good : GoodOp six
  pub after-six-good : GoodOp after-six
  pub other-good : GoodOp other
  pub first_good : GoodOp first
  pub third-good : GoodOp third
  pub one-good : GoodOp (without (one 1 1))
  pub two_good : GoodOp (without (one 2 1))

pub goods : GoodOps
unfolding pad sift first_in fold weave is_empty counter_in covers order_of cut_dots join_dots add_dot yields outdone remaining put_values cut_values
    cut_entry
    listed remove_from remove_entries waits clock_before union_keys unite_all remove afresh put_entry entry_at put_entries update apply clock_at
    add_context
    update_under make_update over_dots over_entries over_values over_waiting over_keys over_number
goods = record {
  ten-good = t;
  forty-good = f;
  six-good = s;
  after-six-good = good-there (more s refl none) 2 5 40 after-six refl (omega arith) (omega arith) (omega arith);
  other-good = good-there none 1 5 41 other refl (omega arith) (omega arith) (omega arith);
  first_good = b;
  third-good = good-there (more b refl (more f refl none)) 3 5 41 third refl (omega arith) (omega arith) (omega arith);
  one-good = good-removal-there (more t refl none) 5 (one 1 1) (omega arith) refl;
  two_good = good-removal-there (more f refl none) 5 (one 2 1) (omega arith) refl;
}
  where
    t : GoodOp ten
    t = good-there none 1 5 10 ten refl (omega arith) (omega arith) (omega arith)

    f : GoodOp forty
    f = good-there (more t refl none) 2 5 40 forty refl (omega arith) (omega arith) (omega arith)

    s : GoodOp six
    s = good-there none 3 6 9 six refl (omega arith) (omega arith) (omega arith)

    b : GoodOp first
    b = good-there none 1 6 9 first refl (omega arith) (omega arith) (omega arith)

-- the end theorem of this file
pub counterexamples : Counterexamples
unfolding pad sift first_in fold weave is_empty counter_in covers order_of cut_dots join_dots add_dot yields outdone remaining put_values cut_values
    cut_entry
    listed remove_from remove_entries waits clock_before union_keys unite_all remove afresh put_entry entry_at put_entries update apply clock_at
    add_context
    update_under make_update over_dots over_entries over_values over_waiting over_keys over_number first_lacking ready_under ready first_of number_of
    word_of
    carried_of
counterexamples = record {
  e1 = record {
    sets-ten = sets-there none 1 5 10 ten refl;
    removes = removes-there (more t refl none) 5 (one 1 1) refl;
    sets-forty = sets-there (more t refl none) 2 5 40 forty refl;
    removes-entry = removes-entry-there (more t refl (more p refl (more f refl none))) 5 (one 2 1) refl;
    next-ten = told-there none ten t Next refl 0 0 0 refl refl refl;
    next-at-A = told-there (more t refl (more p refl none)) forty f Next refl 0 0 0 refl refl refl;
    next-at-B = told-there (more t refl none) forty f Next refl 0 0 0 refl refl refl;
    at-A = ends (more t refl (more p refl (more f refl (more q refl none)))) refl;
    at-B = ends (more t refl (more f refl (more q refl none))) refl;
  };
  e2 = record {
    sets-six = sets-there none 3 6 9 six refl;
    sets-forty = sets-there (more s refl none) 2 5 40 after-six refl;
    removes-entry = removes-entry-there (more s refl (more a refl none)) 5 (one 2 1) refl;
    sets-other = sets-there none 1 5 41 other refl;
    next-six = told-there none six s Next refl 0 0 0 refl refl refl;
    next-forty = told-there (more s refl none) after-six a Next refl 0 0 0 refl refl refl;
    next-before = told-there (more s refl (more a refl none)) other o Next refl 0 0 0 refl refl refl;
    next-after = told-there (more s refl (more a refl (more q refl none))) other o Next refl 0 0 0 refl refl refl;
    before = ends (more s refl (more a refl (more o refl (more q refl none)))) refl;
    after = ends (more s refl (more a refl (more q refl (more o refl none)))) refl;
  };
  e3 = record {
    held = told-there none forty f (Hold 1 1) refl 21 1 1 refl refl refl;
    removes = removes-there (more f refl none) 5 (one 2 1) refl;
    at-B = ends (more t refl (more f refl (more q refl none))) refl;
    at-C = ends (more f refl (more q refl (more t refl none))) refl;
  };
  e4 = record {
    sets_first = sets-there none 1 6 9 first refl;
    sets-second = sets-there (more b refl none) 2 5 40 forty refl;
    sets-third = sets-there (more b refl (more f refl none)) 3 5 41 third refl;
    removes = removes-there (more b refl none) 5 (one 1 1) refl;
    held = told-there none third c (Hold 1 1) refl 21 1 1 refl refl refl;
    in_order = ends (more b refl (more f refl (more c refl (more p refl none)))) refl;
    reader = ends (more c refl (more p refl (more b refl (more f refl none)))) refl;
  };
  e5 = record {
    sets-ten = sets-there none 1 5 10 ten refl;
    removes = removes-there (more t refl none) 5 (one 1 1) refl;
    sets-forty = sets-there (more t refl none) 2 5 40 forty refl;
    next-ten = told-there none ten t Next refl 0 0 0 refl refl refl;
    next-at-A = told-there (more t refl (more p refl none)) forty f Next refl 0 0 0 refl refl refl;
    next-at-B = told-there (more t refl none) forty f Next refl 0 0 0 refl refl refl;
    at-A = ends (more t refl (more p refl (more f refl none))) refl;
    at-B = ends (more t refl (more f refl (more p refl none))) refl;
  };
}
  where
    t : GoodOp ten
    t = goods.ten-good

    f : GoodOp forty
    f = goods.forty-good

    s : GoodOp six
    s = goods.six-good

    a : GoodOp after-six
    a = goods.after-six-good

    o : GoodOp other
    o = goods.other-good

    b : GoodOp first
    b = goods.first_good

    c : GoodOp third
    c = goods.third-good

    p : GoodOp (without (one 1 1))
    p = goods.one-good

    q : GoodOp (without (one 2 1))
    q = goods.two_good
