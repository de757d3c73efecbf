-- The limit on dots: where every value's clock and every waiting clock is within it, the map's clock alone decides; and every operation
-- keeps them within it.
use mathlib.Core.Path.{◌≡◌, refl}
use mathlib.Core.Bool.{Bool, true, false, ◌||◌}
use Prim.Native.Nat.{◌≤◌}
use native.Mathlib.Omega.{arith}
use borrow.Author.Tests.{ltb-false, le-ltb}
use lib.ListN.{length}
use Rattle.listlaws.specs.First.{some}
use Rattle.listlaws.specs.Order.{◌∈◌}
use Rattle.listlaws.proofs.Firsts.{first-none}
use Rattle.listlaws.proofs.Pads.{take-pad}
use Rattle.limits.specs.Limits.{dot_limit}
use Rattle.clock.specs.Dots.{no_dot, dots_of, cut_dots}
use Rattle.clock.proofs.Packs.{cut-length}
use Rattle.clock.proofs.Within.{covered-length}
use Rattle.register.specs.declared.Value.{Value}
use Rattle.entries.specs.declared.Entry.{Entry}
use Rattle.removals.specs.declared.Removal.{Removal}
use Rattle.entries.specs.declared.Update.{Update}
use Rattle.entries.specs.Model.{dots_in, values_in}
use Rattle.removals.specs.Model.{under_of}
use Rattle.entries.proofs.Packs.{values-in}
use Rattle.map.specs.declared.Map.{Map}
use Rattle.map.specs.Model.{seen_by, entries_in, waiting_in}
use Rattle.map.specs.Judging.{exceeding, over_dots}
use Rattle.map.specs.Valid.{Valid}
use Rattle.entries.proofs.Preserving.{Closed, Made}
use Rattle.map.proofs.Preserved.{Each, Rules, Taken, rules-of, taken_of}

-- a value, and a removal, under a clock within the limit
abbrev pub SmallValue : Value → Type 0
SmallValue v = length (dots_of v.clock) ≤ dot_limit

pub record SmallEntry (e : Entry) : Type 0 where
  pub each : (v : Value) → v ∈ values_in e → SmallValue v

abbrev pub SmallRemoval : Removal → Type 0
SmallRemoval r = length (under_of r) ≤ dot_limit

abbrev pub Small : Map → Type 0
Small m = Each (λ c. Unit {0}) SmallEntry SmallRemoval m

-- the map's clock alone decides: it covers the entries' clocks
pub small-over : {m : Map} → Valid m → Small m → over_dots m ≡ exceeding dot_limit (seen_by m)
unfolding over_dots
small-over {m} v s = go (exceeding dot_limit (seen_by m)) refl
  where
    wide : Entry → Bool
    wide e = exceeding dot_limit (dots_in e) || some (λ w. exceeding dot_limit (dots_of w.clock)) (values_in e)

    narrow : exceeding dot_limit (seen_by m) ≡ false → (e : Entry) → e ∈ entries_in m → wide e ≡ false
    narrow t e i =
        let k = v.entries.each e i in
        let n = ltb-false dot_limit (length (seen_by m)) t in
        rw (le-ltb dot_limit (length (dots_in e)) (omega (arith, covered-length k.clock v.clock k.covered)))
        (first-none (λ w. exceeding dot_limit (dots_of w.clock)) (λ w. true) false (values_in e)
        (λ w j. le-ltb dot_limit (length (dots_of w.clock)) ((s.entries e i).each w j)))

    go : (b : Bool) → exceeding dot_limit (seen_by m) ≡ b
        → (b || (some wide (entries_in m) || some (λ r. exceeding dot_limit (under_of r)) (waiting_in m)))
        ≡ b
    go true t = refl
    go false t =
        rw (first-none wide (λ e. true) false (entries_in m) (narrow t))
        (first-none (λ r. exceeding dot_limit (under_of r)) (λ r. true) false (waiting_in m)
        (λ r j. le-ltb dot_limit (length (under_of r)) (s.waiting r j)))

-- every operation keeps it so
small-closed : Closed (λ c. Unit {0}) SmallValue
small-closed = record {
  cut = λ by l h. tt;
  common = λ l m h. tt;
  join = λ l m h k. tt;
  value = λ by v h n. rw (take-pad no_dot dot_limit (cut_dots by (dots_of v.clock))) (omega (arith, cut-length by (dots_of v.clock), h));
}

small-made : Made (λ k. Unit {0}) (λ c. Unit {0}) SmallValue SmallEntry
small-made = record { key = λ e h. tt; clock = λ e h. tt; values = λ e h. h.each; make = λ k c l t h f. record { each = rw (values-in k c l) f } }

pub small-rules : Rules (λ c. Unit {0}) SmallEntry SmallRemoval
small-rules =
    rules-of small-closed small-made (λ by r h. rw (take-pad no_dot dot_limit (cut_dots by (under_of r)))
    (omega (arith, cut-length by (under_of r), h)))
    (λ x y v w h k. h)

pub small-taken : (u : Update) → SmallValue u.put → Taken (λ c. Unit {0}) SmallEntry u
small-taken u h = taken_of small-closed small-made u tt tt (λ l t. tt) h
