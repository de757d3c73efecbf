-- 01 "Map", both validations over the level: the Rust's, which ask the entries' values too.
use Rattle.std.specs.Prelude.{Bool, true, false, cond, ℕ, zero, suc, eqb}
use Rattle.clock.specs.declared.Order.{Order}
use Rattle.clock.specs.declared.Order.TheVariants.{Equal, Greater, Less, Concurrent}
use Rattle.clock.specs.Dots.{order_of}
use Rattle.rules.specs.OneEntry.{Holds}
use Rattle.asking.specs.declared.CmRDTValidation.{CmRDTValidation}
use Rattle.asking.specs.declared.CmRDTValidation.TheVariants.{Fits}
use Rattle.asking.specs.declared.CvRDTValidation.{CvRDTValidation}
use Rattle.asking.specs.declared.CvRDTValidation.TheVariants.{Once}
use Rattle.asking.specs.Asking.{following, first_spent, spent_under}
use Rattle.levels.specs.MapOver.{EntryOf, MapOf, OpOf, up, rm, entry_at_of}
use Rattle.levels.specs.Level.{Val, Op, rules_at}

-- `validate_op`: this map's clock, the entry's ("0 if no entry"), then what the value says of the rest
abbrev pub order_over : {A O : Type 0} → Holds A O → (A → O → CmRDTValidation) → MapOf A → OpOf O → CmRDTValidation
order_over r below m (up d k o) = let e = entry_at_of r k m.entries in following m.seen d (following e.dots d (below e.val o))
order_over r below m (rm w) = Fits

unfoldable pub order_at : (n : ℕ) → Val n → Op n → CmRDTValidation
order_at zero v o = Fits
order_at (suc n) m o = order_over (rules_at n) (order_at n) m o

abbrev pub is_concurrent : Order → Bool
is_concurrent Concurrent = true
is_concurrent Equal = false
is_concurrent Greater = false
is_concurrent Less = false

-- `validate_merge`: under different keys a dot that both have; under the same key the values, where the entry clocks are concurrent
abbrev pub spent_over : {A : Type 0} → (A → A → CvRDTValidation) → EntryOf A → EntryOf A → CvRDTValidation
spent_over below e f =
    cond (eqb e.key f.key) (cond (is_concurrent (order_of e.dots f.dots)) (below e.val f.val) Once)
    (spent_under e.key e.dots f.key f.dots)

unfoldable pub spent_at : (n : ℕ) → Val n → Val n → CvRDTValidation
spent_at zero v w = Once
spent_at (suc n) m k = first_spent (λ e. first_spent (spent_over (spent_at n) e) k.entries) m.entries
