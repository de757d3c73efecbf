-- What is left of a value where a merge, an update, a removal or a reset has cut it.
use Rattle.std.specs.Prelude.{◌≡◌, Bool, false, List, [], ℕ, take}
use Rattle.listlaws.specs.First.{some}
use Rattle.clock.specs.declared.Clock.{Clock}
use Rattle.clock.specs.declared.Dot.{Dot}
use Rattle.clock.specs.Dots.{dots_of, clock_of, cut_dots}
use Rattle.register.specs.declared.Value.{Value}
use Rattle.removals.specs.declared.Removal.{Removal}
use Rattle.queued.specs.Queue.{cuts_for}

-- a value of a key, cut by a clock, then by their removals that list the key, then by ours
abbrev pub value_left : List Removal → List Removal → ℕ → List Dot → Value → Value
value_left ours theirs key gone v = record {
  clock = clock_of (cuts_for ours key (cuts_for theirs key (cut_dots gone (dots_of v.clock))));
  value = v.value;
}

-- a clock that deletes nothing, and none of m and of n removals that lists a key
pub record NothingCuts (gone : Clock) (m : ℕ) (theirs : List Bool) (n : ℕ) (ours : List Bool) : Type 0 where
  pub no-clock : dots_of gone ≡ []
  pub no-theirs : some (λ b. b) (take m theirs) ≡ false
  pub no-ours : some (λ b. b) (take n ours) ≡ false
