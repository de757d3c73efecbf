-- `WideEntry::run` meets its contract: one removal after the other, each on the clock and on the values.
use mathlib.Core.Path.{◌≡◌}
use Prim.Native.Nat.{ℕ}
use Rattle.listlaws.proofs.SliceFolding.{Folding}
use Rattle.clock.specs.declared.Clock.{Clock}
use Rattle.register.specs.declared.Wide.{Wide}
use Rattle.entries.specs.declared.Entry.{Entry}
use Rattle.entries.specs.declared.WideEntry.{WideEntry}
use Rattle.entries.specs.Steps.{wide_entry}
use Rattle.entries.specs.Entries.{remove_from}
use Rattle.entries.proofs.WideEntry.run.Given as goal

-- the entry, by its parts
abbrev pub made : ℕ → Clock → Wide → WideEntry
made k c w = record { key = k; clock = c; wide = w }

abbrev pub invariant-loop-w : goal.invariant-loop-w
invariant-loop-w l =
    (e : Entry) → made l.key l.initial.clock l.initial.wide ≡ wide_entry e
    → Folding wide_entry (λ x w. remove_from w x) e l.w-items l.w-index
    (made l.key l.clock l.wide)
