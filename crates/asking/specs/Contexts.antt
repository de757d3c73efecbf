-- Contexts (src/ctx.rs): what an update is made with.
use Rattle.std.specs.Prelude.{cond, List, [], ℕ, ◌+◌, ◌-◌, ◌^◌, leb}
use Rattle.clock.specs.declared.Dot.{Dot}
use Rattle.limits.specs.Limits.{dot_limit}
use Rattle.clock.specs.Dots.{no_dot, clock_of, counter_in, add_dot}
use Rattle.asking.specs.declared.AddCtx.{AddCtx}
use Rattle.map.specs.Judging.{exceeding}

abbrev pub no_add : ℕ → AddCtx
no_add n = record { number = n; clock = clock_of []; dot = no_dot }

-- the next dot of an actor
abbrev pub dot_after : List Dot → ℕ → Dot
dot_after c actor = record { actor = actor; counter = counter_in c actor + 1 }

-- `derive_add_ctx`: the next dot and the clock with it; 9 at the last counter, then 4 for a clock of more than 8 dots
unfoldable pub add_context : List Dot → ℕ → AddCtx
add_context c actor =
    cond (leb (2 ^ 64 - 1) (counter_in c actor)) (no_add 9)
    (cond (exceeding dot_limit (add_dot c (dot_after c actor))) (no_add 4)
    (record { number = 0; clock = clock_of (add_dot c (dot_after c actor)); dot = dot_after c actor }))
