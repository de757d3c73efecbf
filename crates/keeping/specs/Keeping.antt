-- What a merge keeps of an actor's counters, and what a walk along clocks finds for an actor.
use Rattle.std.specs.Prelude.{cond, List, [], ◌∷◌, ℕ, ◌+◌, max, eqb, ltb}
use Rattle.clock.specs.declared.Dot.{Dot}
use Rattle.keeping.specs.declared.Meeting.{Meeting}
use Rattle.keeping.specs.declared.Sought.{Sought}

-- of our entry's counter x and theirs, y, with what both maps have seen: "common dots, joined with each entry clock cut by the other map's clock"
abbrev pub kept_counter : ℕ → ℕ → ℕ → ℕ → ℕ
kept_counter x y mine yours = max (max (cond (eqb y x) x 0) (cond (ltb yours x) x 0)) (cond (ltb mine y) y 0)

-- an actor's counter in the dots from place i on, 0 where there is none, and the first place behind the actor
unfoldable pub sought : ℕ → ℕ → List Dot → Sought
sought actor i [] = record { counter = 0; next = i }
sought actor i (d ∷ l) =
    cond (eqb d.actor actor) (record { counter = d.counter; next = i + 1 })
    (cond (ltb actor d.actor) (record { counter = 0; next = i }) (sought actor (i + 1) l))

-- the first actor of the dots of two clocks from places i and j on, its counter in each, 0 where there is none, and the places behind it
unfoldable pub meeting : ℕ → ℕ → List Dot → List Dot → Meeting
meeting i j [] [] = record { actor = 0; ours = 0; theirs = 0; i = i; j = j }
meeting i j [] (e ∷ m) = record { actor = e.actor; ours = 0; theirs = e.counter; i = i; j = j + 1 }
meeting i j (d ∷ l) [] = record { actor = d.actor; ours = d.counter; theirs = 0; i = i + 1; j = j }
meeting i j (d ∷ l) (e ∷ m) =
    cond (ltb d.actor e.actor) (record { actor = d.actor; ours = d.counter; theirs = 0; i = i + 1; j = j })
    (cond (ltb e.actor d.actor) (record { actor = e.actor; ours = 0; theirs = e.counter; i = i; j = j + 1 })
    (record { actor = d.actor; ours = d.counter; theirs = e.counter; i = i + 1; j = j + 1 }))
