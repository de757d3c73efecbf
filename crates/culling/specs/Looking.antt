-- Which record a loop looks for.
use Rattle.std.specs.Prelude.{ℕ, Bool, true, false, not, ◌&&◌, ◌||◌, eqb, leb}
use Rattle.records.specs.declared.Record.{Record}
use Rattle.culling.specs.declared.Wanted.{Wanted}

abbrev pub is_wanted : Wanted → Record → Bool
is_wanted w r =
    eqb r.kind w.kind
    && ((not w.keyed || eqb r.key w.key)
    && ((not w.indexed || eqb r.index w.index) && (not w.dotted || (eqb r.actor w.actor && leb w.number r.number))))

abbrev pub want_index : ℕ → ℕ → Wanted
want_index kind index =
    record { kind = kind; keyed = false; key = 0; indexed = true; index = index; dotted = false; actor = 0; number = 0 }

abbrev pub want_key : ℕ → ℕ → Wanted
want_key kind key =
    record { kind = kind; keyed = true; key = key; indexed = false; index = 0; dotted = false; actor = 0; number = 0 }

abbrev pub want_both : ℕ → ℕ → ℕ → Wanted
want_both kind key index =
    record { kind = kind; keyed = true; key = key; indexed = true; index = index; dotted = false; actor = 0; number = 0 }

abbrev pub want_dot : ℕ → ℕ → ℕ → Wanted
want_dot kind actor number =
    record { kind = kind; keyed = false; key = 0; indexed = false; index = 0; dotted = true; actor = actor; number = number }
