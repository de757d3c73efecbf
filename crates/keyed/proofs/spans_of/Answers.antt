-- `spans_of` meets its contract: each section is that of the map's entries.
use Rattle.keyed.proofs.Entry.{entry-lies}
use Rattle.keyed.proofs.spans_of.Goals as goal

pub returns : goal.returns
returns c = entry-lies c.requires _ c.key_span-dots.ensures c.key_span-values.ensures
    c.key_span-clocks.ensures
