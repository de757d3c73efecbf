-- `keys_at` meets its contract: one key after the other.
use mathlib.Core.Path.{ap, sym, ◌∙◌}
use mathlib.Core.List.{map}
use Rattle.removals.specs.declared.Keys.{Keys}
use Rattle.removals.specs.Model.{keys_as}
use Rattle.records.specs.Bytes.{num_at}
use Rattle.maprecords.specs.Reading.{numbers_below}
use Rattle.memory.specs.Memory.{key_place, listed_at}
use Rattle.memory.proofs.Views.{length-of}
use Rattle.delivery.proofs.Belows.{made_none, made-next}
use native.Mathlib.Omega.{arith}
use Rattle.byvalue.proofs.reading.keys_at.Goals as goal

pub loop-i-init : goal.loop-i-init
loop-i-init c = c.new-keys.ensures ∙ ap keys_as (sym (made_none _))

pub push-keys-requires : goal.push-keys-requires
push-keys-requires c =
    let a = c.args in
    let long = length-of (λ j. num_at 2 (key_place a.k j) a.mem.now) c.loop-i.i in
    omega (arith, ap (λ (x : Keys). x.len) c.loop-i.invariant, c.count-n.ensures)

pub loop-i-preserved : goal.loop-i-preserved
loop-i-preserved c =
    made-next _ keys_as c.loop-i.i c.read32-key.ensures (c.push-keys.ensures _ c.loop-i.invariant)

pub returns : goal.returns
unfolding listed_at
returns c =
    let a = c.args in
    let e = c.count-n.ensures in
    c.loop-i.invariant ∙ ap (λ m. keys_as (map (λ j. num_at 2 (key_place a.k j) a.mem.now) (numbers_below m))) (omega arith)
