-- `OpReader::with` meets its contract: each part goes on by what its kind says.
use mathlib.Core.Path.{refl, ap, sym, ◌∙◌}
use Prim.Native.Nat.{◌<◌}
use lib.ListN.{length}
use borrow.Author.Tests.{eqb-true}
use Rattle.clock.specs.Dots.{clock_of}
use Rattle.removals.specs.Model.{keys_as}
use Rattle.clockimage.specs.Image.{is_kind}
use Rattle.clockimage.proofs.Dots.{dots-room, dots-snoc}
use Rattle.opimage.proofs.Parts.{keys-snoc, record-snoc, counts-snoc, keys-room, kind-known}
use borrow.Author.Rules.{rules}
use native.Mathlib.Omega.{arith}
use Rattle.opimage.proofs.OpReader.with.Goals.{Start}
use Rattle.opimage.proofs.OpReader.with.Goals as goal

-- the array has a place for every kind
in-counts : (start : Start) → start.args.r.kind < 13 → start.args.r.kind < length start.args.self.counts
in-counts start h = search rules

pub counted-counts-requires : goal.counted-counts-requires
counted-counts-requires c = let p = c.requires in kind-known p.1.0 _ (sym p.1.1.1.number ∙ p.0)

pub keys_with-keys-requires : goal.keys_with-keys-requires
keys_with-keys-requires c t =
    let p = c.requires in
    let e = p.1.1.0.keys in
    omega (arith, ap (λ k. k.len) e, keys-room p.1.0 _ (sym p.1.1.1.number ∙ p.0) t)

pub returns : goal.returns
returns c l p s =
    let at-keys = c.before.before in
    let at_under = at-keys.before.before in
    let at_value = at_under.before.before in
    let at_head = at_value.before.before in
    let at-counts = at_head.before.before in
    let start = at-counts.before.before.before.before.before.before.before in
    let z = sym s.number ∙ start.requires.0 in
    record {
      scanned = s;
      parts = λ _. record {
        counts = rw at-counts.counted-counts.ensures (counts-snoc start.args.self.counts l _ (in-counts start (kind-known l _ z)) p.counts);
        head = at_head.latest-head.ensures ∙ rw p.head (sym (record-snoc 10 l _));
        value = at_value.latest-value.ensures ∙ rw p.value (sym (record-snoc 11 l _));
        under = at_under.clock_with-under.ensures _ p.under (λ t. dots-room 7 12 l _ z 8 (eqb-true _ 8 t) (λ b. omega arith) refl refl)
            ∙ ap clock_of (sym (dots-snoc (is_kind 8) l _));
        keys = at-keys.keys_with-keys.ensures _ p.keys ∙ ap keys_as (sym (keys-snoc (is_kind 9) l _));
        put = c.clock_with-put.ensures _ p.put (λ t. dots-room 7 12 l _ z 12 (eqb-true _ 12 t) (λ b. omega arith) refl refl)
            ∙ ap clock_of (sym (dots-snoc (is_kind 12) l _));
      };
    }
