-- An operation has one image.
use mathlib.Core.Path.{◌≡◌, refl, ap, ap₂, sym, ◌∙◌}
use mathlib.Core.Bool.{Bool, true, false, cond}
use mathlib.Core.List.{List, map}
use Prim.Native.Nat.{ℕ}
use borrow.Author.Tests.{eqb-true}
use lib.Dec.{eqb}
use Rattle.listlaws.specs.Sift.{those}
use Rattle.clock.specs.Dots.{dots_of, clock_of}
use Rattle.removals.specs.Model.{under_of, listed_in, removal_as, no_removal}
use Rattle.entries.specs.Model.{no_update}
use Rattle.map.specs.declared.Op.{Op}
use Rattle.records.specs.declared.Record.{Record}
use Rattle.records.specs.Records.{records_of}
use Rattle.scan.specs.Numbers.{scan_number}
use Rattle.scan.proofs.Eachs.{decide, both_left, both_right}
use Rattle.clockimage.specs.Image.{is_kind, dot_of, content_of}
use Rattle.clockimage.proofs.RoundTrip.{accepted}
use Rattle.opimage.specs.OpImage.{op_longest, op_image, how_many, removes, updates, op_related, op_in, refused_op, judged_op, read_op}
use Rattle.oneimagelaws.proofs.OpsRewritten.{none_left, no_record_lem, op-accepted}
use Rattle.oneimagelaws.proofs.OpsReread.{read-removal-written, read-update-written}
use Rattle.acceptancelaws.proofs.Ops.{op-within}
use Rattle.oneimagelaws.specs.One.{OneImage, GoodOp}
use Rattle.oneimagelaws.proofs.Fields.{op-narrow}

-- a good operation reads back from its image
reads-back : (op : Op) → GoodOp op → read_op (op_image op) ≡ record { number = 0; op = op }
reads-back op g = go op.up refl g.other
  where
    go : (b : Bool) → op.up ≡ b → cond b (op.removal ≡ no_removal) (op.update ≡ no_update) → read_op (op_image op) ≡ record { number = 0; op = op }
    go true e other =
        let h = g.within.update e in
        let n = g.narrow.update in
        let u = op.update in
        rw e (read-update-written u.dot.actor u.dot.counter u.key u.put.value (dots_of u.put.clock) n.dot.actor h.valid.dot
        n.dot.counter n.key n.put.value h.valid.clock n.put.dots h.dots
        ∙ sym (λ i. record {
          number = 0;
          op = record {
            up = true;
            removal = other i;
            update = record { dot = u.dot; key = u.key; put = h.valid.laid i };
          };
        }))
    go false e other =
        let h = g.within.removal in
        let n = g.narrow.removal in
        let r = op.removal in
        rw e (read-removal-written (under_of r) (listed_in r) h.valid.clock h.valid.keys n.dots n.keys h.dots h.keys
        ∙ sym (λ i. record { number = 0; op = record { up = false; removal = h.valid.laid i; update = other i } }))

-- the half that an accepted operation does not use
other-zero : (l : List Record) → op_related l ≡ true → cond (op_in l).up ((op_in l).removal ≡ no_removal) ((op_in l).update ≡ no_update)
unfolding op_related
other-zero l t = decide (removes (λ k. how_many k l)) removal (λ f. update (rw f at t))
  where
    removal : removes (λ k. how_many k l) ≡ true → cond (op_in l).up ((op_in l).removal ≡ no_removal) ((op_in l).update ≡ no_update)
    removal a =
        let b = both_right (eqb (how_many 7 l) 1) _ a in
        let ten = both_left (eqb (how_many 10 l) 0) _ b in
        let c = both_right (eqb (how_many 10 l) 0) _ b in
        let none = eqb-true (how_many 10 l) 0 ten in
        let head = no_record_lem 10 l (none_left (those (is_kind 10) l) ten) in
        let value = no_record_lem 11 l (none_left (those (is_kind 11) l) (both_left (eqb (how_many 11 l) 0) _ c)) in
        let dots = none_left (those (is_kind 12) l) (both_right (eqb (how_many 11 l) 0) _ c) in
        rw none (λ i. record {
          dot = dot_of (head i);
          key = (head i).key;
          put = record { clock = clock_of (map dot_of (dots i)); value = content_of (value i) };
        })

    update : updates (λ k. how_many k l) ≡ true → cond (op_in l).up ((op_in l).removal ≡ no_removal) ((op_in l).update ≡ no_update)
    update a =
        let b = both_right (eqb (how_many 11 l) 1) _ (both_right (eqb (how_many 10 l) 1) _ a) in
        let c = both_right (eqb (how_many 7 l) 0) _ b in
        let dots = none_left (those (is_kind 8) l) (both_left (eqb (how_many 8 l) 0) _ c) in
        let keys = none_left (those (is_kind 9) l) (both_right (eqb (how_many 8 l) 0) _ c) in
        rw (both_left (eqb (how_many 10 l) 1) _ a) (ap₂ (λ d k. removal_as (map dot_of d) (map (λ (r : Record). r.key) k)) dots keys)

read-other : (s : List ℕ) → (read_op s).number ≡ 0 → cond (read_op s).op.up ((read_op s).op.removal ≡ no_removal) ((read_op s).op.update ≡ no_update)
unfolding read_op
read-other s e =
    let a = accepted (λ r. r.number) op_longest refused_op judged_op s (λ n. refl) e in
    let l = records_of s in
    let n = ap (λ r. r.number) (sym a.same) ∙ e in
    rw a.same (decide (eqb (scan_number 7 12 l) 0) (λ t. decide (op_related l) (λ u. rw (t, u) (other-zero l u)) (λ f. rw (t, f) refl))
    (λ f. rw f refl))

pub one-op-image : OneImage GoodOp op_image (λ s. (read_op s).number) (λ s. (read_op s).op)
one-op-image = record {
  back = λ op g. let e = reads-back op g in (ap (λ r. r.number) e, ap (λ r. r.op) e);
  again = λ s b z. (record { within = op-within s; narrow = op-narrow s b; other = read-other s z }, op-accepted s b z);
}
