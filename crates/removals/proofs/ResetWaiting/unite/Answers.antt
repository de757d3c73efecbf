-- `ResetWaiting::unite` meets its contract: too many keys stay too many, and the union is kept where it fits.
use mathlib.Core.Path.{◌≡◌, ap, sym, ◌∙◌}
use mathlib.Core.List.Memᴰ
use mathlib.Core.List.{List, []}
use Rattle.removals.specs.declared.Removal.{Removal}
use Rattle.removals.specs.Model.{waiting_of}
use Rattle.removals.specs.Counted.{joined_as, reset_as}
use Rattle.removals.specs.Waits.{unite_into}
use Rattle.removals.proofs.Packs.{waiting-from}
use Rattle.removals.proofs.Resetting.{reset-long, reset-short, reset-over}
use Rattle.removals.proofs.Lengths.{long-stays, unite-few}
use Rattle.removals.proofs.Joining.{joined-long, joined-open}
use native.Mathlib.Omega.{arith}
use Rattle.removals.proofs.ResetWaiting.unite.Goals.{After-join-g}
use Rattle.removals.proofs.ResetWaiting.unite.Goals as goal

pub returns-then-self : goal.returns-then-self
returns-then-self c = λ l v w q.
    let t = sym (ap (λ h. h.over) q ∙ reset-over l) ∙ c.if-self.true in
    q ∙ reset-long l t ∙ sym (reset-long _ (long-stays v w t))

pub push-one-requires : goal.push-one-requires
push-one-requires c = omega (arith, ap (λ k. k.len) c.new.ensures)

pub join-g-requires : goal.join-g-requires
join-g-requires c =
    let z = c.before.before.before in
    let e = waiting-from _ (c.push-one.ensures.1 [] c.new.ensures) in
    (z.requires.1, λ r i. rw (Memᴰ.eq_of_singleton (rw e at i)) z.requires.2)

-- what is joined, where nothing was too long
joined : (c : After-join-g) → let z = c.before.before.before.before in (l : List Removal) → z.args.self ≡ reset_as l
    → (c.join-g.result ≡ joined_as (unite_into l z.args.r)) × (waiting_of z.args.self.waiting ≡ l)
joined c l q =
    let p = c.before in
    let i = p.before.before in
    let z = i.before in
    let t = sym (ap (λ h. h.over) q ∙ reset-over l) ∙ i.if-self.false in
    let w = waiting-from l (ap (λ h. h.waiting) (q ∙ reset-short l t)) in
    (c.join-g.ensures ∙ rw (w, waiting-from _ (p.push-one.ensures.1 [] p.new.ensures)), w)

pub returns-then-g : goal.returns-then-g
returns-then-g c = λ l v w q.
    let g = c.before.before in
    rw c.new-none.ensures (sym (reset-long _ (sym (joined-long _ (joined g l q).0) ∙ c.if-g.true)))

pub returns : goal.returns
returns c = λ l v w q.
    let g = c.before.before in
    let z = g.before.before.before.before in
    let j = joined g l q in
    let t = sym (joined-long _ j.0) ∙ c.if-g.false in
    let few = ap (λ h. h.waiting.len) (q ∙ reset-short l (sym (ap (λ h. h.over) q ∙ reset-over l) ∙ g.if-self.false)) in
    rw (joined-open _ j.0 (omega (arith, unite-few l z.args.r, z.requires.0, few)) t) (sym (reset-short _ t))
