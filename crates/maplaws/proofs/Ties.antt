-- After a reset a key is listed under a waiting clock exactly when one of the removals whose cut clock is that one listed it.
use mathlib.Core.Path.{◌≡◌, ap, sym, ◌∙◌}
use mathlib.Core.Bool.{true, false, not}
use mathlib.Core.Logic.{inr, ⊎_elim}
use mathlib.Core.List.Memᴰ
use mathlib.Core.List.{List}
use Rattle.listlaws.specs.Sift.{sift}
use Rattle.listlaws.specs.Order.{◌∈◌}
use Rattle.listlaws.proofs.Pads.{take-pad}
use Rattle.listlaws.proofs.Those.{sift-means, sift-holds}
use Rattle.clock.specs.declared.Dot.{Dot}
use Rattle.limits.specs.Limits.{dot_limit}
use Rattle.clock.specs.Dots.{no_dot, is_empty, cut_dots}
use Rattle.removals.specs.declared.Removal.{Removal}
use Rattle.removals.specs.Model.{under_of}
use Rattle.removals.specs.Waits.{cut_removal, remains, reset_waiting}
use Rattle.removals.specs.Valid.{ValidRemoval}
use Rattle.removals.proofs.WaitingValid.{valid-none, ready-cut, valid-reset-waiting}
use Rattle.maplaws.specs.Among.{OneOf, Exactly}
use Rattle.maplaws.specs.Ties.{TieBreak}
use Rattle.maplaws.proofs.United.{Shared, united-exactly, one-clock, shared-clock, shared-key}

module _ (c : List Dot) {l : List Removal} (f : (r : Removal) → r ∈ l → ValidRemoval r) where
  abbrev cuts : List Removal
  cuts = sift remains (cut_removal c) l

  cut-clock : (r : Removal) → under_of (cut_removal c r) ≡ cut_dots c (under_of r)
  cut-clock r = take-pad no_dot dot_limit (cut_dots c (under_of r))

  -- one of those that are left, or one of those that were cut
  module _ {Such : Removal → Type 0} (s : Shared Such) where
    left-exactly : Exactly (OneOf (reset_waiting c l) Such) (OneOf l (λ r. (remains (cut_removal c r) ≡ true) × Such (cut_removal c r)))
    unfolding reset_waiting
    left-exactly =
        let u = united-exactly s cuts valid-none (ready-cut c f) in (
          λ q. ⊎_elim (λ t. absurd (Memᴰ.not-nil t.1))
              (λ t. let w = sift-means remains (cut_removal c) l t.1 in
              (w.source, w.stands, (ap remains (sym w.changed) ∙ w.passes, rw w.changed at t.2))) (u.0 q),
          λ q. u.1 (inr (cut_removal c q.0, sift-holds remains (cut_removal c) q.1 q.2.0, q.2.1)),
        )

  stays : (r : Removal) (d : List Dot) → is_empty d ≡ false → cut_dots c (under_of r) ≡ d → remains (cut_removal c r) ≡ true
  stays r d n e = ap not (ap is_empty (cut-clock r ∙ e) ∙ n)

  -- any removals, under any clocks
  pub breaks-ties : TieBreak c l (reset_waiting c l)
  breaks-ties = record {
    listed = λ d n k. let u = left-exactly (shared-key d k) in (
      λ q. let t = u.0 q in (t.0, t.1, (sym (cut-clock t.0) ∙ t.2.1.0, t.2.1.1)),
      λ q. u.1 (q.0, q.1, (stays q.0 d n q.2.0, (cut-clock q.0 ∙ q.2.0, q.2.1))),
    );
    waits = λ d n. let u = left-exactly (shared-clock d) in (
      λ q. let t = u.0 q in (t.0, t.1, sym (cut-clock t.0) ∙ t.2.1),
      λ q. u.1 (q.0, q.1, (stays q.0 d n q.2, cut-clock q.0 ∙ q.2)),
    );
    emptied = (valid-reset-waiting f c).some;
    one = λ r s i j e. one-clock (valid-reset-waiting f c) i j e;
  }
