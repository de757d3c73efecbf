-- Where no removal lists a key, those that list it cut nothing.
use mathlib.Core.Path.{◌≡◌, refl, ap, sym, ◌∙◌}
use mathlib.Core.Bool.{Bool, true, false, cond}
use mathlib.Core.List.{List, [], ◌∷◌}
use Prim.Native.Nat.{ℕ, zero, suc, ◌≤◌, ◌<◌}
use native.Mathlib.Omega.{arith}
use lib.ListN.{length, take, get_or}
use Rattle.listlaws.specs.First.{some, first_in}
use Rattle.listlaws.specs.Fold.{fold}
use Rattle.listlaws.proofs.Orders.{apart}
use Rattle.clock.specs.declared.Clock.{Clock}
use Rattle.clock.specs.declared.Dot.{Dot}
use Rattle.clock.specs.Dots.{dots_of, cut_dots}
use Rattle.clock.specs.Lawful.{Lawful}
use Rattle.clock.proofs.Cuts.{cut-none}
use Rattle.removals.specs.declared.Removal.{Removal}
use Rattle.limits.specs.Limits.{waiting_limit}
use Rattle.removals.specs.Model.{under_of}
use Rattle.queued.specs.declared.Queue.{Queue}
use Rattle.queued.specs.Queue.{cuts_for, lists, Queued, Marked}
use Rattle.leaving.specs.Left.{NothingCuts}

-- no mark is set, so none at a place
none-at : (n : ℕ) (l : List Bool) (j : ℕ) → some (λ b. b) (take n l) ≡ false → j < n → get_or l j false ≡ false
unfolding first_in
none-at zero l j t h = absurd (omega arith)
none-at (suc n) [] j t h = refl
none-at (suc n) (true ∷ l) j t h = apart t
none-at (suc n) (false ∷ l) zero t h = refl
none-at (suc n) (false ∷ l) (suc j) t h = none-at n l j t (omega arith)

-- removals of which none lists a key
cuts-none : (w : List Removal) (key : ℕ) (x : List Dot) → ((j : ℕ) → j < length w → lists w j key ≡ false) → cuts_for w key x ≡ x
unfolding cuts_for fold
cuts-none [] key x f = refl
cuts-none (r ∷ w) key x f =
    ap (λ b. cuts_for w key (cond b (cut_dots (under_of r) x) x)) (f 0 (omega arith)) ∙ cuts-none w key x (λ j h. f (suc j) (omega arith))

cuts-marked : (w : List Removal) (key : ℕ) (x : List Dot) {under : List Bool} {n : ℕ} → n ≡ length w → length w ≤ waiting_limit → Marked w key under
    → some (λ b. b) (take n under) ≡ false → cuts_for w key x ≡ x
cuts-marked w key x {under} {n} e few m t =
    cuts-none w key x (λ j h. sym (m.each j (omega arith)) ∙ none-at n under j t (omega (arith, e)))

-- what nothing cuts stays as it is
pub whole-left : {gone : Clock} {theirs ours : List Bool} {s t : List ℕ} {cs ds : Queue} (u : NothingCuts gone ds.len theirs cs.len ours)
    (v w : List Removal) (key : ℕ) {x : List Dot} → Lawful x → Queued t ds v → Queued s cs w → Marked v key theirs → Marked w key ours
    → cuts_for w key (cuts_for v key (cut_dots (dots_of gone) x)) ≡ x
whole-left u v w key {x} h a b m n =
    ap (λ d. cuts_for w key (cuts_for v key (cut_dots d x))) u.no-clock ∙ ap (λ d. cuts_for w key (cuts_for v key d)) (cut-none h)
    ∙ ap (cuts_for w key) (cuts-marked v key x a.count a.few m u.no-theirs) ∙ cuts-marked w key x b.count b.few n u.no-ours
