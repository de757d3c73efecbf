-- Waiting removals that are cut and united twice: the same as each cut twice, and united once.
use mathlib.Core.Path.{◌≡◌, refl, ap, ap₂, sym, ◌∙◌}
use mathlib.Core.Bool.{Bool, true, false, not, cond}
use mathlib.Core.List.Memᴰ
use mathlib.Core.List.{List, [], ◌∷◌, map, map-id}
use borrow.Author.Tests.{not-true, not-false}
use Rattle.listlaws.specs.Sift.{sift}
use Rattle.listlaws.specs.Fold.{fold}
use Rattle.listlaws.specs.Weave.{weave}
use Rattle.listlaws.specs.Order.{◌∈◌}
use Rattle.listlaws.proofs.Orders.{apart}
use Rattle.listlaws.proofs.Twice.{sift-same, sift-sift}
use Rattle.listlaws.proofs.Those.{sift-means, those-all}
use Rattle.clock.specs.declared.Dot.{Dot}
use Rattle.clock.specs.Dots.{clock_of, is_empty, cut_dots, join_dots}
use Rattle.clock.specs.Lawful.{Lawful}
use Rattle.clock.proofs.Packs.{dots-of}
use Rattle.clock.proofs.Cuts.{cut-trade, cut-none}
use Rattle.clock.proofs.Joins.{cut-cut}
use Rattle.clock.proofs.Empties.{empty-cut}
use Rattle.removals.specs.declared.Removal.{Removal}
use Rattle.removals.specs.Model.{under_of}
use Rattle.removals.specs.Waits.{removal_before, unite, unite_all, unite_into, cut_removal, remains, reset_waiting}
use Rattle.removals.specs.Valid.{ValidRemoval, ValidWaiting}
use Rattle.removals.proofs.ClockOrder.{removal-strict, removal-steady, removal-level, level-removal}
use Rattle.removals.proofs.Uniting.{keeps, unite-nil, unite-afresh}
use Rattle.levels.proofs.Trades.{united-level, unite-assoc, unite-trade}
use Rattle.removals.proofs.WaitingValid.{Ready, valid-none, valid-cut-removal, valid-unite-into}

-- two removals under one clock are united in, one by one or as one
unite-level : {y z : Removal} (l : List Removal) → ((x : Removal) → x ∈ l → ValidRemoval x) → ValidRemoval y → ValidRemoval z → under_of y
    ≡ under_of z
    → unite_into (unite_into l y) z ≡ unite_into l (unite y z)
unfolding unite_all
unite-level {y} {z} l f h k e =
    united-level removal_before unite removal-strict removal-steady keeps y z (level-removal y z e) l (λ x i q. unite-assoc (f x i) h k)

-- the clock of a removal that was cut
cut-under : (c : List Dot) (r : Removal) → under_of (cut_removal c r) ≡ cut_dots c (under_of r)
cut-under c r = dots-of (cut_dots c (under_of r)) refl

module _ (c : List Dot) where
  -- what a cut leaves of a removal, united into those that wait
  abbrev leave : List Removal → Removal → List Removal
  leave w r = cond (remains (cut_removal c r)) (unite_into w (cut_removal c r)) w

  leaves : (w l : List Removal) → fold unite_into w (sift remains (cut_removal c) l) ≡ fold leave w l
  unfolding fold sift
  leaves w [] = refl
  leaves w (x ∷ l) = go (remains (cut_removal c x)) (λ u. leaves u l)
    where
      go : (b : Bool) → ((u : List Removal) → fold unite_into u (sift remains (cut_removal c) l) ≡ fold leave u l)
          → fold unite_into w (cond b (cut_removal c x ∷ sift remains (cut_removal c) l) (sift remains (cut_removal c) l))
          ≡ fold leave (cond b (unite_into w (cut_removal c x)) w) l
      go true f = f (unite_into w (cut_removal c x))
      go false f = f w

  leave-valid : {w : List Removal} {x : Removal} → ValidWaiting w → ValidRemoval x → ValidWaiting (leave w x)
  leave-valid {w} {x} v h = go (remains (cut_removal c x)) refl
    where
      go : (b : Bool) → remains (cut_removal c x) ≡ b → ValidWaiting (cond b (unite_into w (cut_removal c x)) w)
      go true t = valid-unite-into v (valid-cut-removal h c) (not-true (is_empty (under_of (cut_removal c x))) t)
      go false t = v

  leave-trade : {w : List Removal} {x y : Removal} → ValidWaiting w → ValidRemoval x → ValidRemoval y → leave (leave w x) y ≡ leave (leave w y) x
  leave-trade {w} {x} {y} v h k = go (remains (cut_removal c x)) (remains (cut_removal c y))
    where
      go : (a b : Bool) → cond b (unite_into (cond a (unite_into w (cut_removal c x)) w) (cut_removal c y))
          (cond a (unite_into w (cut_removal c x)) w)
          ≡ cond a (unite_into (cond b (unite_into w (cut_removal c y)) w) (cut_removal c x)) (cond b (unite_into w (cut_removal c y)) w)
      go true true = unite-trade w v.each (valid-cut-removal h c) (valid-cut-removal k c)
      go true false = refl
      go false true = refl
      go false false = refl

  -- a removal taken first or last
  behind : (l : List Removal) {w : List Removal} {x : Removal} → ValidWaiting w → ValidRemoval x → ((y : Removal) → y ∈ l → ValidRemoval y)
      → fold leave (leave w x) l ≡ leave (fold leave w l) x
  unfolding fold
  behind [] v h f = refl
  behind (y ∷ l) {w} {x} v h f =
      let k = f y (Memᴰ.head refl) in
      ap (λ s. fold leave s l) (leave-trade v h k) ∙ behind l (leave-valid v k) h (λ z i. f z (Memᴰ.tail i))

  -- two removals under one clock, cut and united or united and cut
  leave-level : {w : List Removal} {y x : Removal} → ValidWaiting w → ValidRemoval y → ValidRemoval x → under_of y ≡ under_of x → leave w (unite y x)
      ≡ leave (leave w y) x
  leave-level {w} {y} {x} v k h e = go (remains (cut_removal c y)) (remains (cut_removal c x)) (ap (λ u. not (is_empty u)) same)
    where
      same : under_of (cut_removal c y) ≡ under_of (cut_removal c x)
      same = cut-under c y ∙ ap (cut_dots c) e ∙ sym (cut-under c x)

      go : (a b : Bool) → a ≡ b → cond a (unite_into w (unite (cut_removal c y) (cut_removal c x))) w
          ≡ cond b (unite_into (cond a (unite_into w (cut_removal c y)) w) (cut_removal c x)) (cond a (unite_into w (cut_removal c y)) w)
      go true true q = sym (unite-level w v.each (valid-cut-removal k c) (valid-cut-removal h c) same)
      go true false q = apart q
      go false true q = apart (sym q)
      go false false q = refl

  -- a removal united into a list that is then cut, or cut and united into what is left of it
  united-leaves : (s : List Removal) {w : List Removal} {x : Removal} → ValidWaiting w → ((y : Removal) → y ∈ s → ValidRemoval y) → ValidRemoval x
      → fold leave w (unite_into s x) ≡ leave (fold leave w s) x
  unfolding fold unite_all weave
  united-leaves [] v f h = refl
  united-leaves (y ∷ s) {w} {x} v f h =
      go (removal_before y x) (removal_before x y) refl refl (united-leaves s (leave-valid v k) (λ z i. f z (Memᴰ.tail i)) h)
    where
      k : ValidRemoval y
      k = f y (Memᴰ.head refl)

      rest : (z : Removal) → z ∈ s → ValidRemoval z
      rest z i = f z (Memᴰ.tail i)

      go : (a b : Bool) → removal_before y x ≡ a → removal_before x y ≡ b → fold leave (leave w y) (unite_into s x)
          ≡ leave (fold leave (leave w y) s) x
          → fold leave w (cond a (y ∷ unite_into s x) (cond b (x ∷ y ∷ map (λ z. z) s) (unite y x ∷ unite_all s [])))
          ≡ leave (fold leave (leave w y) s) x
      go true b t u e = e
      go false true t u e = ap (λ l. fold leave (leave (leave w x) y) l) (map-id s) ∙ behind (y ∷ s) v h f
      go false false t u e =
          ap₂ (λ p l. fold leave p l) (leave-level v k h (removal-level y x (t, u))) (unite-nil s)
          ∙ behind s (leave-valid v k) h rest

  -- removals united one by one into a list that is then cut
  spread : (m : List Removal) {v : List Removal} → ValidWaiting v → Ready m → fold leave [] (fold unite_into v m) ≡ fold leave (fold leave [] v) m
  unfolding fold
  spread [] h g = refl
  spread (x ∷ m) {v} h g =
      let q = g x (Memᴰ.head refl) in
      spread m (valid-unite-into h q.0 q.1) (λ y i. g y (Memᴰ.tail i))
      ∙ ap (λ s. fold leave s m) (united-leaves v valid-none h.each q.0)

-- what a cut leaves is ready to wait
ready-cut : (d : List Dot) {l : List Removal} → ValidWaiting l → Ready (sift remains (cut_removal d) l)
ready-cut d {l} v z i =
    let r = sift-means remains (cut_removal d) l i in
    (rw r.changed (valid-cut-removal (v.each r.source r.stands) d), not-true (is_empty (under_of z)) r.passes)

-- a removal whose clock is emptied does not come back
gone : (c : List Dot) (r : Removal) → remains r ≡ false → remains (cut_removal c r) ≡ false
gone c r t = ap not (ap is_empty (cut-under c r) ∙ empty-cut c (under_of r) (not-false (is_empty (under_of r)) t))

-- removals that were united, then reset: each cut, all united once (an end theorem, which nothing uses yet)
pub reset-gathered : (c : List Dot) {m : List Removal} → Ready m → reset_waiting c (fold unite_into [] m)
    ≡ fold unite_into [] (sift remains (cut_removal c) m)
unfolding reset_waiting fold
reset-gathered c {m} g = leaves c [] (fold unite_into [] m) ∙ spread c m valid-none g ∙ sym (leaves c [] m)

module _ {l : List Removal} (v : ValidWaiting l) where
  -- two resets: each removal cut twice, all united once
  reset-reset : (c d : List Dot) → reset_waiting c (reset_waiting d l) ≡ fold unite_into [] (sift remains (λ r. cut_removal c (cut_removal d r)) l)
  unfolding reset_waiting fold
  reset-reset c d =
      leaves c [] (fold unite_into [] (sift remains (cut_removal d) l)) ∙ spread c (sift remains (cut_removal d) l) valid-none (ready-cut d v)
      ∙ sym (leaves c [] (sift remains (cut_removal d) l))
      ∙ ap (fold unite_into []) (sift-sift remains (cut_removal d) (cut_removal c) l (λ r i t. gone c (cut_removal d r) t))

  twice : (c d : List Dot) (r : Removal) → cut_removal c (cut_removal d r)
      ≡ record { clock = clock_of (cut_dots c (cut_dots d (under_of r))); keys = r.keys }
  twice c d r = ap (λ u. record { clock = clock_of (cut_dots c u); keys = r.keys }) (cut-under d r)

  -- cuts that agree on every removal's clock
  alike : (f g : Removal → Removal) → ((r : Removal) → f r ≡ g r) → fold unite_into [] (sift remains f l) ≡ fold unite_into [] (sift remains g l)
  alike f g e = ap (fold unite_into []) (sift-same remains f g l (λ r i. e r))

  pub reset-trade : (c d : List Dot) → reset_waiting c (reset_waiting d l) ≡ reset_waiting d (reset_waiting c l)
  reset-trade c d =
      reset-reset c d
      ∙ alike _ _ (λ r. twice c d r ∙ ap (λ u. record { clock = clock_of u; keys = r.keys }) (cut-trade c d (under_of r)) ∙ sym (twice d c r))
      ∙ sym (reset-reset d c)

  pub reset-both : {c d : List Dot} → Lawful c → Lawful d → reset_waiting d (reset_waiting c l) ≡ reset_waiting (join_dots c d) l
  unfolding reset_waiting
  reset-both {c} {d} h k =
      reset-reset d c ∙ alike _ _ (λ r. twice d c r ∙ ap (λ u. record { clock = clock_of u; keys = r.keys }) (cut-cut h k (under_of r)))

  -- the empty clock cuts nothing
  pub reset-none : reset_waiting [] l ≡ l
  unfolding reset_waiting
  reset-none =
      ap (fold unite_into []) (sift-same remains (cut_removal []) (λ r. r) l (λ r i. same r (v.each r i))
      ∙ those-all remains l (λ r i. ap not (v.some r i)))
      ∙ unite-afresh v.rising
    where
      same : (r : Removal) → ValidRemoval r → cut_removal [] r ≡ r
      same r h =
          ap (λ u. record { clock = clock_of u; keys = r.keys }) (cut-none h.clock)
          ∙ (λ i. record { clock = (sym h.laid i).clock; keys = r.keys })
