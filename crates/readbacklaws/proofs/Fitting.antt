-- Numbers that fit their fields in a record: every call keeps them so.
use mathlib.Core.Path.{◌≡◌}
use mathlib.Core.Bool.{Bool, true, false, cond}
use mathlib.Core.Logic.{⊎_elim}
use mathlib.Core.List.Memᴰ
use mathlib.Core.List.{List, [], ◌∷◌}
use Prim.Native.Nat.{◌<◌, ◌^◌}
use lib.Dec.{ltb}
use Rattle.listlaws.proofs.Pads.{take-pad}
use Rattle.listlaws.proofs.Those.{those-means}
use Rattle.clock.specs.declared.Dot.{Dot}
use Rattle.limits.specs.Limits.{dot_limit}
use Rattle.clock.specs.Dots.{no_dot, dots_of, cut_dots, common_dots, beyond, shared, join_dots, add_dot}
use Rattle.clock.specs.Lawful.{Lawful}
use Rattle.clock.proofs.Cuts.{lawful-cut, lawful-common}
use Rattle.clock.proofs.Joins.{lawful-nil, lawful-beyond, lawful-join, join-every}
use Rattle.entries.specs.declared.Entry.{Entry}
use Rattle.removals.specs.declared.Removal.{Removal}
use Rattle.entries.specs.declared.Update.{Update}
use Rattle.entries.specs.Model.{dots_in}
use Rattle.removals.specs.Model.{under_of}
use Rattle.removals.specs.Waits.{unite}
use Rattle.removals.specs.Valid.{ValidRemoval}
use Rattle.entries.proofs.Packs.{dots-in}
use Rattle.entries.proofs.Preserving.{Closed, Made}
use Rattle.removals.proofs.Unions.{union-means}
use Rattle.removals.proofs.Uniting.{unite-keys}
use Rattle.map.specs.declared.Map.{Map}
use Rattle.map.specs.declared.Op.{Op}
use Rattle.map.specs.Valid.{Valid}
use Rattle.map.proofs.Preserved.{Each, Rules, Taken, TakenOp, rules-of, taken_of}
use Rattle.clockimage.specs.Image.{DotFits}
use Rattle.oneimagelaws.specs.Narrow.{NarrowDots, NarrowValue, NarrowEntry, NarrowRemoval, Narrow, NarrowUpdate, NarrowOp}
use Rattle.oneimagelaws.proofs.Narrows.{narrow-as}

-- a clock whose numbers fit
pub record FittingClock (l : List Dot) : Type 0 where
  pub lawful : Lawful l
  pub fits : NarrowDots l

no-dots : NarrowDots []
no-dots d i = absurd (Memᴰ.not-nil i)

narrow_cut : (c l : List Dot) → NarrowDots l → NarrowDots (cut_dots c l)
unfolding cut_dots
narrow_cut c l f d i = f d (those-means (beyond c) l i).0

narrow-common : (l m : List Dot) → NarrowDots l → NarrowDots (common_dots l m)
unfolding common_dots
narrow-common l m f d i = f d (those-means (shared m) l i).0

clock-join : (l m : List Dot) → FittingClock l → FittingClock m → FittingClock (join_dots l m)
clock-join l m h k = record {
  lawful = lawful-join h.lawful k.lawful;
  fits = join-every h.lawful k.lawful DotFits h.fits k.fits
      (λ x y i j e. larger (ltb x.counter y.counter) (h.fits x i) (k.fits y j));
}
  where
    larger : (b : Bool) {x y : Dot} → DotFits x → DotFits y → DotFits (cond b y x)
    larger true p q = q
    larger false p q = p

pub clock-add : {d : Dot} → DotFits d → (l : List Dot) → FittingClock l → FittingClock (add_dot l d)
unfolding add_dot
clock-add {d} n l h = clock-join l (cond (beyond l d) (d ∷ []) []) h (record { lawful = lawful-beyond l d; fits = go (beyond l d) })
  where
    go : (b : Bool) → NarrowDots (cond b (d ∷ []) [])
    go true = λ x i. let same : x ≡ d = Memᴰ.eq_of_singleton i in rw same n
    go false = no-dots

closed : Closed FittingClock NarrowValue
closed = record {
  cut = λ by l h. record { lawful = lawful-cut by h.lawful; fits = narrow_cut by l h.fits };
  common = λ l m h. record { lawful = lawful-common m h.lawful; fits = narrow-common l m h.fits };
  join = clock-join;
  value = λ by v h n. record {
    dots = rw (take-pad no_dot dot_limit (cut_dots by (dots_of v.clock)))
        (narrow_cut by (dots_of v.clock) h.dots);
    value = h.value;
  };
}

-- an entry whose numbers fit
pub record FittingEntry (e : Entry) : Type 0 where
  pub lawful : Lawful (dots_in e)
  pub fits : NarrowEntry e

made : Made (λ k. k < 2 ^ 32) FittingClock NarrowValue FittingEntry
made = record {
  key = λ e h. h.fits.key;
  clock = λ e h. record { lawful = h.lawful; fits = h.fits.dots };
  values = λ e h. h.fits.values;
  make = λ k c l p q f. record { lawful = rw (dots-in k c l) q.lawful; fits = narrow-as k c l p q.fits f };
}

united : (x y : Removal) → ValidRemoval x → ValidRemoval y → NarrowRemoval x → NarrowRemoval y → NarrowRemoval (unite x y)
united x y h k f g = record {
  dots = f.dots;
  keys = rw (unite-keys x y) (λ n i. ⊎_elim (λ j. f.keys n j) (λ j. g.keys n j) (union-means h.keys k.keys n i));
}

pub rules : Rules FittingClock FittingEntry NarrowRemoval
rules =
    rules-of closed made
    (λ by r h. record { dots = rw (take-pad no_dot dot_limit (cut_dots by (under_of r))) (narrow_cut by (under_of r) h.dots); keys = h.keys }) united

taken : {u : Update} → NarrowUpdate u → Taken FittingClock FittingEntry u
taken {u} n = taken_of closed made u n.key (record { lawful = lawful-nil; fits = no-dots }) (clock-add n.dot) n.put

pub taken-op : {op : Op} → NarrowOp op → TakenOp FittingClock FittingEntry NarrowRemoval op
taken-op n = record { removal = n.removal; update = λ t. taken n.update }

-- a valid map whose numbers fit, and back
pub each_fits : {m : Map} → Valid m → Narrow m → Each FittingClock FittingEntry NarrowRemoval m
each_fits v n = record {
  clock = record { lawful = v.clock; fits = n.clock };
  entries = λ e i. record { lawful = (v.entries.each e i).clock; fits = n.entries e i };
  waiting = n.waiting;
}

pub fits_each : {m : Map} → Each FittingClock FittingEntry NarrowRemoval m → Narrow m
fits_each h = record { clock = h.clock.fits; entries = λ e i. (h.entries e i).fits; waiting = h.waiting }
