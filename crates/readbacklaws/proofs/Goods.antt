-- What each call that writes answers with, where it answers 0, is good: valid, within the limits, and its numbers fit.
use mathlib.Core.Path.{◌≡◌, refl, ap, sym}
use mathlib.Core.Bool.{Bool}
use mathlib.Core.List.Memᴰ
use mathlib.Core.List.{List, [], ◌∷◌}
use Prim.Native.Nat.{ℕ, ◌-◌, ◌^◌, ◌<◌, ◌≤◌}
use native.Mathlib.Omega.{arith}
use borrow.Author.Tests.{leb-false, ltb-false}
use lib.Dec.{eqb, leb}
use lib.ListN.{length}
use Rattle.listlaws.specs.Order.{nil}
use Rattle.listlaws.specs.Sift.{those}
use Rattle.listlaws.proofs.Orders.{apart}
use Rattle.listlaws.proofs.Pads.{take-pad}
use Rattle.listlaws.proofs.Sides.{one-ascends}
use Rattle.listlaws.proofs.Sifts.{length-sift}
use Rattle.listlaws.proofs.Those.{those-means}
use Rattle.clock.specs.declared.Dot.{Dot}
use Rattle.limits.specs.Limits.{dot_limit}
use Rattle.clock.specs.Dots.{no_dot, clock_of, counter_in, add_dot}
use Rattle.clock.proofs.Joins.{lawful-nil}
use Rattle.entries.specs.declared.Entry.{Entry}
use Rattle.register.specs.declared.Content.{Content}
use Rattle.entries.specs.Model.{dots_in, no_update}
use Rattle.entries.proofs.Packs.{dots-in, entries-of}
use Rattle.removals.proofs.Packs.{keys-of}
use Rattle.entries.proofs.Puts.{at_every}
use Rattle.map.specs.declared.Map.{Map}
use Rattle.map.specs.declared.Op.{Op}
use Rattle.map.specs.Model.{seen_by, entries_in}
use Rattle.map.specs.Applying.{apply}
use Rattle.map.specs.Merging.{merge}
use Rattle.map.specs.Resetting.{reset}
use Rattle.map.specs.Judging.{exceeding, over_number}
use Rattle.asking.specs.Contexts.{dot_after, add_context}
use Rattle.asking.specs.Asking.{update_op, update_under, make_update, removal_op, clock_at, read_key}
use Rattle.map.specs.Valid.{ValidOp, OpWithin}
use Rattle.map.proofs.Accepts.{fits-means, fits-holds}
use Rattle.asking.proofs.Askings.{clock-at, valid-read, each_read}
use Rattle.map.proofs.Kept.{valid-apply, valid-merge, valid-reset}
use Rattle.acceptancelaws.proofs.Waited.{removal-as}
use Rattle.scan.proofs.Eachs.{decide}
use Rattle.clockimage.specs.Image.{DotFits, ContentFits}
use Rattle.oneimagelaws.specs.Narrow.{NarrowUpdate, NarrowOp}
use Rattle.oneimagelaws.specs.One.{GoodMap, GoodOp}
use Rattle.map.proofs.Preserved.{each-apply, each-merge, each-reset}
use Rattle.readbacklaws.proofs.Fitting.{FittingClock, clock-add, rules, taken-op, each_fits, fits_each}

valid-op : {op : Op} → OpWithin op → ValidOp op
valid-op h = record { removal = h.removal.valid; update = λ t. (h.update t).valid }

module _ {m : Map} (g : GoodMap m) where
  pub good_apply : {op : Op} → OpWithin op → NarrowOp op → over_number (apply m op) ≡ 0 → GoodMap (apply m op)
  good_apply h n z = record {
    within = record { valid = valid-apply g.within.valid (valid-op h); limits = z };
    narrow = fits_each (each-apply rules g.within.valid (each_fits g.within.valid g.narrow) (valid-op h) (taken-op n));
  }

  pub good-merge : {n : Map} → GoodMap n → over_number (merge m n) ≡ 0 → GoodMap (merge m n)
  good-merge h z = record {
    within = record { valid = valid-merge g.within.valid h.within.valid; limits = z };
    narrow = fits_each (each-merge rules g.within.valid h.within.valid (each_fits g.within.valid g.narrow)
        (each_fits h.within.valid h.narrow));
  }

  pub good-reset : (c : List Dot) → over_number (reset m c) ≡ 0 → GoodMap (reset m c)
  good-reset c z = record {
    within = record { valid = valid-reset g.within.valid c; limits = z };
    narrow = fits_each (each-reset rules g.within.valid (each_fits g.within.valid g.narrow) c);
  }

  read-limits : (k : ℕ) → over_number (read_key m k) ≡ 0
  unfolding read_key
  read-limits k =
      let f = fits-means m g.within.limits in
      let p : Entry → Bool = λ e. eqb e.key k in
      let l = those p (entries_in m) in
      fits-holds (record {
        clock = f.clock;
        count = rw (entries-of l) (omega (arith, f.count, length-sift p (λ e. e) (entries_in m)));
        entries = rw (entries-of l) (λ e i. f.entries e (those-means p (entries_in m) i).0);
        number = omega arith;
        waiting = λ r i. absurd (Memᴰ.not-nil i);
      })

  pub good-read : (k : ℕ) → GoodMap (read_key m k)
  good-read k = record {
    within = record { valid = valid-read g.within.valid k; limits = read-limits k };
    narrow = fits_each (each_read (each_fits g.within.valid g.narrow) k);
  }

-- the clock of an operation: lawful, within the limit, and its numbers fit
pub record GoodDots (c : List Dot) : Type 0 where
  pub clock : FittingClock c
  pub few : length c ≤ dot_limit

module _ {m : Map} (g : GoodMap m) where
  pub good-seen : GoodDots (seen_by m)
  good-seen = record { clock = record { lawful = g.within.valid.clock; fits = g.narrow.clock }; few = (fits-means m g.within.limits).clock }

  pub good-at : (k : ℕ) → GoodDots (clock_at m k)
  good-at k =
      rw (← clock-at m k)
      (at_every (λ e. GoodDots (dots_in e)) k (entries_in m)
      (λ e i q. record {
        clock = record { lawful = (g.within.valid.entries.each e i).clock; fits = (g.narrow.entries e i).dots };
        few = ((fits-means
            m g.within.limits).entries e i).dots;
      })
      (rw (dots-in k [] []) (record { clock = record { lawful = lawful-nil; fits = λ d i. absurd (Memᴰ.not-nil i) }; few = omega arith })))

no-update : NarrowUpdate no_update
no-update = record {
  dot = record { actor = omega arith; counter = omega arith };
  key = omega arith;
  put = record { dots = λ d i. absurd (Memᴰ.not-nil i); value = record { number = omega arith; origin = omega arith } };
}

pub good-removal : {c : List Dot} → GoodDots c → (k : ℕ) → k < 2 ^ 32 → GoodOp (removal_op c k)
good-removal {c} h k p = record {
  within = record {
    removal = record {
      valid = removal-as c (k ∷ []) h.clock.lawful (one-ascends k);
      dots = rw (take-pad no_dot dot_limit c) h.few;
      keys = rw (keys-of (k ∷ [])) (omega arith);
    };
    update = λ e. apart (sym e);
  };
  narrow = record {
    removal = record {
      dots = rw (take-pad no_dot dot_limit c) h.clock.fits;
      keys = rw (keys-of (k ∷ [])) (λ n i. let same : n ≡ k = Memᴰ.eq_of_singleton i in rw same p);
    };
    update = no-update;
  };
  other = refl;
}

-- an update under a dot and a clock
module _ {c : List Dot} (h : GoodDots c) (d : Dot) (p : 0 < d.counter) (n : DotFits d) (k : ℕ) (value : Content) (kf : k < 2 ^ 32)
    (vf : ContentFits value) where
  good-update-op : GoodOp (update_op (record { number = 0; clock = clock_of c; dot = d }) k value)
  good-update-op =
      let e = take-pad no_dot dot_limit c in
      record {
        within = record {
          removal = record { valid = removal-as [] [] lawful-nil nil; dots = omega arith; keys = omega arith };
          update = λ t. record {
            valid = record { dot = p; laid = ap (λ x. record { clock = clock_of x; value = value }) (sym e); clock = rw e h.clock.lawful };
            dots = rw e h.few;
          };
        };
        narrow = record {
          removal = record { dots = λ x i. absurd (Memᴰ.not-nil i); keys = λ x i. absurd (Memᴰ.not-nil i) };
          update = record { dot = n; key = kf; put = record { dots = rw e h.clock.fits; value = vf } };
        };
        other = refl;
      }

pub good-update : {m : Map} → GoodMap m → (actor k : ℕ) (value : Content) → actor < 2 ^ 16 → k < 2 ^ 32 → ContentFits value
    → (make_update m actor k value).number ≡ 0 → GoodOp (make_update m actor k value).op
unfolding make_update update_under add_context
good-update {m} g actor k value af kf vf z =
    let c = seen_by m in
    let d = dot_after c actor in
    decide (leb (2 ^ 64 - 1) (counter_in c actor)) (λ t. absurd (let q = rw t at z in omega arith))
    (λ t. decide (exceeding dot_limit (add_dot c d)) (λ u. absurd (let q = rw (t, u) at z in omega arith))
    (λ u. rw (t, u)
    (let n : DotFits d = record { actor = af; counter = omega (arith, leb-false (2 ^ 64 - 1) (counter_in c actor) t) } in
    good-update-op (record { clock = clock-add n c (good-seen g).clock; few = ltb-false dot_limit (length (add_dot c d)) u }) d
    (omega arith) n k value kf vf)))
