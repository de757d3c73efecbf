-- The runs of waiting removals where they lie, one after the other, and their clocks.
use mathlib.Core.Path.{◌≡◌, refl, ap, sym, ◌∙◌}
use mathlib.Core.List.Memᴰ
use mathlib.Core.List.{List, [], ◌∷◌, ◌++◌, map, append-nil}
use Prim.Native.Nat.{ℕ, ◌+◌, ◌*◌, ◌-◌, ◌≤◌, ◌<◌}
use native.Mathlib.Omega.{arith}
use lib.Dec.{eqb}
use lib.ListN.{length, take, drop, get_or, set, replicate, length-map, length-take}
use lib.Seq.{append_snoc, get_or_at, get_or-set_same, get_or-set_other}
use borrow.Author.Tests.{eqb-true, eqb-false}
use Rattle.listlaws.specs.Order.{◌∈◌}
use Rattle.listlaws.proofs.Pads.{length-snoc}
use Rattle.clock.specs.declared.Dot.{Dot}
use Rattle.limits.specs.Limits.{dot_limit, waiting_limit}
use Rattle.clock.specs.Dots.{clock_of}
use Rattle.clock.specs.Lawful.{Lawful}
use Rattle.removals.specs.declared.Removal.{Removal}
use Rattle.removals.specs.Model.{no_removal, under_of}
use Rattle.records.specs.declared.Record.{Record}
use Rattle.clockimage.specs.Image.{dot_of, dot_record}
use Rattle.clockimage.proofs.RoundTrip.{dots-back}
use Rattle.mapimage.specs.MapImage.{flat_from, waiting_dots}
use Rattle.runs.specs.Run.{run_dots}
use Rattle.map.specs.declared.Map.{Map}
use Rattle.map.specs.Model.{waiting_in}
use Rattle.map.proofs.Accepts.{fits-means}
use Rattle.walks.specs.declared.Layout.{Layout}
use Rattle.walks.specs.Walk.{part, Splits}
use Rattle.layout.specs.Whole.{Lies}
use Rattle.layout.proofs.Found.{Cut, cut_at}
use Rattle.layout.proofs.Waiting.{fives-later}
use Rattle.walks.proofs.Loops.{length_part, slice-part, clock-between}
use Rattle.scan.proofs.Eachs.{decide}
use Rattle.queued.specs.Queue.{RunLies, Queued}

-- what the limits say of an image's waiting removals
pub record WaitingFits (s : List ℕ) (end : ℕ) (w : List Removal) : Type 0 where
  pub within : end * 16 ≤ length s
  pub few : length w ≤ waiting_limit
  pub short : (r : Removal) → r ∈ w → length (under_of r) ≤ dot_limit
  pub lawful : (r : Removal) → r ∈ w → Lawful (under_of r)

pub waiting-fits : {s : List ℕ} {m : Map} {l : Layout} → Lies s m l → WaitingFits s l.sixth (waiting_in m)
waiting-fits {s} {m} {l} h =
    let a = h.places.sixth in
    let b = h.places.end in
    let k = fits-means m h.within.limits in
    record { within = omega arith; few = k.number; short = λ r i. (k.waiting r i).dots; lawful = λ r i. (h.within.valid.waiting.each r i).clock }

-- some runs are passed, and the records of the rest lie from `at` on
pub record Taking (s : List ℕ) (end : ℕ) (w : List Removal) (at i : ℕ) (starts : List ℕ) : Type 0 where
  pub done : List Removal
  pub rest : List Removal
  pub parts : w ≡ done ++ rest
  pub count : i ≡ length done
  pub order : at ≤ end
  pub records : part s at end ≡ flat_from waiting_dots i rest
  pub here : get_or starts i 0 ≡ at
  pub lies : (j : ℕ) → j < i → RunLies s (get_or starts j 0) (get_or starts (j + 1) 0) (under_of (get_or w j no_removal))

module _ {s : List ℕ} {end : ℕ} {w : List Removal} (fits : WaitingFits s end w) where
  pub take-start : {at : ℕ} → at ≤ end → part s at end ≡ flat_from waiting_dots 0 w → Taking s end w at 0 (replicate (waiting_limit + 1) at)
  take-start h e = record { done = []; rest = w; parts = refl; count = refl; order = h; records = e; here = refl; lies = λ j g. absurd (omega arith) }

  module _ {at i : ℕ} {starts : List ℕ} (t : Taking s end w at i starts) where
    record Next : Type 0 where
      more : List Removal
      rest-is : t.rest ≡ get_or w i no_removal ∷ more
      stands : get_or w i no_removal ∈ w

    coming : i < length w → Next
    coming h = go t.rest refl
      where
        go : (k : List Removal) → t.rest ≡ k → Next
        go [] q = absurd (omega (arith, ap length (t.parts ∙ ap (λ x. t.done ++ x) q ∙ append-nil t.done), t.count))
        go (r ∷ k) q =
            let all = t.parts ∙ ap (λ x. t.done ++ x) q in
            let e : get_or w i no_removal ≡ r = ap (λ l. get_or l i no_removal) all ∙ get_or_at t.done r k no_removal i (sym t.count) in
            record { more = k; rest-is = q ∙ ap (λ x. x ∷ k) (sym e); stands = rw (e, all) (Memᴰ.append_right t.done (Memᴰ.head refl)) }

    module _ (h : i < length w) (next : ℕ) (before : at ≤ next) (inside : next ≤ end) (found : (at' : ℕ) → Splits s 2 (i + 1) at end at'
        → next ≡ at') where
      abbrev removal : Removal
      removal = get_or w i no_removal

      cut : Cut s at end (waiting_dots i removal) (flat_from waiting_dots (i + 1) (coming h).more) next
      unfolding flat_from
      cut =
          cut_at s 2 (i + 1) at end _ _ next t.order (t.records ∙ ap (flat_from waiting_dots i) (coming h).rest-is)
          (λ x m. let (d, j, e) = Memᴰ.of_map (dot_record 5 i 0) (under_of removal) m in let q = ap (λ (x : Record). x.index) e in omega arith)
          (λ x m. fives-later (i + 1) (coming h).more x m) found

      its-run : RunLies s at next (under_of removal)
      its-run =
          let k = (coming h).stands in
          let w = fits.within in
          record {
            order = before;
            within = omega arith;
            few = omega (arith, ap length cut.first, length_part s at next, length-map (under_of removal) (dot_record 5 i 0), fits.short removal k);
            dots = ap (map dot_of) cut.first ∙ dots-back 5 i 0 (under_of removal);
            lawful = fits.lawful removal k;
          }

      pub take_on : i + 1 < length starts → Taking s end w next (i + 1) (set starts (i + 1) next)
      take_on room = record {
        done = t.done ++ (removal ∷ []);
        rest = (coming h).more;
        parts = t.parts ∙ ap (λ k. t.done ++ k) (coming h).rest-is ∙ sym (append_snoc t.done removal (coming h).more);
        count = ap (λ k. k + 1) t.count ∙ sym (length-snoc t.done removal);
        order = inside;
        records = cut.second;
        here = get_or-set_same starts (i + 1) next 0 room;
        lies = λ j g. decide (eqb j i)
            (λ u. let q = eqb-true j i u in rw (
              q,
              get_or-set_other starts (i + 1) i next 0 (λ e. omega arith),
              get_or-set_same starts (i + 1) next 0 room,
              t.here,
            ) its-run)
            (λ u. let q = eqb-false j i u in
            rw (get_or-set_other starts (i + 1) j next 0 (λ e. omega arith), get_or-set_other starts (i + 1) (j + 1) next 0 (λ e. q (omega arith)))
            (t.lies j (omega arith)));
      }

    pub take-end : (n : ℕ) → n ≡ length w → n ≤ i → Queued s (record { starts = starts; len = n }) w
    take-end n e h = record { count = e; few = fits.few; each = λ j g. t.lies j (omega arith) }

-- the clock of a run that lies, which is short enough
module _ {s : List ℕ} {from to : ℕ} {d : List Dot} (r : RunLies s from to d) where
  pub lying-clock : clock_of (run_dots (take (to * 16 - from * 16) (drop (from * 16) s))) ≡ clock_of d
  lying-clock = clock-between s from to r.order r.within ∙ ap clock_of r.dots

  pub lying-dots : run_dots (take (to * 16 - from * 16) (drop (from * 16) s)) ≡ d
  lying-dots = ap (map dot_of) (slice-part s from to r.order r.within) ∙ r.dots

  pub lying-lawful : Lawful (run_dots (take (to * 16 - from * 16) (drop (from * 16) s)))
  lying-lawful = rw lying-dots r.lawful

  pub lying-short : length (take (to * 16 - from * 16) (drop (from * 16) s)) ≤ dot_limit * 16
  lying-short = let k = r.few in omega (arith, length-take (to * 16 - from * 16) (drop (from * 16) s))
