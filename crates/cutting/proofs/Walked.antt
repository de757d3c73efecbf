-- The entries of a map drawn one after the other, each cut or as it is.
use mathlib.Core.Path.{◌≡◌, refl, ap, sym, ◌∙◌, subst}
use mathlib.Core.Bool.{Bool, true, false, not, cond}
use mathlib.Core.List.Memᴰ
use mathlib.Core.List.{List, [], ◌∷◌, ◌++◌, append-nil}
use Prim.Native.Nat.{ℕ, ◌+◌, ◌*◌, ◌≤◌, ◌<◌}
use native.Mathlib.Omega.{arith}
use lib.ListN.{length, replicate}
use lib.Seq.{append_snoc}
use Rattle.listlaws.specs.Sift.{sift}
use Rattle.listlaws.specs.Order.{nil}
use Rattle.listlaws.proofs.Pads.{length-snoc}
use Rattle.clock.specs.declared.Clock.{Clock}
use Rattle.clock.specs.Dots.{dots_of, clock_of, is_empty, cut_dots}
use Rattle.clock.specs.Lawful.{Lawful}
use Rattle.register.specs.Values.{cut_values}
use Rattle.entries.specs.declared.Entry.{Entry}
use Rattle.limits.specs.Limits.{entry_limit}
use Rattle.entries.specs.Model.{dots_in, values_in, entry_as}
use Rattle.entries.specs.Entries.{stays, cut_entry}
use Rattle.entries.proofs.Cuts.{cut-entry-none}
use Rattle.entries.proofs.Finishing.{one-stays, one-goes}
use Rattle.map.specs.declared.Map.{Map}
use Rattle.map.specs.Model.{entries_in}
use Rattle.map.proofs.Accepts.{fits-means}
use Rattle.walks.specs.declared.Layout.{Layout}
use Rattle.layout.specs.Whole.{Lies}
use Rattle.keyed.proofs.Walks.{owned-end}
use Rattle.marks.specs.Marks.{picked}
use Rattle.marks.proofs.Picks.{picked_all}
use Rattle.entrywalk.specs.declared.Cursor.{Cursor}
use Rattle.entrywalk.specs.declared.Lain.{Lain}
use Rattle.sketch.specs.declared.Sketch.{Sketch}
use Rattle.entrywalk.specs.Walking.{Fit, Ahead, Steps}
use Rattle.sketch.specs.Drawn.{Sketches}
use Rattle.entrywalk.proofs.Stepping.{start_of, all-ahead}

-- some entries are drawn, beside any second image, and the rest lies ahead
pub record Walked (s : List ℕ) (l : Layout) (f : Entry → Entry) (es : List Entry) (x : Cursor) (sk : Sketch) : Type 0 where
  pub rest : List Entry
  pub ahead : Ahead s l x rest
  pub done : List Entry
  pub holds : (t : List ℕ) → Sketches s t done sk
  pub parts : sift stays f es ≡ done ++ sift stays f rest
  pub few : length done + length rest ≤ entry_limit

module _ {s : List ℕ} {l : Layout} (f : Entry → Entry) where
  pub walked_start : {m : Map} → Lies s m l → {sk : Sketch} → ((t : List ℕ) → Sketches s t [] sk) → Walked s l f (entries_in m) (start_of l) sk
  walked_start {m} h g = record {
    rest = entries_in m;
    ahead = all-ahead h;
    done = [];
    holds = g;
    parts = refl;
    few = let n = (fits-means m
        h.within.limits).count in omega arith;
  }

  module _ {es : List Entry} {x : Cursor} {sk : Sketch} (w : Walked s l f es x sk) where
    module _ {r : Lain} (g : Steps s l x w.rest r) where
      pub walked_skip : stays (f g.entry) ≡ false → Walked s l f es r.next sk
      walked_skip t = record {
        rest = g.more;
        ahead = g.rest;
        done = w.done;
        holds = w.holds;
        parts = w.parts ∙ ap (λ k. w.done ++ sift stays f k) g.parts ∙ ap (λ k. w.done ++ k) (one-goes f g.entry g.more t);
        few = let n = w.few in omega (arith, ap length g.parts);
      }

      pub walked-keep : stays (f g.entry) ≡ true → {one : Entry} → one ≡ f g.entry → {next : Sketch}
          → ((t : List ℕ) → Sketches s t (w.done ++ (one ∷ [])) next) → Walked s l f es r.next next
      walked-keep t e {next} p = record {
        rest = g.more;
        ahead = g.rest;
        done = w.done ++ (f g.entry ∷ []);
        holds = λ other. subst (λ k. Sketches s other (w.done ++ (k ∷ [])) next) e (p other);
        parts =
            w.parts ∙ ap (λ k. w.done ++ sift stays f k) g.parts ∙ ap (λ k. w.done ++ k) (one-stays f g.entry g.more t)
            ∙ sym (append_snoc w.done (f g.entry) (sift stays f g.more));
        few = let n = w.few in omega (arith, ap length g.parts, length-snoc w.done (f g.entry));
      }

    pub walked-few : sk.sums.count < 2 * entry_limit
    walked-few = let n = w.few in omega (arith, (w.holds s).sums.count)

    pub walked_end : l.third ≤ x.own → (t : List ℕ) → Sketches s t (sift stays f es) sk
    unfolding sift
    walked_end n t =
        let e = owned-end w.rest w.ahead.own n in
        subst (λ k. Sketches s t k sk) (sym (w.parts ∙ ap (λ k. w.done ++ sift stays f k) e ∙ append-nil w.done)) (w.holds t)

-- an entry cut by a clock, or by none
module _ (by : Clock) (b : Bool) (here : Clock) (q : here ≡ cond b by (clock_of [])) where
  pub here-lawful : Lawful (dots_of by) → Lawful (dots_of here)
  here-lawful h = subst (λ k. Lawful (dots_of k)) (sym q) (go b)
    where
      go : (b : Bool) → Lawful (dots_of (cond b by (clock_of [])))
      go true = h
      go false = record { rising = nil; positive = λ d i. absurd (Memᴰ.not-nil i) }

  module _ {e : Entry} (h : Fit e) where
    cut-here : cut_entry (dots_of here) e ≡ cond b (cut_entry (dots_of by) e) e
    cut-here = ap (λ k. cut_entry (dots_of k) e) q ∙ go b
      where
        go : (b : Bool) → cut_entry (dots_of (cond b by (clock_of []))) e ≡ cond b (cut_entry (dots_of by) e) e
        go true = refl
        go false = cut-entry-none (record { laid = h.laid; clock = h.clock; values = h.valid })

    module _ {left : Clock} (g : left ≡ clock_of (cut_dots (dots_of here) (dots_in e))) where
      pub left-stays : stays (cond b (cut_entry (dots_of by) e) e) ≡ not (is_empty (dots_of left))
      unfolding cut_entry
      left-stays = ap stays (sym cut-here) ∙ ap (λ k. not (is_empty (dots_of k))) (sym g)

    pub left-entry : (key : ℕ) → key ≡ e.key
        → entry_as key (cut_dots (dots_of here) (dots_in e)) (cut_values (dots_of here) (picked (replicate 4 true) (values_in e))) ≡ cond b
        (cut_entry (dots_of by) e) e
    unfolding cut_entry
    left-entry key p =
        let v = picked_all (values_in e) 4 h.few in
        (λ i. entry_as (p i) (cut_dots (dots_of here) (dots_in e)) (cut_values (dots_of here) (v i))) ∙ cut-here
