-- A merge drawn key by key: what is drawn, and what is left of both maps' entries.
use mathlib.Core.Path.{◌≡◌, ap, ap₂, sym, subst, ◌∙◌}
use mathlib.Core.Bool.{true, false, not}
use mathlib.Core.List.{List, [], ◌∷◌, ◌++◌}
use Prim.Native.Nat.{ℕ, ◌+◌, ◌*◌, ◌≤◌}
use native.Mathlib.Omega.{arith}
use lib.ListN.{length}
use Rattle.listlaws.specs.Order.{◌∈◌}
use Rattle.listlaws.specs.Sift.{sift}
use Rattle.listlaws.specs.Weave.{weave}
use Rattle.clock.specs.declared.Dot.{Dot}
use Rattle.limits.specs.Limits.{dot_limit, entry_limit}
use Rattle.clock.specs.Dots.{dots_of, clock_of, is_empty, join_dots}
use Rattle.clock.proofs.Packs.{dots-of}
use Rattle.register.specs.declared.Value.{Value}
use Rattle.register.specs.Values.{alive, cut_values, merge_values}
use Rattle.entries.specs.Valid.{ValidValue}
use Rattle.entries.specs.declared.Entry.{Entry}
use Rattle.entries.specs.Model.{dots_in, values_in, entry_as}
use Rattle.entries.specs.Entries.{stays, run}
use Rattle.entries.proofs.Finishing.{one-stays, one-goes}
use Rattle.entries.proofs.ClocksFit.{both-fit}
use Rattle.register.proofs.Kept.{merge-each}
use Rattle.entries.proofs.Packs.{dots-in}
use Rattle.map.specs.declared.Map.{Map}
use Rattle.map.specs.Model.{seen_by, entries_in, waiting_in}
use Rattle.map.proofs.Accepts.{fits-means}
use Rattle.mapimage.specs.MapImage.{key_number}
use Rattle.walks.specs.declared.Layout.{Layout}
use Rattle.layout.specs.Whole.{Lies}
use Rattle.queued.specs.Queue.{cuts_for, Keyed}
use Rattle.entrywalk.specs.declared.Cursor.{Cursor}
use Rattle.sketch.specs.declared.Sketch.{Sketch}
use Rattle.sketch.specs.declared.Sketched.{Sketched}
use Rattle.entrywalk.specs.Walking.{Ahead}
use Rattle.sketch.specs.Drawn.{clock_apart, Draws, Sketches}
use Rattle.entrywalk.proofs.Stepping.{start_of, all-ahead}
use Rattle.queued.proofs.Starts.{keyed-image}
use Rattle.leaving.specs.Left.{value_left}
use Rattle.leaving.proofs.Growing.{Grown, grown-on, grown-same, grown-end}
use Rattle.merging.specs.declared.Coming.{Coming}
use Rattle.merging.specs.Coming.{woven, MergeComes, merged_entries}
use Rattle.entrywalk.proofs.Fronts.{ahead_none}
use Rattle.leaving.proofs.Fates.{fated}
use Rattle.merging.proofs.Weaving.{merged-woven}

abbrev fate : Map → Map → Entry → Entry
fate m n e = run (waiting_in m) (run (waiting_in n) e)

-- some of the merge is drawn; es and fs are left, with keys from `low` on
pub record Drawing (m n : Map) (s t : List ℕ) (l k : Layout) (out : Sketch) (f g : ℕ) (x y : Cursor) : Type 0 where
  pub es : List Entry
  pub fs : List Entry
  pub low : ℕ
  pub ours : Ahead s l x es
  pub theirs : Ahead t k y fs
  pub inside : (e : Entry) → e ∈ es → e ∈ entries_in m
  pub within : (e : Entry) → e ∈ fs → e ∈ entries_in n
  pub above : (e : Entry) → e ∈ es → low ≤ e.key
  pub over : (e : Entry) → e ∈ fs → low ≤ e.key
  pub listed : Keyed s f l.end (key_number 0 low) (waiting_in m)
  pub others : Keyed t g k.end (key_number 0 low) (waiting_in n)
  pub few : out.sums.count + (length es + length fs) ≤ 2 * entry_limit
  pub grown : Grown (Sketches s t) (merged_entries m n) (sift stays (fate m n) (woven (seen_by m) (seen_by n) es fs)) out

pub drawing-start : {s t : List ℕ} {m n : Map} {l k : Layout} {out : Sketch} → Lies s m l → Lies t n k → out.sums.count ≡ 0 → Sketches s t [] out
    → Drawing m n s t l k out l.sixth k.sixth (start_of l) (start_of k)
drawing-start {s} {t} {m} {n} h i none p =
    let a = (fits-means m h.within.limits).count in
    let b = (fits-means n i.within.limits).count in
    record {
      es = entries_in m;
      fs = entries_in n;
      low = 0;
      ours = all-ahead h;
      theirs = all-ahead i;
      inside = λ e j. j;
      within = λ e j. j;
      above = λ e j. omega arith;
      over = λ e j. omega arith;
      listed = keyed-image h;
      others = keyed-image i;
      few = omega arith;
      grown = record {
        done = [];
        holds = p;
        parts = merged-woven (waiting_in m) (waiting_in n) (seen_by m) (seen_by n) (entries_in m)
            (entries_in n);
      };
    }

module _ {m n : Map} {s t : List ℕ} {l k : Layout} {out : Sketch} {f g : ℕ} {x y : Cursor} (d : Drawing m n s t l k out f g x y) where
  -- two entries' clocks fit into one
  pub fit-both : Lies s m l → Lies t n k → length (join_dots (seen_by m) (seen_by n)) ≤ dot_limit → (e z : Entry) → e ∈ d.es → z ∈ d.fs
      → length (join_dots (dots_in e) (dots_in z)) ≤ dot_limit
  fit-both h i few e z p q =
      let v = h.within.valid in
      let w = i.within.valid in
      both-fit v.clock w.clock (v.entries.each e (d.inside e p)) (w.entries.each z (d.within z q)) few

  module _ {r : Coming} (c : MergeComes s t l k (seen_by m) (seen_by n) x y d.es d.fs r) where
    abbrev key : ℕ
    key = r.x.key

    abbrev pub cut_key : List Dot
    cut_key = cuts_for (waiting_in m) key (cuts_for (waiting_in n) key c.keep)

    abbrev pub values_key : List Value
    values_key = sift alive (value_left (waiting_in m) (waiting_in n) key c.gone) (merge_values (values_in c.ours) (values_in c.theirs))

    abbrev one : Entry
    one = entry_as key c.keep (cut_values c.gone (merge_values (values_in c.ours) (values_in c.theirs)))

    its-fate : fate m n one ≡ entry_as key cut_key values_key
    its-fate = fated (waiting_in m) (waiting_in n) key c.gone c.keep _ (merge-each ValidValue _ _ c.here.fit.valid c.there.fit.valid)

    its-stay : stays (fate m n one) ≡ not (is_empty cut_key)
    its-stay = ap (λ e. not (is_empty (dots_in e))) its-fate ∙ ap (λ x. not (is_empty x)) (dots-in key cut_key values_key)

    -- what was drawn of the key, by the entry that lies there
    abbrev pub Drew : ℕ → List Dot → Sketched → Type 0
    Drew k gone sk =
        (clock_apart sk.own ≡ clock_of (cuts_for (waiting_in m) k (cuts_for (waiting_in n) k c.keep)))
        × (is_empty (cuts_for (waiting_in m) k (cuts_for (waiting_in n) k c.keep)) ≡ false
        → Draws s t key (cuts_for (waiting_in m) k (cuts_for (waiting_in n) k c.keep))
        (sift alive (value_left (waiting_in m) (waiting_in n) k gone) (merge_values (values_in c.ours) (values_in c.theirs))) sk)

    pub drew : {sk : Sketched} → Drew c.ours.key (dots_of r.gone) sk → Drew key c.gone sk
    drew {sk} h = subst (λ k. Drew k c.gone sk) (sym c.here.key) (subst (λ z. Drew c.ours.key z sk) (dots-of c.gone c.lost) h)

    abbrev Left : Sketch → Type 0
    Left sk = Grown (Sketches s t) (merged_entries m n) (sift stays (fate m n) (woven (seen_by m) (seen_by n) c.more c.others)) sk

    pub grown-goes : is_empty cut_key ≡ true → Left out
    grown-goes e = grown-same (Sketches s t) d.grown (ap (sift stays (fate m n)) c.first ∙ one-goes (fate m n) one _ (its-stay ∙ ap not e))

    pub grown-stays : is_empty cut_key ≡ false → {next : Sketch} → ((done : List Entry) → Sketches s t done out
        → Sketches s t (done ++ (entry_as key cut_key values_key ∷ [])) next) → Left next
    grown-stays e step =
        grown-on (Sketches s t) (entry_as key cut_key values_key ∷ []) d.grown
        (ap (sift stays (fate m n)) c.first ∙ one-stays (fate m n) one _ (its-stay ∙ ap not e)
        ∙ ap (λ z. z ∷ sift stays (fate m n) (woven (seen_by m) (seen_by n) c.more c.others)) its-fate)
        step

    pub drawing-on : {next : Sketch} {f' g' : ℕ} → Keyed s f' l.end (key_number 0 (key + 1)) (waiting_in m)
        → Keyed t g' k.end (key_number 0 (key + 1)) (waiting_in n) → next.sums.count ≤ out.sums.count + 1 → Left next
        → Drawing m n s t l k next f' g' r.x.next r.y.next
    drawing-on p q few h =
        let a = d.few in
        let b = c.fewer in
        record {
          es = c.more;
          fs = c.others;
          low = key + 1;
          ours = c.ahead;
          theirs = c.beside;
          inside = λ e i. d.inside e (c.inside e i);
          within = λ e i. d.within e (c.within e i);
          above = λ e i. omega (arith, c.above e i);
          over = λ e i. omega (arith, c.over e i);
          listed = p;
          others = q;
          few = omega arith;
          grown = h;
        }

  -- nothing is left on either side
  pub drawing-end : l.third ≤ x.own → k.third ≤ y.own → Sketches s t (merged_entries m n) out
  unfolding weave sift
  drawing-end p q =
      grown-end (Sketches s t) d.grown (ap₂ (λ u v. sift stays (fate m n) (woven (seen_by m) (seen_by n) u v)) (ahead_none d.ours p)
      (ahead_none d.theirs q))

-- clocks by their dots
pub comes-seen : {s t : List ℕ} {l k : Layout} {mine yours ours theirs : List Dot} {x y : Cursor} {es fs : List Entry} {r : Coming} → mine ≡ ours
    → yours ≡ theirs → MergeComes s t l k mine yours x y es fs r → MergeComes s t l k ours theirs x y es fs r
comes-seen {s} {t} {l} {k} {mine} {yours} {ours} {theirs} {x} {y} {es} {fs} {r} e f c = subst (λ z. MergeComes s t l k ours z x y es fs r) f
    (subst (λ z. MergeComes s t l k z yours x y es fs r) e c)
