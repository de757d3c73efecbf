-- The values of an entry drawn one after the other: those that stand, each cut.
use mathlib.Core.Path.{◌≡◌, refl, ap, ap₂, sym, ◌∙◌, subst}
use mathlib.Core.Bool.{Bool, true, false, cond}
use mathlib.Core.List.{List, [], ◌∷◌, ◌++◌, append-nil, append_assoc}
use Prim.Native.Nat.{ℕ, ◌+◌, ◌*◌, ◌-◌, ◌≤◌, ◌<◌}
use native.Mathlib.Omega.{arith}
use lib.ListN.{length, drop, get_or, length-take, length-drop}
use Rattle.listlaws.specs.Sift.{sift, those}
use Rattle.scan.proofs.Eachs.{decide}
use Rattle.clock.specs.declared.Dot.{Dot}
use Rattle.limits.specs.Limits.{dot_limit}
use Rattle.clock.specs.Dots.{dots_of, clock_of, cut_dots}
use Rattle.clock.specs.Lawful.{Lawful}
use Rattle.register.specs.declared.Value.{Value}
use Rattle.register.specs.Values.{no_value, alive, cut_value, cut_values}
use Rattle.entries.specs.declared.Entry.{Entry}
use Rattle.entries.specs.Model.{values_in}
use Rattle.records.specs.Records.{record_from}
use Rattle.clockimage.specs.Image.{content_of}
use Rattle.mapimage.specs.MapImage.{map_longest}
use Rattle.runs.specs.Run.{run_dots}
use Rattle.marks.specs.Marks.{picked}
use Rattle.marks.proofs.Picks.{picked-yes, picked-no, picked-end}
use Rattle.sketch.specs.declared.Source.{Source}
use Rattle.sketch.specs.declared.Sketched.{Sketched}
use Rattle.entrywalk.specs.declared.Lain.{Lain}
use Rattle.entrywalk.specs.Walking.{LiesAt}
use Rattle.walks.specs.Walk.{between}
use Rattle.sketch.specs.Drawn.{value_named, image_named, value_from, Placed, Draws}
use Rattle.entrywalk.proofs.Lying.{value-says, value-content, value-inside}

-- one value before others
cut-first : (c : List Dot) (v : Value) (l : List Value) → cut_values c (v ∷ l) ≡ those alive (cut_value c v ∷ []) ++ cut_values c l
unfolding cut_values sift
cut-first c v l = decide (alive (cut_value c v)) (λ t. rw t) (λ f. rw f)

-- some of the values are drawn behind l, and the rest, from place i on, is to come
pub record Drawing (s t : List ℕ) (key : ℕ) (d : List Dot) (l : List Value) (c : List Dot) (stand : List Bool) (vs : List Value) (i : ℕ)
    (out : Sketched) : Type 0 where
  pub done : List Value
  pub holds : Draws s t key d (l ++ done) out
  pub parts : cut_values c (picked stand vs) ≡ done ++ cut_values c (picked (drop i stand) (drop i vs))

module _ {s t : List ℕ} {key : ℕ} {d : List Dot} {l : List Value} (c : List Dot) (stand : List Bool) (vs : List Value) where
  pub drawing-start : {out : Sketched} → Draws s t key d l out → Drawing s t key d l c stand vs 0 out
  drawing-start h = record { done = []; holds = rw (append-nil l) h; parts = refl }

  module _ {i : ℕ} {out : Sketched} (h : Drawing s t key d l c stand vs i out) where
    pub drawing-no : i < length stand → i < length vs → get_or stand i false ≡ false → Drawing s t key d l c stand vs (i + 1) out
    drawing-no a b f = record {
      done = h.done;
      holds = h.holds;
      parts = h.parts
          ∙ ap (λ k. h.done ++ cut_values c k) (picked-no stand vs i no_value a b f);
    }

    pub drawing-yes : i < length stand → i < length vs → get_or stand i false ≡ true → (v : Value) → v ≡ cut_value c (get_or vs i no_value)
        → (next : Sketched)
        → ((m : List Value) → Draws s t key d m out → Draws s t key d (m ++ those alive (v ∷ [])) next) → Drawing s t key d l c stand vs (i + 1) next
    drawing-yes a b f v e next add = record {
      done = h.done ++ those alive (v ∷ []);
      holds = subst (λ m. Draws s t key d m next) (append_assoc l h.done (those alive (v ∷ []))) (add (l ++ h.done) h.holds);
      parts =
          h.parts ∙ ap (λ k. h.done ++ cut_values c k) (picked-yes stand vs i no_value a b f)
          ∙ ap (λ k. h.done ++ k) (cut-first c (get_or vs i no_value) _
          ∙ ap (λ x. those alive (x ∷ []) ++ cut_values c (picked (drop (i + 1) stand) (drop (i + 1) vs))) (sym e))
          ∙ sym (append_assoc h.done (those alive (v ∷ [])) (cut_values c (picked (drop (i + 1) stand) (drop (i + 1) vs))));
    }

    pub drawing-end : length vs ≤ i → Draws s t key d (l ++ cut_values c (picked stand vs)) out
    unfolding cut_values sift
    drawing-end n = subst (λ m. Draws s t key d (l ++ m) out) (sym (h.parts ∙ ap (λ k. h.done ++ cut_values c k) (picked-end stand vs i n)
        ∙ append-nil h.done)) h.holds

-- the source of a value that lies there
module _ {w : List ℕ} {e : Entry} {r : Lain} (h : LiesAt w e r) (j : ℕ) (k : j < length (values_in e)) where
  abbrev from : ℕ
  from = get_or r.starts j 0

  abbrev to : ℕ
  to = get_or r.starts (j + 1) 0

  pub source-asks : (c : List Dot) → length w ≤ map_longest → Lawful c
      → ((length w ≤ map_longest) × ((from ≤ to) × ((to ≤ from + dot_limit) ×
      ((to * 16 ≤ length w) × ((r.values.from + j) * 16 + 16 ≤ length w))))) × (Lawful (run_dots (between w from to)) × Lawful c)
  source-asks c n p =
      let run = h.runs.each j k in
      let a = run.order in
      let b = run.within in
      let q = value-says h j k in
      let few : to ≤ from + dot_limit = omega (arith, q.short, length-take (to * 16 - from * 16) (drop (from * 16) w), length-drop (from * 16) w) in
      ((n, (a, (few, (b, value-inside h j k)))), (q.lawful, p))

  pub source-value : (s t : List ℕ) (c : List Dot) (x : Source) → w ≡ cond x.second t s
      → ((x.value ≡ r.values.from + j) × ((x.from ≡ from) × (x.to ≡ to)))
      → picked x.marks (run_dots (between w from to)) ≡ cut_dots c (run_dots (between w from to))
      → (value_from s t x ≡ cut_value c (get_or (values_in e) j no_value)) × Placed (image_named s t x) x
  source-value s t c x q a m =
      subst (λ b. (value_named b x ≡ cut_value c (get_or (values_in e) j no_value)) × Placed b x) q (same, placed)
    where
      dots : picked x.marks (run_dots (between w x.from x.to)) ≡ cut_dots c (dots_of (get_or (values_in e) j no_value).clock)
      dots = ap₂ (λ f g. picked x.marks (run_dots (between w f g))) a.1.0 a.1.1 ∙ m ∙ ap (cut_dots c) (value-says h j k).dots

      content : content_of (record_from w (x.value * 16)) ≡ (get_or (values_in e) j no_value).value
      content = ap (λ n. content_of (record_from w (n * 16))) a.0 ∙ value-content h j k

      same : value_named w x ≡ cut_value c (get_or (values_in e) j no_value)
      same = λ i. record { clock = clock_of (dots i); value = content i }

      placed : Placed w x
      placed =
          let run = h.runs.each j k in
          let o = run.order in
          let b = run.within in
          let q = value-says h j k in
          let v = value-inside h j k in
          let f = a.1.0 in
          let g = a.1.1 in
          let u = a.0 in
          record {
            order = omega arith;
            few = omega (arith, q.short, length-take (to * 16 - from * 16) (drop (from * 16) w), length-drop (from * 16) w);
            run = omega arith;
            value = omega arith;
          }
