-- An update drawn key by key: what is drawn, and what is left of the map's entries and of the put.
use mathlib.Core.Path.{◌≡◌, refl, ap, ap₂, sym, subst, ◌∙◌}
use mathlib.Core.Bool.{Bool, true, false, not, ◌||◌}
use mathlib.Core.List.{List, [], ◌∷◌, ◌++◌}
use mathlib.Core.Logic.{⊎_elim}
use Prim.Native.Nat.{ℕ, ◌+◌, ◌*◌, ◌≤◌}
use native.Mathlib.Omega.{arith}
use lib.ListN.{length}
use Rattle.listlaws.specs.Order.{◌∈◌}
use Rattle.listlaws.specs.Sift.{sift}
use Rattle.clock.specs.declared.Dot.{Dot}
use Rattle.limits.specs.Limits.{dot_limit, entry_limit}
use Rattle.clock.specs.Dots.{clock_of, is_empty, add_dot}
use Rattle.register.specs.declared.Value.{Value}
use Rattle.register.specs.Values.{alive}
use Rattle.entries.specs.declared.Entry.{Entry}
use Rattle.entries.specs.declared.Update.{Update}
use Rattle.entries.specs.Model.{dots_in, entry_as}
use Rattle.entries.specs.Entries.{stays, run, put_entries}
use Rattle.entries.proofs.Finishing.{one-stays, one-goes}
use Rattle.entries.proofs.Packs.{dots-in}
use Rattle.map.specs.declared.Map.{Map}
use Rattle.map.specs.Model.{seen_by, entries_in, waiting_in}
use Rattle.map.specs.Valid.{UpdateWithin}
use Rattle.map.proofs.Accepts.{fits-means}
use Rattle.mapimage.specs.MapImage.{key_number}
use Rattle.walks.specs.declared.Layout.{Layout}
use Rattle.layout.specs.Whole.{Lies}
use Rattle.queued.specs.Queue.{cuts_for, Keyed}
use Rattle.entrywalk.specs.declared.Cursor.{Cursor}
use Rattle.sketch.specs.declared.Sketch.{Sketch}
use Rattle.sketch.specs.declared.Sketched.{Sketched}
use Rattle.entrywalk.specs.Walking.{Ahead}
use Rattle.sketch.specs.Drawn.{clock_apart, Draws, Sketches}
use Rattle.entrywalk.proofs.Stepping.{start_of, all-ahead}
use Rattle.leaving.specs.Left.{value_left}
use Rattle.leaving.proofs.Growing.{Grown, grown-on, grown-same, grown-end}
use Rattle.entrywalk.proofs.Fronts.{ahead_none}
use Rattle.updating.specs.declared.Next.{Next}
use Rattle.updating.specs.Updated.{entry_to, dots_to, values_to, coming, puts, UpdateComes}
use Rattle.updating.proofs.Values.{run-left, entry-to, valid_to, fits-old, fits-new}

abbrev pub updated_entries : Map → Update → List Entry
updated_entries m u = sift stays (run (waiting_in m)) (put_entries u (entries_in m))

-- some of the update is drawn; es are left, with keys from `low` on, and the put where it is not done
pub record Drawing (m : Map) (u : Update) (s t : List ℕ) (l : Layout) (last : ℕ) (out : Sketch) (f : ℕ) (x : Cursor) (done : Bool) : Type 0 where
  pub es : List Entry
  pub low : ℕ
  pub ahead : Ahead s l x es
  pub inside : (e : Entry) → e ∈ es → e ∈ entries_in m
  pub above : (e : Entry) → e ∈ es → low ≤ e.key
  pub goal : done ≡ false → low ≤ u.key
  pub listed : Keyed s f last (key_number 0 low) (waiting_in m)
  pub few : out.sums.count + (length es + puts done) ≤ 2 * entry_limit
  pub grown : Grown (Sketches s t) (updated_entries m u) (sift stays (run (waiting_in m)) (coming u done es)) out

pub drawing-start : {s t : List ℕ} {m : Map} (u : Update) {l : Layout} {first last : ℕ} {out : Sketch} → Lies s m l
    → Keyed s first last 0 (waiting_in m) → out.sums.count ≡ 0 → Sketches s t [] out
    → Drawing m u s t l last out first (start_of l) false
drawing-start {s} {t} {m} u h keys none p =
    let a = (fits-means m h.within.limits).count in
    record {
      es = entries_in m;
      low = 0;
      ahead = all-ahead h;
      inside = λ e j. j;
      above = λ e j. omega arith;
      goal = λ t. omega arith;
      listed = keys;
      few = omega arith;
      grown = record { done = []; holds = p; parts = refl };
    }

module _ {m : Map} {u : Update} {s t : List ℕ} {l : Layout} {last : ℕ} {out : Sketch} {f : ℕ} {x : Cursor} {done : Bool}
    (d : Drawing m u s t l last out f x done) where
  module _ {r : Next} (c : UpdateComes s l u x done d.es r) where
    abbrev key : ℕ
    key = r.entry.key

    -- the clock that the key's entry comes to is within the limit
    pub fits_next : Lies s m l → length (add_dot (seen_by m) u.dot) ≤ dot_limit → length (dots_to u r.put c.entry) ≤ dot_limit
    fits_next h few =
        let v = h.within.valid in
        ⊎_elim (λ (i : c.entry ∈ d.es). fits-old u v.clock few (v.entries.each c.entry (d.inside c.entry i)) r.put c.lies.short)
        (λ (q : c.entry ≡ entry_as u.key [] []). rw q (fits-new u v.clock few u.key r.put)) c.known

    abbrev pub cut_key : List Dot
    cut_key = cuts_for (waiting_in m) key (dots_to u r.put c.entry)

    abbrev pub values_key : List Value
    values_key = sift alive (value_left (waiting_in m) [] key []) (values_to u r.put c.entry)

    -- what was drawn of the key, by the entry that lies there
    abbrev pub Drew : ℕ → Sketched → Type 0
    Drew k sk =
        (clock_apart sk.own ≡ clock_of (cuts_for (waiting_in m) k (dots_to u r.put c.entry)))
        × (is_empty (cuts_for (waiting_in m) k (dots_to u r.put c.entry)) ≡ false
        → Draws s t key (cuts_for (waiting_in m) k (dots_to u r.put c.entry))
        (sift alive (value_left (waiting_in m) [] k []) (values_to u r.put c.entry)) sk)

    pub drew : {sk : Sketched} → Drew c.entry.key sk → Drew key sk
    drew {sk} h = subst (λ k. Drew k sk) (sym c.lies.key) h

    abbrev Left : Sketch → Type 0
    Left sk = Grown (Sketches s t) (updated_entries m u) (sift stays (run (waiting_in m)) (coming u (done || r.put) c.more)) sk

    module _ (i : UpdateWithin u) where
      abbrev one : Entry
      one = entry_to u r.put c.entry

      its-fate : run (waiting_in m) one ≡ entry_as key cut_key values_key
      its-fate =
          let e = entry-to u c.lies.fit r.put
          ∙ ap (λ k. entry_as k (dots_to u r.put c.entry) (values_to u r.put c.entry)) (sym c.lies.key) in
          ap (run (waiting_in m)) e ∙ run-left (waiting_in m) key _ _ (valid_to u c.lies.fit i r.put)

      its-stay : stays (run (waiting_in m) one) ≡ not (is_empty cut_key)
      its-stay = ap (λ e. not (is_empty (dots_in e))) its-fate ∙ ap (λ x. not (is_empty x)) (dots-in key cut_key values_key)

      pub grown-goes : is_empty cut_key ≡ true → Left out
      grown-goes e = grown-same (Sketches s t) d.grown
          (ap (sift stays (run (waiting_in m))) c.first ∙ one-goes (run (waiting_in m)) one _ (its-stay ∙ ap not e))

      pub grown-stays : is_empty cut_key ≡ false → {next : Sketch}
          → ((done : List Entry) → Sketches s t done out → Sketches s t (done ++ (entry_as key cut_key values_key ∷ [])) next) → Left next
      grown-stays e step =
          grown-on (Sketches s t) (entry_as key cut_key values_key ∷ []) d.grown
          (ap (sift stays (run (waiting_in m))) c.first ∙ one-stays (run (waiting_in m)) one _ (its-stay ∙ ap not e)
          ∙ ap (λ z. z ∷ sift stays (run (waiting_in m)) (coming u (done || r.put) c.more)) its-fate)
          step

    pub drawing-on : {next : Sketch} {g : ℕ} → Keyed s g last (key_number 0 (key + 1)) (waiting_in m) → next.sums.count ≤ out.sums.count + 1
        → Left next
        → Drawing m u s t l last next g r.entry.next (done || r.put)
    drawing-on p few h =
        let a = d.few in
        let b = c.fewer in
        record {
          es = c.more;
          low = key + 1;
          ahead = c.ahead;
          inside = λ e i. d.inside e (c.inside e i);
          above = λ e i. omega (arith, c.above e i);
          goal = λ t. omega (arith, c.below t);
          listed = p;
          few = omega arith;
          grown = h;
        }

-- nothing is left, and the put is done
pub drawing-end : {m : Map} {u : Update} {s t : List ℕ} {l : Layout} {last : ℕ} {out : Sketch} {f : ℕ} {x : Cursor} {done : Bool}
    → Drawing m u s t l last out f x done → l.third ≤ x.own → done ≡ true → Sketches s t (updated_entries m u) out
unfolding sift
drawing-end {m} {u} {s} {t} d p q = grown-end (Sketches s t) d.grown
    (ap₂ (λ b k. sift stays (run (waiting_in m)) (coming u b k)) q (ahead_none d.ahead p))
