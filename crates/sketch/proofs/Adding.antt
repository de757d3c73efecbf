-- One value more in an entry of a sketch, and one entry more in a sketch.
use mathlib.Core.Path.{◌≡◌, refl, ap, sym, ◌∙◌, subst}
use mathlib.Core.Bool.{Bool, true, false, not, ◌||◌}
use mathlib.Core.Logic.{⊎_elim}
use mathlib.Core.List.Memᴰ
use mathlib.Core.List.{List, [], ◌∷◌, ◌++◌, map, map-append, append-nil}
use Prim.Native.Nat.{ℕ, suc, ◌+◌, ◌*◌, ◌-◌, ◌≤◌, ◌<◌}
use native.Mathlib.Omega.{arith}
use lib.Dec.{eqb, ltb}
use lib.ListN.{length, take, set}
use lib.Seq.{take-suc-set}
use borrow.Author.Tests.{ne_eqb, lt-ltb, ltb-false}
use Rattle.listlaws.specs.First.{some, first_in}
use Rattle.listlaws.specs.Sift.{sift, those}
use Rattle.listlaws.specs.Order.{◌∈◌}
use Rattle.listlaws.proofs.Pads.{take-pad, length-snoc}
use Rattle.listlaws.proofs.Tally.{some-snoc, both-pass}
use Rattle.clock.specs.declared.Dot.{Dot}
use Rattle.limits.specs.Limits.{dot_limit, value_limit, entry_limit}
use Rattle.clock.specs.Dots.{dots_of, is_empty}
use Rattle.clock.proofs.Packs.{dots-of}
use Rattle.register.specs.declared.Value.{Value}
use Rattle.register.specs.Values.{no_value, alive}
use Rattle.entries.specs.declared.Entry.{Entry}
use Rattle.entries.specs.Model.{entry_as, dots_in, values_in}
use Rattle.entries.specs.Steps.{overfull}
use Rattle.listlaws.specs.Fold.{total_of}
use Rattle.answers.specs.Sizes.{entry_size}
use Rattle.marks.specs.Marks.{marks_set}
use Rattle.sketch.specs.declared.Source.{Source}
use Rattle.sketch.specs.declared.Sketched.{Sketched}
use Rattle.sketch.specs.declared.Sums.{Sums}
use Rattle.sketch.specs.Drawn.{value_named, image_named, value_from, Placed, sources_of, source_size, clock_apart, drawn, Ready, Draws, Summed}
use Rattle.sketch.specs.Drawn.{Sketches}
use Rattle.sketch.proofs.Counts.{value-size, entry-size, total-snoc}

-- an element behind the last that is in use
pub used-more : {A : Type 0} (n : ℕ) (l : List A) (a : A) → n < length l → take (n + 1) (set l n a) ≡ take n l ++ (a ∷ [])
used-more n l a h = let e : n + 1 ≡ suc n = omega arith in rw e (take-suc-set l n a h)

each_more : {A : Type 0} (P : A → Type 0) (l : List A) (a : A) → ((x : A) → x ∈ l → P x) → P a → (x : A) → x ∈ (l ++ (a ∷ [])) → P x
each_more P l a f p x i = ⊎_elim (λ j. f x j) (λ j. subst P (sym (Memᴰ.eq_of_singleton j)) p) (Memᴰ.append_cases l i)

-- some mark is set where not none is
some-set : (l : List Bool) → some (λ b. b) l ≡ not (eqb (marks_set l) 0)
unfolding first_in sift
some-set [] = refl
some-set (true ∷ l) = sym (ap not (ne_eqb (suc (marks_set l)) 0 (λ e. omega arith)))
some-set (false ∷ l) = some-set l

-- a value of which a dot is left
left-alive : {s : List ℕ} (x : Source) → Placed s x → alive (value_named s x) ≡ some (λ b. b) (take (x.to - x.from) x.marks)
unfolding is_empty
left-alive {s} x h =
    let m = marks_set (take (x.to - x.from) x.marks) in
    let n : length (dots_of (value_named s x).clock) ≡ m = omega (arith, value-size x h) in
    ap (λ k. not (eqb k 0)) n ∙ sym (some-set (take (x.to - x.from) x.marks))

module _ {s t : List ℕ} {key : ℕ} {d : List Dot} {l : List Value} {k : Sketched} (h : Draws s t key d l k) (x : Source)
    (p : Placed (image_named s t x) x) where
  pub add_none : {b : Bool} → b ≡ some (λ b. b) (take (x.to - x.from) x.marks) → b ≡ false
      → Draws s t key d (l ++ those alive (value_from s t x ∷ [])) k
  unfolding sift
  add_none e f = rw (left-alive x p ∙ sym e ∙ f, append-nil l) h

  module _ {b : Bool} (e : b ≡ some (λ b. b) (take (x.to - x.from) x.marks)) (f : b ≡ true) where
    kept : l ++ those alive (value_from s t x ∷ []) ≡ l ++ (value_from s t x ∷ [])
    unfolding sift
    kept = rw (left-alive x p ∙ sym e ∙ f)

    more : k.len + 1 ≡ length (l ++ (value_from s t x ∷ []))
    more = ap (λ n. n + 1) h.many ∙ sym (length-snoc l (value_from s t x))

    pub add-one : length k.sources ≡ 4 → k.len < 4
        → Draws s t key d (l ++ those alive (value_from s t x ∷ []))
        (record { key = k.key; own = k.own; sources = set k.sources k.len x; len = k.len + 1 })
    add-one room few =
        rw kept
        (record {
          named = h.named;
          clock = h.clock;
          many = more;
          values = λ n.
              let v = h.values (omega (arith, h.many)) in
              let u = used-more k.len k.sources x (omega arith) in (
                ap (map (value_from s t)) u ∙ map-append (value_from s t) (sources_of k) (x ∷ []) ∙ ap (λ y. y ++ (value_from s t x ∷ [])) v.0,
                record { each = rw u (each_more (λ y. Placed (image_named s t y) y) (sources_of k) x v.1.each p) },
              );
        })

    pub add-over : 4 ≤ k.len → Draws s t key d (l ++ those alive (value_from s t x ∷ []))
        (record { key = k.key; own = k.own; sources = k.sources; len = k.len + 1 })
    add-over full = rw kept (record { named = h.named; clock = h.clock; many = more; values = λ n. absurd (omega (arith, more)) })

-- the entry that is drawn
drawn-is : {s t : List ℕ} {key : ℕ} {d : List Dot} {l : List Value} {k : Sketched} → Draws s t key d l k → length l ≤ value_limit
    → drawn s t k ≡ entry_as key d l
drawn-is {d = d} h n = let e = (h.values n).0 in let c = dots-of d h.clock in λ i. entry_as (h.named i) (c i) (e i)

-- the sums over one entry more
module _ {s t : List ℕ} {l : List Entry} {n : Sums} (h : Summed l n) {key : ℕ} {d : List Dot} {vs : List Value} {k : Sketched}
    (g : Draws s t key d vs k) where
  abbrev one : Entry
  one = entry_as key d vs

  full : ltb 4 k.len ≡ overfull one
  full = ap (ltb 4) (g.many ∙ ap length (sym (take-pad no_value value_limit vs)))

  counted : n.count + 1 ≡ length (l ++ (one ∷ []))
  counted = ap (λ n. n + 1) h.count ∙ sym (length-snoc l one)

  wider : (n.wide || ltb 4 k.len) ≡ some overfull (l ++ (one ∷ []))
  wider = rw (h.wide, full) (sym (some-snoc overfull l one))

  -- what was within the limits with one more was so before, and that one is
  pub within_both : length (l ++ (one ∷ [])) ≤ entry_limit → some overfull (l ++ (one ∷ [])) ≡ false
      → (length l ≤ entry_limit) × ((some overfull l ≡ false) × (length vs ≤ value_limit))
  within_both m thin =
      let less : length l < entry_limit = omega (arith, m, length-snoc l one) in
      let b = both-pass {n = length l} {k = entry_limit} (some overfull l) (overfull one)
      (rw (lt-ltb (length l) entry_limit less, sym (some-snoc overfull l one) ∙ thin)) in
      (omega arith, (b.1, omega (arith, ltb-false 4 (length (values_in one)) b.2, ap length (take-pad no_value value_limit vs))))

  pub summed-over : entry_limit ≤ n.count
      → Summed (l ++ (one ∷ [])) (record { count = n.count + 1; wide = n.wide || ltb 4 k.len; dots = n.dots; others = n.others })
  summed-over many = record {
    count = counted;
    wide = wider;
    dots = λ m thin. absurd (omega (arith, many, m, counted));
    records = λ m thin. absurd (omega (arith, many, m, counted));
    few = λ m. absurd (omega (arith, many, m));
    room = h.room;
  }

  module _ {a b : ℕ} (p : a ≡ length (dots_of (clock_apart k.own))) (q : (s t : List ℕ) → Ready s t k → b ≡ total_of source_size (sources_of k)) where
    own-dots : a ≡ length (dots_in one)
    own-dots = p ∙ ap (λ c. length (dots_of c)) g.clock ∙ ap length (dots-of d refl) ∙ sym (ap length (dots-of d refl))

    own-records : length vs ≤ value_limit → a + b ≡ entry_size one
    own-records short =
        let r = (g.values short).1 in
        omega (arith, p, q s t r, entry-size k r, ap entry_size (drawn-is g short))

    pub summed-one : a ≤ dot_limit → b ≤ value_limit * (1 + dot_limit) → n.count < entry_limit
        → Summed (l ++ (one ∷ [])) (record { count = n.count + 1; wide = n.wide || ltb 4 k.len; dots = n.dots + a; others = n.others + b })
    summed-one small thin less =
        let f = h.few (omega arith) in record {
          count = counted;
          wide = wider;
          dots = λ m w.
              let x = within_both m w in
              omega (arith, h.dots x.0 x.1.0, own-dots, total-snoc (λ e. length (dots_in e)) l one);
          records = λ m w.
              let x = within_both m w in
              omega (arith, h.records x.0 x.1.0, own-records x.1.1, total-snoc entry_size l one);
          few = λ m. omega (arith, f, small, thin);
          room = omega (arith, f, small, thin, less);
        }

-- no entry yet
pub sketch-none : {s t : List ℕ} {items : List Sketched} {n : Sums} → n.count ≡ 0 → Summed [] n
    → Sketches s t [] (record { items = items; sums = n })
sketch-none {s} {t} {items} {n} e h = record {
  sums = h;
  items = λ m thin.
      let u : take n.count items ≡ [] = rw e refl in
      (ap (map (drawn s t)) u, record { each = rw u (λ x i. absurd (Memᴰ.not-nil i)) });
}

module _ {s t : List ℕ} {l : List Entry} {items : List Sketched} {n : Sums} (h : Sketches s t l (record { items = items; sums = n })) {key : ℕ}
    {d : List Dot} {vs : List Value} {k : Sketched} (g : Draws s t key d vs k) {m : Sums} (e : Summed (l ++ (entry_as key d vs ∷ [])) m)
    (next : m.count ≡ n.count + 1) where
  pub push-one : length items ≡ entry_limit → n.count < entry_limit
      → Sketches s t (l ++ (entry_as key d vs ∷ [])) (record { items = set items n.count k; sums = m })
  push-one room few = record {
    sums = e;
    items = λ i thin.
        let x = within_both h.sums g i thin in
        let v = h.items x.0 x.1.0 in
        let more = used-more n.count items k (omega arith) in
        let u : take m.count (set items n.count k) ≡ take n.count items ++ (k ∷ []) = rw next more in (
          ap (map (drawn s t)) u ∙ map-append (drawn s t) (take n.count items) (k ∷ []) ∙ (λ i. v.0 i ++ (drawn-is g x.1.1 i ∷ [])),
          record { each = rw u (each_more (Ready s t) (take n.count items) k v.1.each (g.values x.1.1).1) },
        );
  }

  pub push-over : entry_limit ≤ n.count → Sketches s t (l ++ (entry_as key d vs ∷ [])) (record { items = items; sums = m })
  push-over many = record { sums = e; items = λ i thin. absurd (omega (arith, e.count, next, many, i)) }
