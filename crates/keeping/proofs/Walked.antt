-- A loop that walks the clocks of two entries side by side, with both maps' clocks beside them, and packs what is kept and what is deleted.
use mathlib.Core.Path.{◌≡◌, refl, ap, sym, ◌∙◌}
use mathlib.Core.List.{List, []}
use Prim.Native.Nat.{ℕ, ◌+◌, ◌≤◌, ◌<◌}
use native.Mathlib.Numerals.{add-one}
use native.Mathlib.Omega.{arith}
use borrow.Author.Tests.{lt-ltb, le-ltb}
use lib.Dec.{ltb}
use lib.ListN.{length, take, drop, get_or, set, length-drop}
use lib.Seq.{take-length, drop-cons}
use Rattle.listlaws.specs.Weave.{weave}
use Rattle.listlaws.proofs.Beside.{beside-start}
use Rattle.listlaws.proofs.Rests.{drop-end}
use Rattle.listlaws.proofs.Sifting.{Sifting, sifting-keep, sifting-drop, sifting-room, sifting-end}
use Rattle.listlaws.proofs.Sifts.{length-sift}
use Rattle.clock.specs.declared.Dot.{Dot}
use Rattle.clock.specs.declared.Clock.{Clock}
use Rattle.limits.specs.Limits.{dot_limit}
use Rattle.clock.specs.Dots.{no_dot, dots_of, clock_of, counter_in, beyond, cut_dots, join_dots}
use Rattle.clock.specs.Lawful.{Lawful}
use Rattle.clock.proofs.Packs.{pushed}
use Rattle.clock.proofs.Counters.{dot_in}
use Rattle.clock.proofs.Joins.{lawful-join}
use Rattle.clock.proofs.Walks.{Walk}
use Rattle.entries.specs.Entries.{keep_dots}
use Rattle.keeping.specs.declared.Meeting.{Meeting}
use Rattle.keeping.specs.declared.Sought.{Sought}
use Rattle.keeping.specs.Keeping.{kept_counter, sought}
use Rattle.keeping.proofs.Seeks.{sees}
use Rattle.keeping.proofs.Meets.{Meets, dot_met}
use Rattle.keeping.proofs.Counters.{kept-counter, keep-by-counters}

module _ (x y mine yours : Clock) where
  -- the dots of both entries, and those that are kept
  abbrev pub whole : List Dot
  whole = join_dots (dots_of x) (dots_of y)

  abbrev pub kept : List Dot
  kept = keep_dots (dots_of mine) (dots_of yours) (dots_of x) (dots_of y)

  -- t dots of the whole are passed
  pub record Walked (i j p q t : ℕ) : Type 0 where
    pub rest : drop t whole ≡ join_dots (drop i (dots_of x)) (drop j (dots_of y))
    pub ours : Walk x.dots x.len i whole (length whole) t
    pub theirs : Walk y.dots y.len j whole (length whole) t
    pub first : Walk mine.dots mine.len p whole (length whole) t
    pub second : Walk yours.dots yours.len q whole (length whole) t

  abbrev pub Keeps : ℕ → Clock → Type 0
  Keeps t c = Sifting clock_of (λ d. ltb 0 d.counter) (λ d. dot_in kept d.actor) [] whole (length whole) t c

  abbrev pub Deletes : ℕ → Clock → Type 0
  Deletes t c = Sifting clock_of (beyond kept) (λ d. d) [] whole (length whole) t c

  -- the next dot of the whole, and the walk with it passed
  pub record Step (t : ℕ) (r : Meeting) (u v : Sought) : Type 0 where
    pub used : t < length (take (length whole) whole)
    pub dot : get_or whole t no_dot ≡ dot_met r
    pub counter : kept_counter r.ours r.theirs u.counter v.counter ≡ counter_in kept (get_or whole t no_dot).actor
    pub on : Walked r.i r.j u.next v.next (t + 1)

  module _ (h : Lawful (dots_of x)) (k : Lawful (dots_of y)) where
    pub walked_start : Lawful (dots_of mine) → Lawful (dots_of yours) → Walked 0 0 0 0 0
    walked_start f g =
        let all = rw (← take-length whole) at (lawful-join h k).rising in
        record {
          rest = refl;
          ours = beside-start h.rising all;
          theirs = beside-start k.rising all;
          first = beside-start f.rising all;
          second = beside-start g.rising all;
        }

    pub walked_step : {i j p q t : ℕ} {r : Meeting} {u v : Sought} → Walked i j p q t → Meets (dots_of x) (dots_of y) i j r
        → u ≡ sought r.actor p (drop p (dots_of mine)) → v ≡ sought r.actor q (drop q (dots_of yours)) → Step t r u v
    walked_step {i} {j} {p} {q} {t} {r} {u} {v} g m e f =
        let opened = g.rest ∙ m.head in
        let some : t < length whole = omega (arith, length-drop t whole, ap length opened) in
        let parts = sym (drop-cons whole t no_dot some) ∙ opened in
        let dot : get_or whole t no_dot ≡ dot_met r = ap (λ l. get_or l 0 no_dot) parts in
        let used : t < length (take (length whole) whole) = rw (take-length whole) some in
        let at = sym (ap (λ d. d.actor) dot) in
        let a = sees used g.ours (m.ours ∙ ap (λ z. sought z i (drop i (dots_of x))) at) in
        let b = sees used g.theirs (m.theirs ∙ ap (λ z. sought z j (drop j (dots_of y))) at) in
        let c = sees used g.first (e ∙ ap (λ z. sought z p (drop p (dots_of mine))) at) in
        let d = sees used g.second (f ∙ ap (λ z. sought z q (drop q (dots_of yours))) at) in
        record {
          used = used;
          dot = dot;
          counter = rw (a.counter, b.counter, c.counter, d.counter)
              (sym (kept-counter (dots_of mine) (dots_of yours) h k (get_or whole t no_dot).actor));
          on = record {
            rest = rw (add-one t) (ap (drop 1) parts);
            ours = a.walk;
            theirs = b.walk;
            first = c.walk;
            second = d.walk;
          };
        }

    pub keeps-end : {t : ℕ} {c : Clock} → Keeps t c → length whole ≤ t → c ≡ clock_of kept
    keeps-end g n =
        sifting-end g (rw (take-length whole) n) ∙ ap clock_of (rw (take-length whole) (keep-by-counters (dots_of mine) (dots_of yours) h k))

  pub deletes-end : {t : ℕ} {c : Clock} → Deletes t c → length whole ≤ t → c ≡ clock_of (cut_dots kept whole)
  unfolding cut_dots
  deletes-end g n = sifting-end g (rw (take-length whole) n) ∙ rw (take-length whole)

  -- both entries are used up
  pub walked_end : {i j p q t : ℕ} → Walked i j p q t → length (dots_of x) ≤ i → length (dots_of y) ≤ j → length whole ≤ t
  unfolding join_dots weave
  walked_end {i} {j} {t = t} g h k =
      let e : drop t whole ≡ [] = g.rest ∙ rw (drop-end (dots_of x) i h, drop-end (dots_of y) j k) in
      omega (arith, length-drop t whole, ap length e)

  -- what one step packs
  module _ {t : ℕ} {r : Meeting} {u v : Sought} (s : Step t r u v) {n : ℕ} (e : n ≡ kept_counter r.ours r.theirs u.counter v.counter) where
    told : n ≡ counter_in kept (get_or whole t no_dot).actor
    told = e ∙ s.counter

    module _ {c : Clock} (g : Keeps t c) where
      value : ◌≡◌ {A = Dot} (record { actor = r.actor; counter = n }) (dot_in kept (get_or whole t no_dot).actor)
      value = λ i. record { actor = sym (ap (λ d. d.actor) s.dot) i; counter = told i }

      pub keeps-room : 0 < n → length whole ≤ dot_limit → c.len < dot_limit
      keeps-room p few =
          let z = sifting-room no_dot g s.used value (lt-ltb 0 n p) in
          omega (
            arith,
            ap (λ w. w.len) z.1,
            z.2,
            length-sift (λ d. ltb 0 d.counter) (λ d. dot_in kept d.actor)
                (take (length whole) whole),
            ap length (take-length whole),
          )

      pub keeps_on : 0 < n → length whole ≤ dot_limit
          → Keeps (t + 1) (record { dots = set c.dots c.len (record { actor = r.actor; counter = n }); len = c.len + 1 })
      keeps_on p few = sifting-keep no_dot g s.used value (lt-ltb 0 n p) (λ l f. pushed l _ f (omega (arith, ap (λ w. w.len) f, keeps-room p few)))

      pub keeps-off : n ≤ 0 → Keeps (t + 1) c
      keeps-off p = sifting-drop no_dot g s.used value (le-ltb 0 n p)

    module _ {c : Clock} (g : Deletes t c) {all : ℕ} (f : all ≡ (dot_met r).counter) where
      whose : ◌≡◌ {A = Dot} (record { actor = r.actor; counter = all }) (get_or whole t no_dot)
      whose = (λ i. record { actor = r.actor; counter = f i }) ∙ sym s.dot

      own : n ≡ counter_in kept r.actor
      own = told ∙ ap (λ d. counter_in kept d.actor) s.dot

      pub deletes-room : n < all → length whole ≤ dot_limit → c.len < dot_limit
      deletes-room p few =
          let z = sifting-room no_dot g s.used whose (lt-ltb (counter_in kept r.actor) all (omega (arith, own))) in
          omega (arith, ap (λ w. w.len) z.1, z.2, length-sift (beyond kept) (λ d. d) (take (length whole) whole), ap length (take-length whole))

      pub deletes-on : n < all → length whole ≤ dot_limit
          → Deletes (t + 1) (record { dots = set c.dots c.len (record { actor = r.actor; counter = all }); len = c.len + 1 })
      deletes-on p few =
          sifting-keep no_dot g s.used whose (lt-ltb (counter_in kept r.actor) all (omega (arith, own)))
          (λ l w. pushed l _ w (omega (arith, ap (λ z. z.len) w, deletes-room p few)))

      pub deletes-off : all ≤ n → Deletes (t + 1) c
      deletes-off p = sifting-drop no_dot g s.used whose (le-ltb (counter_in kept r.actor) all (omega (arith, own)))
