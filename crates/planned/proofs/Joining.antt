-- A loop that walks two lists of waiting removals side by side, and plans those that stay.
use mathlib.Core.Path.{◌≡◌, refl, ap, sym, ◌∙◌, subst}
use mathlib.Core.Bool.{Bool, true, false, not, cond, ◌&&◌, ◌||◌}
use mathlib.Core.List.{List, [], ◌∷◌, map}
use Prim.Native.Nat.{ℕ, zero, suc, ◌+◌, ◌-◌, ◌≤◌, ◌<◌}
use native.Mathlib.Numerals.{add-one}
use native.Mathlib.Omega.{arith}
use borrow.Author.Tests.{ltb-true, ltb-false, eqb-true, eqb-false}
use lib.Dec.{ltb, eqb}
use lib.ListN.{length, drop, get_or, set, replicate, length-drop}
use lib.Seq.{drop-cons, get_or-set_same, get_or-set_other}
use Rattle.listlaws.specs.Order.{Ascending}
use Rattle.listlaws.specs.Sift.{sift, those}
use Rattle.listlaws.specs.Weave.{weave}
use Rattle.listlaws.proofs.Orders.{apart}
use Rattle.listlaws.proofs.Rests.{drop-end, weave-first-left, weave-second-left}
use Rattle.listlaws.proofs.Those.{those-ascends}
use Rattle.listlaws.proofs.Weaves.{weave-map}
use Rattle.scan.proofs.Eachs.{decide}
use Rattle.clock.specs.declared.Dot.{Dot}
use Rattle.clock.specs.Dots.{is_empty, covers, cut_dots}
use Rattle.clock.proofs.Covers.{empty-covered}
use Rattle.clock.proofs.Within.{nil-empty, some-uncovered}
use Rattle.removals.specs.declared.Removal.{Removal}
use Rattle.limits.specs.Limits.{waiting_limit}
use Rattle.removals.specs.Model.{no_removal, under_of}
use Rattle.removals.specs.Waits.{clock_before, removal_before, waits, unite, unite_all}
use Rattle.removals.proofs.ClockOrder.{before-strict, before_same}
use Rattle.removals.proofs.Waits.{waits-covers, waits-same}
use Rattle.removals.proofs.Uniting.{unite-those, unite-ascends}
use Rattle.oneimagelaws.proofs.Stands.{Place, first, later, place-get, place-reads, place-below}
use Rattle.planned.specs.declared.Held.{Held}
use Rattle.planned.specs.Planned.{no_held, HeldLies}
use Rattle.planned.specs.Left.{left_in, one_if, RunWithin}
use Rattle.planned.specs.Seats.{seat_of, emptied_where_seen}
use Rattle.planned.proofs.Seats.{Seated, seated-start, seated-on, seated-not, seat-place}
use Rattle.planned.proofs.Lefts.{lies-first, lies-second}
use Rattle.planned.proofs.Going.{clocks-rise}
use Rattle.planned.proofs.Leaving.{changed-at, emptied-seen, emptied-not}

-- the clocks of what is left of two lists, those of equal ones once
abbrev pub woven : List Removal → List Removal → ℕ → ℕ → List (List Dot)
woven w v i j = weave removal_before under_of under_of (λ x y. under_of x) (drop i w) (drop j v)

-- a clock has not seen all of another
abbrev pub stays : List Dot → List Dot → Bool
stays seen c = not (is_empty (cut_dots seen c))

next_of : (w : List Removal) (i : ℕ) → i < length w → drop i w ≡ get_or w i no_removal ∷ drop (i + 1) w
next_of w i h = rw add-one (drop-cons w i no_removal h)

-- what comes next of two lists, from which of them
pub record Turned (w v : List Removal) (i j : ℕ) (f g : Bool) (c : List Dot) : Type 0 where
  pub ahead : woven w v i j ≡ c ∷ woven w v (i + one_if f) (j + one_if g)
  pub first : f ≡ true → (i < length w) × (c ≡ under_of (get_or w i no_removal))
  pub second : g ≡ true → (j < length v) × (c ≡ under_of (get_or v j no_removal))
  pub other : f ≡ false → j < length v
  pub onward : 0 < one_if f + one_if g

module _ (w v : List Removal) (i j : ℕ) where
  abbrev ours : List Dot
  ours = under_of (get_or w i no_removal)

  abbrev theirs : List Dot
  theirs = under_of (get_or v j no_removal)

  first_alone : i < length w → length v ≤ j → woven w v i j ≡ ours ∷ woven w v (i + 1) j
  first_alone h k =
      weave-first-left removal_before under_of under_of (λ x y. under_of x) (drop i w) v j k ∙ ap (map under_of) (next_of w i h)
      ∙ ap (λ l. ours ∷ l) (sym (weave-first-left removal_before under_of under_of (λ x y. under_of x) (drop (i + 1) w) v j k))

  second-alone : length w ≤ i → j < length v → woven w v i j ≡ theirs ∷ woven w v i (j + 1)
  second-alone h k =
      weave-second-left removal_before under_of under_of (λ x y. under_of x) w (drop j v) i h ∙ ap (map under_of) (next_of v j k)
      ∙ ap (λ l. theirs ∷ l) (sym (weave-second-left removal_before under_of under_of (λ x y. under_of x) w (drop (j + 1) v) i h))

  module _ (h : i < length w) (k : j < length v) where
    go-first : clock_before ours theirs ≡ true → woven w v i j ≡ ours ∷ woven w v (i + 1) j
    unfolding weave
    go-first t = rw (next_of w i h, next_of v j k, t)

    go-second : clock_before ours theirs ≡ false → clock_before theirs ours ≡ true → woven w v i j ≡ theirs ∷ woven w v i (j + 1)
    unfolding weave
    go-second t u = rw (next_of w i h, next_of v j k, t, u)

    go_both : clock_before ours theirs ≡ false → clock_before theirs ours ≡ false → woven w v i j ≡ ours ∷ woven w v (i + 1) (j + 1)
    unfolding weave
    go_both t u = rw (next_of w i h, next_of v j k, t, u)

    meet : (b c : Bool) → clock_before ours theirs ≡ b → clock_before theirs ours ≡ c
        → {f g : Bool} → f ≡ not c → g ≡ not b → Turned w v i j f g (cond f ours theirs)
    meet true true t u e q = apart (sym u ∙ before-strict ours theirs t)
    meet true false t u e q = rw (e, q) (record {
      ahead = same (go-first t);
      first = λ z. (h, refl);
      second = λ z. apart (sym z);
      other = λ z. apart z;
      onward = omega arith;
    })
      where
        same : woven w v i j ≡ ours ∷ woven w v (i + 1) j → woven w v i j ≡ ours ∷ woven w v (i + 1) (j + 0)
        same z = let y : j ≡ j + 0 = omega arith in z ∙ ap (λ n. ours ∷ woven w v (i + 1) n) y
    meet false true t u e q = rw (e, q) (record {
      ahead = same (go-second t u);
      first = λ z. apart (sym z);
      second = λ z. (k, refl);
      other = λ z. k;
      onward = omega arith;
    })
      where
        same : woven w v i j ≡ theirs ∷ woven w v i (j + 1) → woven w v i j ≡ theirs ∷ woven w v (i + 0) (j + 1)
        same z = let y : i ≡ i + 0 = omega arith in z ∙ ap (λ n. theirs ∷ woven w v n (j + 1)) y
    meet false false t u e q = rw (e, q) (record {
      ahead = go_both t u;
      first = λ z. (h, refl);
      second = λ z. (k, before_same ours theirs (t, u));
      other = λ z. apart z;
      onward = omega arith;
    })

  -- of two clocks, each of its list where one is left
  pub turned : {n m : ℕ} → n ≡ length w → m ≡ length v → (x y : List Dot) → (i < length w → x ≡ ours) → (j < length v → y ≡ theirs)
      → (ltb i n || ltb j m) ≡ true
      → {f g : Bool} → f ≡ ltb i n && not (ltb j m && clock_before y x) → g ≡ ltb j m && not (ltb i n && clock_before x y)
      → Turned w v i j f g (cond f x y)
  turned {n} {m} en em x y ex ey some {f} {g} ef eg = go (ltb i n) (ltb j m) refl refl some ef eg
    where
      go : (a b : Bool) → ltb i n ≡ a → ltb j m ≡ b → (a || b) ≡ true → f ≡ a && not (b && clock_before y x) → g ≡ b && not (a && clock_before x y)
          → Turned w v i j f g (cond f x y)
      go true true p q t e z =
          let h : i < length w = (let z = ltb-true i n p in omega (arith, en)) in
          let k : j < length v = (let z = ltb-true j m q in omega (arith, em)) in
          let ox = ex h in
          let oy = ey k in
          rw (ox, oy) (meet h k (clock_before ours theirs) (clock_before theirs ours) refl refl (rw (ox, oy) at e) (rw (ox, oy) at z))
      go true false p q t e z =
          let h : i < length w = (let z = ltb-true i n p in omega (arith, en)) in
          let k : length v ≤ j = (let z = ltb-false j m q in omega (arith, em)) in
          let y0 : j ≡ j + 0 = omega arith in
          rw (e, z, ex h) (record {
            ahead = first_alone h k ∙ ap (λ n. ours ∷ woven w v (i + 1) n) y0;
            first = λ u. (h, refl);
            second = λ u. apart (sym u);
            other = λ u. apart u;
            onward = omega arith;
          })
      go false true p q t e z =
          let h : length w ≤ i = (let z = ltb-false i n p in omega (arith, en)) in
          let k : j < length v = (let z = ltb-true j m q in omega (arith, em)) in
          let y0 : i ≡ i + 0 = omega arith in
          rw (e, z, ey k) (record {
            ahead = second-alone h k ∙ ap (λ n. theirs ∷ woven w v n (j + 1)) y0;
            first = λ u. apart (sym u);
            second = λ u. (k, refl);
            other = λ u. k;
            onward = omega arith;
          })
      go false false p q t e z = apart (sym t)

-- the walk comes nearer to the end
pub nearer : {w v : List Removal} {i j : ℕ} {f g : Bool} {c : List Dot} → Turned w v i j f g c → {n m o p : ℕ} → n ≡ length w → m ≡ length v → i ≤ n
    → j ≤ m → o ≡ i + one_if f → p ≡ j + one_if g
    → ((o ≤ n) × (p ≤ m)) × (((n - o) + (m - p) < (n - i) + (m - j)) × (i + j < o + p))
nearer {f = true} {g = true} t en em a b eo ep = let x = (t.first refl).0 in let y = (t.second refl).0 in
    ((omega (arith, en), omega (arith, em)), (omega (arith, en, em), omega arith))
nearer {f = true} {g = false} t en em a b eo ep = let x = (t.first refl).0 in ((omega (arith, en), omega arith), (omega (arith, en), omega arith))
nearer {f = false} {g = true} t en em a b eo ep = let y = (t.second refl).0 in ((omega arith, omega (arith, em)), (omega (arith, em), omega arith))
nearer {f = false} {g = false} t en em a b eo ep = absurd (let z = t.onward in omega arith)

-- the clocks of those that stay
module _ (seen : List Dot) where
  waits-stays : (r : Removal) → stays seen (under_of r) ≡ waits seen r
  waits-stays r = ap not (empty-covered seen (under_of r)) ∙ sym (waits-covers seen r)

  map-those : (l : List Removal) → map under_of (those (waits seen) l) ≡ those (stays seen) (map under_of l)
  unfolding sift
  map-those [] = refl
  map-those (r ∷ l) = rw (waits-stays r) (go (waits seen r) (map-those l))
    where
      go : (b : Bool) → map under_of (those (waits seen) l) ≡ those (stays seen) (map under_of l)
          → map under_of (cond b (r ∷ those (waits seen) l) (those (waits seen) l)) ≡ cond b (under_of r ∷ those (stays seen) (map under_of l))
          (those (stays seen) (map under_of l))
      go true e = ap (λ m. under_of r ∷ m) e
      go false e = e

  module _ {w v : List Removal} (a : Ascending removal_before w) (b : Ascending removal_before v) where
    pub stay-clocks : map under_of (unite_all (those (waits seen) w) (those (waits seen) v)) ≡ those (stays seen) (woven w v 0 0)
    unfolding unite_all
    stay-clocks =
        ap (map under_of) (sym (unite-those a b (waits seen) (waits-same seen))) ∙ map-those (unite_all w v)
        ∙ ap (those (stays seen)) (sym (weave-map removal_before (λ x. x) (λ x. x) unite under_of w v))

    pub stay-rise : Ascending clock_before (those (stays seen) (woven w v 0 0))
    stay-rise = rw (← stay-clocks) (clocks-rise (unite-ascends (those-ascends (waits seen) a) (those-ascends (waits seen) b)))

-- the clocks of all that stay of two lists
abbrev pub staying : List Dot → List Removal → List Removal → List (List Dot)
staying seen w v = those (stays seen) (woven w v 0 0)

-- the clocks of removals, none where one was seen
abbrev pub unseen : List Dot → List Removal → List (List Dot)
unseen seen w = map under_of (map (emptied_where_seen seen) w)

-- how far the walk has come
pub record Joining (seen : List Dot) (w v : List Removal) (s t : List ℕ) (i j count : ℕ) (items : List Held) (ours theirs : List ℕ) : Type 0 where
  pub ahead : drop count (staying seen w v) ≡ those (stays seen) (woven w v i j)
  pub within : count ≤ length (staying seen w v)
  pub lies : length (staying seen w v) ≤ waiting_limit → (k : ℕ) → k < count
      → HeldLies s t (get_or items k no_held) (get_or (staying seen w v) k [])
  pub first : length (staying seen w v) ≤ waiting_limit → Seated (staying seen w v) (unseen seen w) i ours
  pub second : length (staying seen w v) ≤ waiting_limit → Seated (staying seen w v) (unseen seen v) j theirs

-- what is next stands at its place
drop-place : {A : Type 0} (l : List A) (k : ℕ) {x : A} {m : List A} → drop k l ≡ x ∷ m → Place x k l
drop-place [] zero e = absurd (let z = ap length e in omega arith)
drop-place [] (suc k) e = absurd (let z = ap length e in omega arith)
drop-place (y ∷ l) zero {x} e = first (sym (ap (λ z. get_or z 0 y) e))
drop-place (y ∷ l) (suc k) e = later (drop-place l k e)

drop-rest : {A : Type 0} (l : List A) (k : ℕ) {x : A} {m : List A} → drop k l ≡ x ∷ m → drop (k + 1) l ≡ m
drop-rest {A} l k {x} {m} e = let p = drop-place l k e in rw add-one (tail (sym (drop-cons l k x (place-below p)) ∙ e))
  where
    tail : {y : A} {n : List A} → y ∷ n ≡ x ∷ m → n ≡ m
    tail z = ap (drop 1) z

module _ (seen : List Dot) (l : List (List Dot)) (w : List Removal) where
  -- a table of which a place is stored again
  again : {i : ℕ} {table : List ℕ} → Seated l (unseen seen w) i table → (a z : ℕ) → a < length table
      → Seated l (unseen seen w) i (set table a (get_or table a z))
  again {i} {table} g a z h = record { each = λ b k. same b ∙ g.each b k }
    where
      same : (b : ℕ) → get_or (set table a (get_or table a z)) b waiting_limit ≡ get_or table b waiting_limit
      same b =
          decide (eqb b a)
          (λ t. let e = eqb-true b a t in rw (e, get_or-set_same table a (get_or table a z) waiting_limit h)
          (place-reads z (place-get table a waiting_limit h)))
          (λ t. get_or-set_other table a b (get_or table a z) waiting_limit (eqb-false b a t))

  -- one more is told where its list is in turn
  told-on : {i : ℕ} {table : List ℕ} → Seated l (unseen seen w) i table → (a z k : ℕ) (f b : Bool) (c : List Dot) → a < length table
      → (f ≡ true → a ≡ i)
      → (f ≡ true → (i < length w) × (c ≡ under_of (get_or w i no_removal))) → b ≡ stays seen c → (b ≡ true → k ≡ seat_of c l)
      → Seated l (unseen seen w) (i + one_if f) (set table a (cond (f && b) k (get_or table a z)))
  told-on {i} {table} g a z k false b c h ea ec eb ek = let e : i ≡ i + 0 = omega arith in subst
      (λ n. Seated l (unseen seen w) n (set table a (get_or table a z))) e (again g a z h)
  told-on {i} {table} g a z k true false c h ea ec eb ek =
      seated-not (again g a z h) (rw (
        changed-at (emptied_where_seen seen) w i (ec refl).0,
        emptied-seen seen (get_or w i no_removal)
            (rw (← (ec refl).1) (sym (empty-covered seen c) ∙ flip (is_empty (cut_dots seen c)) (sym eb))),
      ) nil-empty)
    where
      flip : (b : Bool) → not b ≡ false → b ≡ true
      flip true t = refl
      flip false t = apart t
  told-on {i} {table} g a z k true true c h ea ec eb ek =
      let u : covers seen (under_of (get_or w i no_removal)) ≡ false = rw (← (ec refl).1)
      (sym (empty-covered seen c) ∙ flip (is_empty (cut_dots seen c)) (sym eb)) in
      let q : get_or (unseen seen w) i [] ≡ under_of (get_or w i no_removal) = changed-at (emptied_where_seen seen) w i (ec refl).0
      ∙ emptied-not seen (get_or w i no_removal) u in
      subst (λ n. Seated l (unseen seen w) (i + 1) (set table n k)) (sym (ea refl))
      (seated-on g (ap is_empty q ∙ some-uncovered seen (under_of (get_or w i no_removal)) u) (rw (← ea refl) h)
      (ek refl ∙ ap (λ d. seat_of d l) ((ec refl).1 ∙ sym q)))
    where
      flip : (b : Bool) → not b ≡ true → b ≡ false
      flip true t = apart (sym t)
      flip false t = refl

module _ {seen : List Dot} {w v : List Removal} {s t : List ℕ} where
  pub join-start : {items : List Held} → Joining seen w v s t 0 0 0 items (replicate waiting_limit waiting_limit)
      (replicate waiting_limit waiting_limit)
  join-start = record {
    ahead = refl;
    within = omega arith;
    lies = λ f k h. absurd (omega arith);
    first = λ f. seated-start;
    second = λ f. seated-start;
  }

  module _ {i j count : ℕ} {items : List Held} {ours theirs : List ℕ} (g : Joining seen w v s t i j count items ours theirs)
      {f h : Bool} {c : List Dot} (n : Turned w v i j f h c) (rise : Ascending clock_before (staying seen w v)) where
    stay-yes : stays seen c ≡ true → drop count (staying seen w v) ≡ c ∷ those (stays seen) (woven w v (i + one_if f) (j + one_if h))
    unfolding sift
    stay-yes e = g.ahead ∙ ap (those (stays seen)) n.ahead ∙ rw e

    stay-no : stays seen c ≡ false → drop count (staying seen w v) ≡ those (stays seen) (woven w v (i + one_if f) (j + one_if h))
    unfolding sift
    stay-no e = g.ahead ∙ ap (those (stays seen)) n.ahead ∙ rw e

    module _ (a b z k : ℕ) (fa : a < length ours) (fb : b < length theirs) (ea : f ≡ true → a ≡ i) (eb : h ≡ true → b ≡ j) where
      pub join-on : true ≡ stays seen c → (count < waiting_limit → k ≡ count) → (x : Held) → HeldLies s t x c → k < length items
          → Joining seen w v s t (i + one_if f) (j + one_if h) (count + 1) (set items k x) (set ours a (cond (f && true) k (get_or ours a z)))
          (set theirs b (cond (h && true) k (get_or theirs b z)))
      join-on e ek x lx room =
          let q = stay-yes (sym e) in
          let p = drop-place (staying seen w v) count q in
          let seat : seat_of c (staying seen w v) ≡ count = seat-place rise p in
          let here : length (staying seen w v) ≤ waiting_limit → k ≡ count = λ few. ek (let y = place-below p in omega arith) in
          record {
            ahead = drop-rest (staying seen w v) count q;
            within = let y = place-below p in omega arith;
            lies = λ few m y. decide (eqb m count)
                (λ u. let r = eqb-true m count u in
                rw (r, ← here few, get_or-set_same items k x no_held room)
                (rw (here few) (subst (λ d. HeldLies s t x d) (sym (place-reads [] p)) lx)))
                (λ u. let r = eqb-false m count u in
                subst (λ o. HeldLies s t o (get_or (staying seen w v) m [])) (sym (get_or-set_other items k m x no_held (λ o. r (o ∙ here few))))
                (g.lies few m (omega arith)));
            first = λ few. told-on seen (staying seen w v) w (g.first few) a z k f true c fa ea n.first e (λ o. here few ∙ sym seat);
            second = λ few. told-on seen (staying seen w v) v (g.second few) b z k h true c fb eb n.second e (λ o. here few ∙ sym seat);
          }

      pub join-off : false ≡ stays seen c
          → Joining seen w v s t (i + one_if f) (j + one_if h) count items (set ours a (cond (f && false) k (get_or ours a z)))
          (set theirs b (cond (h && false) k (get_or theirs b z)))
      join-off e = record {
        ahead = stay-no (sym e);
        within = g.within;
        lies = g.lies;
        first = λ few. told-on seen (staying seen w v) w (g.first few) a z k f false c fa ea n.first e (λ o. apart (sym o));
        second = λ few. told-on seen (staying seen w v) v (g.second few) b z k h false c fb eb n.second e (λ o. apart (sym o));
      }

      -- the same by what was found out
      module _ {o p : ℕ} (eo : o ≡ i + one_if f) (ep : p ≡ j + one_if h) {y u : ℕ} {st : Bool} (ey : y ≡ cond (f && st) k (get_or ours a z))
          (eu : u ≡ cond (h && st) k (get_or theirs b z)) (es : st ≡ stays seen c) where
        pub found-on : st ≡ true → (count < waiting_limit → k ≡ count) → (x : Held) → HeldLies s t x c → k < length items
            → Joining seen w v s t o p (count + 1) (set items k x) (set ours a y) (set theirs b u)
        found-on q ek x lx room = rw (eo, ep, ey, eu, q) (join-on (sym q ∙ es) ek x lx room)

        pub found-off : st ≡ false → Joining seen w v s t o p count items (set ours a y) (set theirs b u)
        found-off q = rw (eo, ep, ey, eu, q) (join-off (sym q ∙ es))

  pub join-end : {i j count : ℕ} {items : List Held} {ours theirs : List ℕ} → Joining seen w v s t i j count items ours theirs → length w ≤ i
      → length v ≤ j → count ≡ length (staying seen w v)
  unfolding sift weave
  join-end {i} {j} {count} g h k =
      let e : drop count (staying seen w v) ≡ [] = g.ahead ∙ rw (drop-end w i h, drop-end v j k) in
      let y = g.within in
      omega (arith, ap length e, length-drop count (staying seen w v))

-- what is in turn lies in its image
pub held-lies : {s t : List ℕ} {x y held : Held} (f : Bool) → held ≡ cond f x y → (f ≡ true → RunWithin s x) → (f ≡ false → RunWithin t y)
    → x.second ≡ false → y.second ≡ true
    → HeldLies s t held (cond f (left_in s x) (left_in t y))
held-lies true e a b p q = rw e (lies-first p (a refl) refl)
held-lies false e a b p q = rw e (lies-second q (b refl) refl)
