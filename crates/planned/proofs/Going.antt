-- The plan of a result's waiting removals: where each removal goes, told by its clock's seat.
use mathlib.Core.Path.{◌≡◌, refl, ap, sym, ◌∙◌, subst}
use mathlib.Core.Bool.{true, false}
use mathlib.Core.List.Memᴰ
use mathlib.Core.List.{List, [], map}
use mathlib.Core.Logic.{inl, inr, ⊎_elim}
use Prim.Native.Nat.{ℕ, ◌≤◌, ◌<◌}
use native.Mathlib.Omega.{arith}
use lib.Dec.{ltb}
use lib.ListN.{length, get_or, get_or-map}
use Rattle.listlaws.specs.Fold.{fold}
use Rattle.listlaws.specs.Order.{◌∈◌, Ascending, nil, next}
use Rattle.listlaws.specs.Sift.{those}
use Rattle.scan.proofs.Eachs.{decide}
use Rattle.clock.specs.declared.Dot.{Dot}
use Rattle.clock.specs.Dots.{is_empty}
use Rattle.removals.specs.declared.Removal.{Removal}
use Rattle.limits.specs.Limits.{waiting_limit}
use Rattle.removals.specs.Model.{no_removal, under_of, listed_in}
use Rattle.removals.specs.Waits.{listed, clock_before, removal_before, unite_into, remains}
use Rattle.removals.specs.Valid.{ValidWaiting}
use Rattle.removals.proofs.Unions.{listed-means, listed-holds}
use Rattle.oneimagelaws.proofs.Stands.{Place, first, later, place_in, place-below, place-get, place-reads, in_place}
use Rattle.queued.specs.Queue.{lists}
use Rattle.queued.specs.Planned.{SoundRemovals, Brings}
use Rattle.queued.proofs.Marking.{lists-below}
use Rattle.planned.specs.declared.Plan.{Plan}
use Rattle.planned.specs.Seats.{seat_of, place_among, united}
use Rattle.planned.specs.Planned.{no_held, HeldLies, Plans}
use Rattle.planned.proofs.Seats.{seat-place}
use Rattle.planned.proofs.Uniting.{Has, Source, all_valid, all-keeps, all-adds, all-only}

pub clocks-rise : {l : List Removal} → Ascending removal_before l → Ascending clock_before (map under_of l)
clocks-rise nil = nil
clocks-rise (next {x = x} {l = l} f a) = next {x = under_of x} (λ c i. let (y, j, e) = Memᴰ.of_map under_of l i in rw (← e) (f y j)) (clocks-rise a)

none-valid : ValidWaiting []
none-valid = record { rising = nil; each = λ r i. absurd (Memᴰ.not-nil i); some = λ r i. absurd (Memᴰ.not-nil i) }

-- a place of a list, with the change of its element
map-place : {A B : Type 0} (f : A → B) {x : A} {j : ℕ} {l : List A} → Place x j l → Place (f x) j (map f l)
map-place f (first e) = first (ap f e)
map-place f (later p) = later (map-place f p)

module _ (w v : List Removal) (fw : length w ≤ waiting_limit) (fv : length v ≤ waiting_limit) (sw : SoundRemovals w) (sv : SoundRemovals v) where
  abbrev half : List Removal
  half = fold unite_into [] (those remains w)

  abbrev result : List Removal
  result = united w v

  abbrev clocks : List (List Dot)
  clocks = map under_of result

  half-valid : ValidWaiting half
  half-valid = all_valid w none-valid sw

  pub united-valid : ValidWaiting result
  united-valid = all_valid v half-valid sv

  rising : Ascending clock_before clocks
  rising = clocks-rise united-valid.rising

  -- a key under a clock stands at the clock's seat
  has_listed : {c : List Dot} {key : ℕ} → Has result c key → lists result (seat_of c clocks) key ≡ true
  has_listed {c} {key} k =
      let (j, p) = in_place k.stands in
      let seat : seat_of c clocks ≡ j = seat-place rising (rw k.under at (map-place under_of p)) in
      ap (λ n. lists result n key) seat ∙ ap (λ r. listed (listed_in r) key) (place-reads no_removal p) ∙ listed-holds k.lists

  listed_has : (j key : ℕ) → lists result j key ≡ true → (Has result (under_of (get_or result j no_removal)) key)
      × (seat_of (under_of (get_or result j no_removal)) clocks ≡ j)
  listed_has j key t =
      let p = place-get result j no_removal (lists-below result j key t) in (
        record {
          removal = get_or result j no_removal;
          stands = place_in p;
          under = refl;
          lists = listed-means (listed_in (get_or result j no_removal)) key t;
        },
        seat-place rising (map-place under_of p),
      )

  module _ (s t : List ℕ) (p : Plan) (over : p.over ≡ ltb waiting_limit (length result)) (count : p.over ≡ false → p.len ≡ length result)
      (lies : p.over ≡ false → (j : ℕ) → j < length result → HeldLies s t (get_or p.items j no_held) (get_or clocks j []))
      (ours : (a : ℕ) → p.over ≡ false → a < waiting_limit → get_or p.ours a waiting_limit ≡ place_among clocks (get_or (map under_of w) a []))
      (theirs : (a : ℕ) → p.over ≡ false → a < waiting_limit → get_or p.theirs a waiting_limit
      ≡ place_among clocks (get_or (map under_of v) a [])) where
    -- of one list: its table, and that its removals are brought
    module _ (u : List Removal) (table : List ℕ) (told : (a : ℕ) → p.over ≡ false → a < waiting_limit
        → get_or table a waiting_limit ≡ place_among clocks (get_or (map under_of u) a [])) (fu : length u ≤ waiting_limit) (f : p.over ≡ false) where
      brought : ((x : Removal) → x ∈ u → is_empty (under_of x) ≡ false → (key : ℕ) → key ∈ listed_in x → Has result (under_of x) key) → (j key : ℕ)
          → j < waiting_limit → Brings u table j key → lists result j key ≡ true
      unfolding place_among
      brought adds j key h b =
          let x = get_or u b.from no_removal in
          let q = place-get u b.from no_removal (lists-below u b.from key b.has) in
          let e : get_or table b.from waiting_limit ≡ place_among clocks (under_of x) = told b.from f b.low
          ∙ ap (place_among clocks) (get_or-map under_of u b.from no_removal) in
          decide (is_empty (under_of x)) (λ t. absurd (let z = rw t at (sym b.goes ∙ e) in omega arith))
          (λ n. let z : j ≡ seat_of (under_of x) clocks = rw n at (sym b.goes ∙ e) in
          ap (λ k. lists result k key) z ∙ has_listed (adds x (place_in q) n key (listed-means (listed_in x) key b.has)))

      brings : (j key : ℕ) → seat_of (under_of (get_or result j no_removal)) clocks ≡ j → Source u (under_of (get_or result j no_removal)) key
          → Brings u table j key
      unfolding place_among
      brings j key e s =
          let (a, q) = in_place s.stands in
          let r : get_or u a no_removal ≡ s.removal = place-reads no_removal q in
          let low : a < waiting_limit = (let k = place-below q in omega arith) in
          let t : is_empty (under_of (get_or u a no_removal)) ≡ false = ap (λ x. is_empty (under_of x)) r ∙ s.some in
          record {
            from = a;
            low = low;
            goes = told a f low ∙ ap (place_among clocks) (get_or-map under_of u a no_removal)
                ∙ rw t (ap (λ x. seat_of (under_of x) clocks) r ∙ ap (λ c. seat_of c clocks) s.under ∙ e);
            has = ap (λ x. listed (listed_in x) key) r ∙ listed-holds s.lists;
          }

    pub planned : Plans s t w v result p
    planned = record {
      over = over;
      count = count;
      clocks = λ f j h. subst (λ d. HeldLies s t (get_or p.items j no_held) d) (get_or-map under_of result j no_removal) (lies f j h);
      moves = λ f. record {
        first = brought w p.ours ours fw f (λ x i n key k. all-keeps v half-valid sv (all-adds w none-valid sw x i n k));
        second = brought v p.theirs theirs fv f (λ x i n key k. all-adds v half-valid sv x i n k);
        only = λ j key h t. let (k, e) = listed_has j key t in
            ⊎_elim (λ a. ⊎_elim (λ b. absurd (Memᴰ.not-nil b.stands)) (λ b. inl (brings w p.ours ours fw f j key e b))
            (all-only w none-valid sw a))
            (λ b. inr (brings v p.theirs theirs fv f j key e b)) (all-only v half-valid sv k);
      };
    }
