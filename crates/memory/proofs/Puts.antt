-- What each way to add a record does to what a memory holds.
use mathlib.Core.Path.{◌≡◌, ap, ap₂, sym, ◌∙◌}
use mathlib.Core.List.{List, [], ◌∷◌, ◌++◌, map}
use Prim.Native.Nat.{ℕ, ◌+◌, ◌*◌, ◌≤◌, ◌<◌, min}
use native.Mathlib.Omega.{arith}
use lib.Dec.{ltb}
use lib.ListN.{length, set}
use borrow.Author.Tests.{lt-ltb, eq-eqb, ltb-true, ltb-false}
use Rattle.clock.specs.declared.Dot.{Dot}
use Rattle.limits.specs.Limits.{dot_limit, value_limit, entry_limit, waiting_limit, key_limit}
use Rattle.clock.specs.Dots.{clock_of}
use Rattle.register.specs.declared.Value.{Value}
use Rattle.register.specs.Values.{no_value}
use Rattle.entries.specs.Model.{no_entry, entry_as}
use Rattle.removals.specs.Model.{no_removal, removal_as}
use Rattle.records.specs.declared.Record.{Record}
use Rattle.records.specs.Bytes.{num_at}
use Rattle.records.proofs.RoundTrips.{Fitting}
use Rattle.scan.proofs.Eachs.{decide}
use Rattle.clockimage.specs.Image.{dot_of, content_of}
use Rattle.maprecords.specs.Reading.{numbers_below}
use Rattle.memory.specs.Memory.{reader_room, clock_room, dot_room, value_room, entry_room, removal_room, entries_place, waits_place, entry_place}
use Rattle.memory.specs.Memory.{own_place, values_place, value_place, removal_place, keys_place, key_place, count_at, dot_at, dots_at, content_at}
use Rattle.memory.specs.Memory.{value_at, values_at, key_at, entry_held_at, entry_count, entries_at, listed_at, removal_at, waiting_count_at}
use Rattle.memory.specs.Memory.{waiting_at}
use Rattle.memory.specs.Putting.{put, dot_put, entry_begun, value_put, value_dot_put, removal_begun, key_put}
use Rattle.memory.proofs.Regions.{Same, same-num, Touched, touched_none, touched-then, touched-wide, below-touched, above-touched}
use Rattle.memory.proofs.Regions.{touched-put, put-read}
use Rattle.memory.proofs.Views.{below-same, below_more, length-of, below_set, same_count, same-dot, same-dots, same-value, same-values}
use Rattle.memory.proofs.Views.{same_key, same-entry, same-listed, same-removal}

-- a dot
module _ (p : ℕ) (r : Record) (w : List ℕ) (f : Fitting r) (room : p + clock_room ≤ length w) where
  abbrev place : ℕ
  place = p + 1 + num_at 0 p w * dot_room

  module _ (h : num_at 0 p w < dot_limit) where
    abbrev actored : List ℕ
    actored = put 1 place r.actor w

    abbrev dotted : List ℕ
    dotted = put 3 (place + 2) r.number actored

    abbrev counted : List ℕ
    counted = put 0 p (num_at 0 p w + 1) dotted

    dot-is : dot_put p r w ≡ counted
    unfolding dot_put
    dot-is = rw (lt-ltb (num_at 0 p w) dot_limit h)

    first : Touched place 2 w actored
    first = touched-put 1 place r.actor w f.actor (omega arith)

    second : Touched (place + 2) 8 actored dotted
    second = touched-put 3 (place + 2) r.number actored f.number (omega (arith, first.long))

    long : length dotted ≡ length w
    long = second.long ∙ first.long

    third : Touched p 1 dotted counted
    third = touched-put 0 p (num_at 0 p w + 1) dotted (omega arith) (omega (arith, long))

    all_three : Touched p clock_room w counted
    all_three =
        touched-then (touched-wide p clock_room first (omega arith) (omega arith))
        (touched-then (touched-wide p clock_room second (omega arith) (omega arith)) (touched-wide p clock_room third (omega arith) (omega arith)))

    new-dot : dot_at counted place ≡ dot_of r
    new-dot =
        let a = same-num 1 place (above-touched place 2 third (omega arith)) (omega arith) (omega arith)
        ∙ same-num 1 place (below-touched place 2 second (omega arith)) (omega arith) (omega arith)
        ∙ put-read 1 place r.actor w f.actor (omega arith) in
        let b = same-num 3 (place + 2) (above-touched (place + 2) 8 third (omega arith)) (omega arith) (omega arith)
        ∙ put-read 3 (place + 2) r.number actored f.number (omega (arith, first.long)) in
        λ i. record { actor = a i; counter = b i }

    old-dot : (i : ℕ) → i < num_at 0 p w → dot_at counted (p + 1 + i * dot_room) ≡ dot_at w (p + 1 + i * dot_room)
    old-dot i l =
        let q = p + 1 + i * dot_room in
        same-dot (above-touched q dot_room third (omega arith)) q (omega arith) (omega arith)
        ∙ same-dot (below-touched q dot_room second (omega arith)) q (omega arith) (omega arith)
        ∙ same-dot (below-touched q dot_room first (omega arith)) q (omega arith) (omega arith)

    more-dots : dots_at counted p ≡ dots_at w p ++ (dot_of r ∷ [])
    unfolding dots_at
    more-dots =
        let n = num_at 0 p w in
        let now : count_at dot_limit p counted ≡ n + 1 = ap (λ x. min x dot_limit) (put-read 0 p (n + 1) dotted (omega arith) (omega (arith, long)))
        ∙ omega arith in
        let was : count_at dot_limit p w ≡ n = omega arith in
        ap (λ c. map (λ i. dot_at counted (p + 1 + i * dot_room)) (numbers_below c)) now
        ∙ below_more (λ i. dot_at counted (p + 1 + i * dot_room)) n
        ∙ ap₂ (λ l x. l ++ (x ∷ [])) (below-same (λ i. dot_at counted (p + 1 + i * dot_room)) (λ i. dot_at w (p + 1 + i * dot_room)) n old-dot)
        new-dot
        ∙ ap (λ c. map (λ i. dot_at w (p + 1 + i * dot_room)) (numbers_below c) ++ (dot_of r ∷ [])) (sym was)

  pub dot-touched : Touched p clock_room w (dot_put p r w)
  unfolding dot_put
  dot-touched =
      decide (ltb (num_at 0 p w) dot_limit) (λ t. rw t (all_three (ltb-true (num_at 0 p w) dot_limit t))) (λ t. rw t (touched_none p clock_room w))

  pub dot-more : length (dots_at w p) < dot_limit → dots_at (dot_put p r w) p ≡ dots_at w p ++ (dot_of r ∷ [])
  unfolding dots_at
  dot-more few =
      let h : num_at 0 p w < dot_limit = omega (arith, length-of (λ i. dot_at w (p + 1 + i * dot_room)) (count_at dot_limit p w)) in
      ap (λ v. dots_at v p) (dot-is h) ∙ more-dots h

-- a clock whose count is 0
pub no-dots : (p : ℕ) (w : List ℕ) → num_at 0 p w ≡ 0 → dots_at w p ≡ []
unfolding dots_at numbers_below
no-dots p w e = ap (λ c. map (λ i. dot_at w (p + 1 + i * dot_room)) (numbers_below (min c dot_limit))) e

-- the entry at a place changed, and nothing else
pub record EntryNow (j : ℕ) (w v : List ℕ) (ds : List Dot) (vs : List Value) : Type 0 where
  pub touched : Touched (entry_place j) entry_room w v
  pub key : key_at v j ≡ key_at w j
  pub dots : dots_at v (own_place j) ≡ ds
  pub values : values_at v j ≡ vs

module _ (j : ℕ) (r : Record) (w : List ℕ) (f : Fitting r) (long : length w ≡ reader_room) (low : j < entry_limit) where
  pub own-now : length (dots_at w (own_place j)) < dot_limit → EntryNow j w (dot_put (own_place j) r w) (dots_at w (own_place j) ++ (dot_of r ∷ []))
      (values_at w j)
  own-now few =
      let t = dot-touched (own_place j) r w f (omega arith) in
      record {
        touched = touched-wide (entry_place j) entry_room t (omega arith) (omega arith);
        key = same_key (below-touched (entry_place j) 4 t (omega arith)) j (omega arith) (omega arith);
        dots = dot-more (own_place j) r w f (omega arith) few;
        values = same-values (above-touched (values_place j) (1 + value_limit * value_room) t (omega arith)) j (omega arith) (omega arith);
      }

  -- a value
  module _ (h : num_at 0 (values_place j) w < value_limit) where
    abbrev count : ℕ
    count = num_at 0 (values_place j) w

    abbrev at : ℕ
    at = value_place j count

    abbrev numbered : List ℕ
    numbered = put 3 at r.number w

    abbrev blank : List ℕ
    blank = put 0 (at + 8) 0 numbered

    abbrev named : List ℕ
    named = put 1 (at + 8 + clock_room) r.actor blank

    abbrev valued : List ℕ
    valued = put 0 (values_place j) (count + 1) named

    number_put : Touched at 8 w numbered
    number_put = touched-put 3 at r.number w f.number (omega arith)

    blank-put : Touched (at + 8) 1 numbered blank
    blank-put = touched-put 0 (at + 8) 0 numbered (omega arith) (omega (arith, number_put.long))

    blank-long : length blank ≡ reader_room
    blank-long = blank-put.long ∙ number_put.long ∙ long

    origin-put : Touched (at + 8 + clock_room) 2 blank named
    origin-put = touched-put 1 (at + 8 + clock_room) r.actor blank f.actor (omega (arith, blank-long))

    named-long : length named ≡ reader_room
    named-long = origin-put.long ∙ blank-long

    count-put : Touched (values_place j) 1 named valued
    count-put = touched-put 0 (values_place j) (count + 1) named (omega arith) (omega (arith, named-long))

    value-touched : Touched (values_place j) (1 + value_limit * value_room) w valued
    value-touched =
        let n = 1 + value_limit * value_room in
        touched-then (touched-wide (values_place j) n number_put (omega arith) (omega arith))
        (touched-then (touched-wide (values_place j) n blank-put (omega arith) (omega arith))
        (touched-then (touched-wide (values_place j) n origin-put (omega arith) (omega arith))
        (touched-wide (values_place j) n count-put (omega arith) (omega arith))))

    new-value : value_at valued at ≡ record { clock = clock_of []; value = content_of r }
    new-value =
        let x = same-num 3 at (above-touched at 8 count-put (omega arith)) (omega arith) (omega arith)
        ∙ same-num 3 at (below-touched at 8 origin-put (omega arith)) (omega arith) (omega arith)
        ∙ same-num 3 at (below-touched at 8 blank-put (omega arith)) (omega arith) (omega arith)
        ∙ put-read 3 at r.number w f.number (omega arith) in
        let o = same-num 1 (at + 8 + clock_room) (above-touched (at + 8 + clock_room) 2 count-put (omega arith)) (omega arith) (omega arith)
        ∙ put-read 1 (at + 8 + clock_room) r.actor blank f.actor (omega (arith, blank-long)) in
        let z = same-num 0 (at + 8) (above-touched (at + 8) 1 count-put (omega arith)) (omega arith) (omega arith)
        ∙ same-num 0 (at + 8) (below-touched (at + 8) 1 origin-put (omega arith)) (omega arith) (omega arith)
        ∙ put-read 0 (at + 8) 0 numbered (omega arith) (omega (arith, number_put.long)) in
        let c = no-dots (at + 8) valued z in
        λ i. record { clock = clock_of (c i); value = record { number = x i; origin = o i } }

    old_value : (i : ℕ) → i < count → value_at valued (value_place j i) ≡ value_at w (value_place j i)
    old_value i l =
        let q = value_place j i in
        same-value (above-touched q value_room count-put (omega arith)) q (omega arith) (omega arith)
        ∙ same-value (below-touched q value_room origin-put (omega arith)) q (omega arith) (omega arith)
        ∙ same-value (below-touched q value_room blank-put (omega arith)) q (omega arith) (omega arith)
        ∙ same-value (below-touched q value_room number_put (omega arith)) q (omega arith) (omega arith)

    more-values : values_at valued j ≡ values_at w j ++ (record { clock = clock_of []; value = content_of r } ∷ [])
    unfolding values_at
    more-values =
        let now : count_at value_limit (values_place j) valued ≡ count + 1 = ap (λ x. min x value_limit)
        (put-read 0 (values_place j) (count + 1) named (omega arith) (omega (arith, named-long))) ∙ omega arith in
        let was : count_at value_limit (values_place j) w ≡ count = omega arith in
        ap (λ c. map (λ i. value_at valued (value_place j i)) (numbers_below c)) now
        ∙ below_more (λ i. value_at valued (value_place j i)) count
        ∙ ap₂ (λ l x. l ++ (x ∷ [])) (below-same (λ i. value_at valued (value_place j i)) (λ i. value_at w (value_place j i)) count old_value)
        new-value
        ∙ ap (λ c. map (λ i. value_at w (value_place j i)) (numbers_below c) ++ (record { clock = clock_of []; value = content_of r } ∷ [])) (sym was)

    pub value-now : count ≡ r.index → EntryNow j w (value_put j r w) (dots_at w (own_place j))
        (values_at w j ++ (record { clock = clock_of []; value = content_of r } ∷ []))
    unfolding value_put
    value-now e = rw (eq-eqb count r.index e, lt-ltb count value_limit h) (record {
      touched = touched-wide (entry_place j) entry_room value-touched (omega arith) (omega arith);
      key = same_key (below-touched (entry_place j) 4 value-touched (omega arith)) j (omega arith) (omega arith);
      dots = same-dots (below-touched (own_place j) clock_room value-touched (omega arith)) (own_place j) (omega arith) (omega arith);
      values = more-values;
    })

  -- a dot of a value
  module _ (known : r.index < count_at value_limit (values_place j) w) (few : length (dots_at w (value_place j r.index + 8)) < dot_limit) where
    abbrev its : ℕ
    its = value_place j r.index

    abbrev dotted-value : Value
    dotted-value = record { clock = clock_of (dots_at w (its + 8) ++ (dot_of r ∷ [])); value = content_at w its }

    its-touched : Touched (its + 8) clock_room w (dot_put (its + 8) r w)
    its-touched = dot-touched (its + 8) r w f (omega arith)

    its-value : value_at (dot_put (its + 8) r w) its ≡ dotted-value
    its-value =
        let x = same-num 3 its (below-touched its 8 its-touched (omega arith)) (omega arith) (omega arith) in
        let o = same-num 1 (its + 8 + clock_room) (above-touched (its + 8 + clock_room) 2 its-touched (omega arith)) (omega arith) (omega arith) in
        let c = dot-more (its + 8) r w f (omega arith) few in
        λ i. record { clock = clock_of (c i); value = record { number = x i; origin = o i } }

    other-value : (i : ℕ) → i < count_at value_limit (values_place j) w → (i ≡ r.index → ⊥)
        → value_at (dot_put (its + 8) r w) (value_place j i) ≡ value_at w (value_place j i)
    other-value i l n =
        let q = value_place j i in
        decide (ltb i r.index)
        (λ t. let b = ltb-true i r.index t in same-value (below-touched q value_room its-touched (omega arith)) q (omega arith) (omega arith))
        (λ t. let b = ltb-false i r.index t in same-value (above-touched q value_room its-touched (omega (arith, n))) q (omega arith) (omega arith))

    pub value-dot-now : EntryNow j w (value_dot_put j r w) (dots_at w (own_place j)) (set (values_at w j) r.index dotted-value)
    unfolding value_dot_put values_at
    value-dot-now =
        let t = its-touched in
        let v = dot_put (its + 8) r w in
        rw (lt-ltb r.index (num_at 0 (values_place j) w) (omega arith), lt-ltb r.index value_limit (omega arith)) (record {
          touched = touched-wide (entry_place j) entry_room t (omega arith) (omega arith);
          key = same_key (below-touched (entry_place j) 4 t (omega arith)) j (omega arith) (omega arith);
          dots = same-dots (below-touched (own_place j) clock_room t (omega arith)) (own_place j) (omega arith) (omega arith);
          values = ap (λ c. map (λ i. value_at v (value_place j i)) (numbers_below c))
              (same_count (below-touched (values_place j) 1 t (omega arith)) value_limit (values_place j) (omega arith) (omega arith))
              ∙ below_set no_value (λ i. value_at w (value_place j i)) (λ i. value_at v (value_place j i)) (count_at value_limit (values_place j) w)
              r.index known other-value
              ∙ ap (set (map (λ i. value_at w (value_place j i)) (numbers_below (count_at value_limit (values_place j) w))) r.index) its-value;
        })

-- an entry changed in its place
pub entry-stored : (j : ℕ) {w v : List ℕ} {ds : List Dot} {vs : List Value} → EntryNow j w v ds vs → j < entry_count w
    → entries_at v ≡ set (entries_at w) j (entry_as (key_at w j) ds vs)
unfolding entries_at
entry-stored j {w} {v} {ds} {vs} e h =
    let t = e.touched in
    let now : entry_held_at v j ≡ entry_as (key_at w j) ds vs = rw (e.key, e.dots, e.values) in
    ap (λ c. map (entry_held_at v) (numbers_below c))
    (same_count (below-touched entries_place 1 t (omega arith)) entry_limit entries_place (omega arith)
    (omega arith))
    ∙ below_set no_entry (entry_held_at w) (entry_held_at v) (entry_count w) j h others
    ∙ ap (set (map (entry_held_at w) (numbers_below (entry_count w))) j) now
  where
    others : (i : ℕ) → i < entry_count w → (i ≡ j → ⊥) → entry_held_at v i ≡ entry_held_at w i
    others i l n =
        let t = e.touched in
        decide (ltb i j)
        (λ x. let b = ltb-true i j x in same-entry (below-touched (entry_place i) entry_room t (omega arith)) i (omega arith) (omega arith))
        (λ x. let b = ltb-false i j x in same-entry (above-touched (entry_place i) entry_room t (omega (arith, n))) i (omega arith) (omega arith))

-- an entry behind the last
module _ (r : Record) (w : List ℕ) (f : Fitting r) (long : length w ≡ reader_room) (n : ℕ) (few : n < entry_limit) where
  abbrev keyed : List ℕ
  keyed = put 2 (entry_place n) r.key w

  abbrev cleared : List ℕ
  cleared = put 0 (own_place n) 0 keyed

  abbrev owned : List ℕ
  owned = dot_put (own_place n) r cleared

  abbrev made : List ℕ
  made = put 0 (values_place n) 0 owned

  key-put : Touched (entry_place n) 4 w keyed
  key-put = touched-put 2 (entry_place n) r.key w f.key (omega arith)

  clear-put : Touched (own_place n) 1 keyed cleared
  clear-put = touched-put 0 (own_place n) 0 keyed (omega arith) (omega (arith, key-put.long))

  cleared-long : length cleared ≡ reader_room
  cleared-long = clear-put.long ∙ key-put.long ∙ long

  own_put : Touched (own_place n) clock_room cleared owned
  own_put = dot-touched (own_place n) r cleared f (omega (arith, cleared-long))

  owned_long : length owned ≡ reader_room
  owned_long = own_put.long ∙ cleared-long

  none-put : Touched (values_place n) 1 owned made
  none-put = touched-put 0 (values_place n) 0 owned (omega arith) (omega (arith, owned_long))

  made-long : length made ≡ reader_room
  made-long = none-put.long ∙ owned_long

  pub made-touched : Touched (entry_place n) entry_room w made
  made-touched =
      touched-then (touched-wide (entry_place n) entry_room key-put (omega arith) (omega arith))
      (touched-then (touched-wide (entry_place n) entry_room clear-put (omega arith) (omega arith))
      (touched-then (touched-wide (entry_place n) entry_room own_put (omega arith) (omega arith))
      (touched-wide (entry_place n) entry_room none-put (omega arith) (omega arith))))

  pub begun-touched : Touched entries_place 1 made (entry_begun n r w)
  unfolding entry_begun
  begun-touched = touched-put 0 entries_place (n + 1) made (omega arith) (omega (arith, made-long))

  begun-count : entry_count (entry_begun n r w) ≡ n + 1
  unfolding entry_begun
  begun-count = ap (λ x. min x entry_limit) (put-read 0 entries_place (n + 1) made (omega arith) (omega (arith, made-long))) ∙ omega arith

  begun-key : key_at (entry_begun n r w) n ≡ r.key
  begun-key =
      same_key (above-touched (entry_place n) 4 begun-touched (omega arith)) n (omega arith) (omega arith)
      ∙ same_key (below-touched (entry_place n) 4 none-put (omega arith)) n (omega arith) (omega arith)
      ∙ same_key (below-touched (entry_place n) 4 own_put (omega arith)) n (omega arith) (omega arith)
      ∙ same_key (below-touched (entry_place n) 4 clear-put (omega arith)) n (omega arith) (omega arith)
      ∙ put-read 2 (entry_place n) r.key w f.key (omega arith)

  begun-dots : dots_at (entry_begun n r w) (own_place n) ≡ dot_of r ∷ []
  begun-dots =
      let none = no-dots (own_place n) cleared (put-read 0 (own_place n) 0 keyed (omega arith) (omega (arith, key-put.long))) in
      same-dots (above-touched (own_place n) clock_room begun-touched (omega arith)) (own_place n) (omega arith) (omega arith)
      ∙ same-dots (below-touched (own_place n) clock_room none-put (omega arith)) (own_place n) (omega arith) (omega arith)
      ∙ dot-more (own_place n) r cleared f (omega (arith, cleared-long)) (rw none (omega arith)) ∙ ap (λ l. l ++ (dot_of r ∷ [])) none

  begun-values : values_at (entry_begun n r w) n ≡ []
  unfolding values_at numbers_below
  begun-values =
      let none = same-num 0 (values_place n) (above-touched (values_place n) 1 begun-touched (omega arith)) (omega arith) (omega arith)
      ∙ put-read 0 (values_place n) 0 owned (omega arith) (omega (arith, owned_long)) in
      ap (λ c. map (λ i. value_at (entry_begun n r w) (value_place n i)) (numbers_below (min c value_limit))) none

  module _ (count : entry_count w ≡ n) where
    before : (i : ℕ) → i < n → Same (entry_place i) entry_room (entry_begun n r w) w
    before i h = record {
      at = λ k x y.
          (above-touched (entry_place i) entry_room begun-touched (omega arith)).at k x y
          ∙ (below-touched (entry_place i) entry_room made-touched (omega arith)).at k x y;
    }

    pub entry-added : entries_at (entry_begun n r w) ≡ entries_at w ++ (entry_as r.key (dot_of r ∷ []) [] ∷ [])
    unfolding entries_at
    entry-added =
        let v = entry_begun n r w in
        let now : entry_held_at v n ≡ entry_as r.key (dot_of r ∷ []) [] = rw (begun-key, begun-dots, begun-values) in
        ap (λ c. map (entry_held_at v) (numbers_below c)) begun-count ∙ below_more (entry_held_at v) n
        ∙ ap₂ (λ l x. l ++ (x ∷ [])) (below-same (entry_held_at v) (entry_held_at w) n
        (λ i h. same-entry (before i h) i (omega arith) (omega arith))) now
        ∙ ap (λ c. map (entry_held_at w) (numbers_below c) ++ (entry_as r.key (dot_of r ∷ []) [] ∷ [])) (sym count)

-- the waiting removal at a place changed, and nothing else
pub record RemovalNow (k : ℕ) (w v : List ℕ) (ds : List Dot) (ks : List ℕ) : Type 0 where
  pub touched : Touched (removal_place k) removal_room w v
  pub dots : dots_at v (removal_place k) ≡ ds
  pub keys : listed_at v k ≡ ks

module _ (k : ℕ) (r : Record) (w : List ℕ) (f : Fitting r) (long : length w ≡ reader_room) (low : k < waiting_limit) where
  pub waiting-dot-now : length (dots_at w (removal_place k)) < dot_limit → RemovalNow k w (dot_put (removal_place k) r w)
      (dots_at w (removal_place k) ++ (dot_of r ∷ [])) (listed_at w k)
  waiting-dot-now few =
      let t = dot-touched (removal_place k) r w f (omega arith) in
      record {
        touched = touched-wide (removal_place k) removal_room t (omega arith) (omega arith);
        dots = dot-more (removal_place k) r w f (omega arith) few;
        keys = same-listed (above-touched (keys_place k) (1 + key_limit * 4) t (omega arith)) k (omega arith) (omega arith);
      }

  module _ (h : num_at 0 (keys_place k) w < key_limit) where
    abbrev listed : ℕ
    listed = num_at 0 (keys_place k) w

    abbrev keyed-there : List ℕ
    keyed-there = put 2 (key_place k listed) r.key w

    abbrev more-listed : List ℕ
    more-listed = put 0 (keys_place k) (listed + 1) keyed-there

    there-put : Touched (key_place k listed) 4 w keyed-there
    there-put = touched-put 2 (key_place k listed) r.key w f.key (omega arith)

    listed-put : Touched (keys_place k) 1 keyed-there more-listed
    listed-put = touched-put 0 (keys_place k) (listed + 1) keyed-there (omega arith) (omega (arith, there-put.long))

    keys-touched : Touched (keys_place k) (1 + key_limit * 4) w more-listed
    keys-touched =
        touched-then (touched-wide (keys_place k) (1 + key_limit * 4) there-put (omega arith) (omega arith))
        (touched-wide (keys_place k) (1 + key_limit * 4) listed-put (omega arith) (omega arith))

    more-keys : listed_at more-listed k ≡ listed_at w k ++ (r.key ∷ [])
    unfolding listed_at
    more-keys =
        let now : count_at key_limit (keys_place k) more-listed ≡ listed + 1 = ap (λ x. min x key_limit)
        (put-read 0 (keys_place k) (listed + 1) keyed-there (omega arith) (omega (arith, there-put.long))) ∙ omega arith in
        let was : count_at key_limit (keys_place k) w ≡ listed = omega arith in
        let new = same-num 2 (key_place k listed) (above-touched (key_place k listed) 4 listed-put (omega arith)) (omega arith) (omega arith)
        ∙ put-read 2 (key_place k listed) r.key w f.key (omega arith) in
        ap (λ c. map (λ i. num_at 2 (key_place k i) more-listed) (numbers_below c)) now
        ∙ below_more (λ i. num_at 2 (key_place k i) more-listed) listed
        ∙ ap₂ (λ l x. l ++ (x ∷ []))
        (below-same (λ i. num_at 2 (key_place k i) more-listed) (λ i. num_at 2 (key_place k i) w) listed
        (λ i l. same-num 2 (key_place k i) (above-touched (key_place k i) 4 listed-put (omega arith)) (omega arith) (omega arith)
        ∙ same-num 2 (key_place k i) (below-touched (key_place k i) 4 there-put (omega arith)) (omega arith) (omega arith)))
        new
        ∙ ap (λ c. map (λ i. num_at 2 (key_place k i) w) (numbers_below c) ++ (r.key ∷ [])) (sym was)

    pub waiting-key-now : RemovalNow k w (key_put k r w) (dots_at w (removal_place k)) (listed_at w k ++ (r.key ∷ []))
    unfolding key_put
    waiting-key-now = rw (lt-ltb listed key_limit h) (record {
      touched = touched-wide (removal_place k) removal_room keys-touched (omega arith) (omega arith);
      dots = same-dots (below-touched (removal_place k) clock_room keys-touched (omega arith)) (removal_place k) (omega arith) (omega arith);
      keys = more-keys;
    })

-- a waiting removal changed in its place
pub removal-stored : (k : ℕ) {w v : List ℕ} {ds : List Dot} {ks : List ℕ} → RemovalNow k w v ds ks → k < waiting_count_at w
    → waiting_at v ≡ set (waiting_at w) k (removal_as ds ks)
unfolding waiting_at
removal-stored k {w} {v} {ds} {ks} e h =
    let t = e.touched in
    let now : removal_at v k ≡ removal_as ds ks = rw (e.dots, e.keys) in
    ap (λ c. map (removal_at v) (numbers_below c)) (same_count (below-touched waits_place 1 t (omega arith)) waiting_limit waits_place (omega arith)
    (omega arith))
    ∙ below_set no_removal (removal_at w) (removal_at v) (waiting_count_at w) k h others
    ∙ ap (set (map (removal_at w) (numbers_below (waiting_count_at w))) k) now
  where
    others : (i : ℕ) → i < waiting_count_at w → (i ≡ k → ⊥) → removal_at v i ≡ removal_at w i
    others i l n =
        let t = e.touched in
        decide (ltb i k)
        (λ x. let b = ltb-true i k x in same-removal (below-touched (removal_place i) removal_room t (omega arith)) i (omega arith) (omega arith))
        (λ x. let b = ltb-false i k x in same-removal (above-touched (removal_place i) removal_room t (omega (arith, n))) i (omega arith)
        (omega arith))

-- a waiting removal behind the last
module _ (r : Record) (w : List ℕ) (f : Fitting r) (long : length w ≡ reader_room) (n : ℕ) (few : n < waiting_limit) where
  abbrev wiped : List ℕ
  wiped = put 0 (removal_place n) 0 w

  abbrev clocked : List ℕ
  clocked = dot_put (removal_place n) r wiped

  abbrev laid : List ℕ
  laid = put 0 (keys_place n) 0 clocked

  wipe-put : Touched (removal_place n) 1 w wiped
  wipe-put = touched-put 0 (removal_place n) 0 w (omega arith) (omega arith)

  wiped-long : length wiped ≡ reader_room
  wiped-long = wipe-put.long ∙ long

  clock-put : Touched (removal_place n) clock_room wiped clocked
  clock-put = dot-touched (removal_place n) r wiped f (omega (arith, wiped-long))

  clocked-long : length clocked ≡ reader_room
  clocked-long = clock-put.long ∙ wiped-long

  unlisted-put : Touched (keys_place n) 1 clocked laid
  unlisted-put = touched-put 0 (keys_place n) 0 clocked (omega arith) (omega (arith, clocked-long))

  laid-long : length laid ≡ reader_room
  laid-long = unlisted-put.long ∙ clocked-long

  pub laid-touched : Touched (removal_place n) removal_room w laid
  laid-touched =
      touched-then (touched-wide (removal_place n) removal_room wipe-put (omega arith) (omega arith))
      (touched-then (touched-wide (removal_place n) removal_room clock-put (omega arith) (omega arith))
      (touched-wide (removal_place n) removal_room unlisted-put (omega arith) (omega arith)))

  pub removal-touched : Touched waits_place 1 laid (removal_begun n r w)
  unfolding removal_begun
  removal-touched = touched-put 0 waits_place (n + 1) laid (omega arith) (omega (arith, laid-long))

  removal-count : waiting_count_at (removal_begun n r w) ≡ n + 1
  unfolding removal_begun
  removal-count = ap (λ x. min x waiting_limit) (put-read 0 waits_place (n + 1) laid (omega arith) (omega (arith, laid-long))) ∙ omega arith

  removal-dots : dots_at (removal_begun n r w) (removal_place n) ≡ dot_of r ∷ []
  removal-dots =
      let none = no-dots (removal_place n) wiped (put-read 0 (removal_place n) 0 w (omega arith) (omega arith)) in
      same-dots (above-touched (removal_place n) clock_room removal-touched (omega arith)) (removal_place n) (omega arith) (omega arith)
      ∙ same-dots (below-touched (removal_place n) clock_room unlisted-put (omega arith)) (removal_place n) (omega arith) (omega arith)
      ∙ dot-more (removal_place n) r wiped f (omega (arith, wiped-long)) (rw none (omega arith)) ∙ ap (λ l. l ++ (dot_of r ∷ [])) none

  removal-keys : listed_at (removal_begun n r w) n ≡ []
  unfolding listed_at numbers_below
  removal-keys =
      let none = same-num 0 (keys_place n) (above-touched (keys_place n) 1 removal-touched (omega arith)) (omega arith) (omega arith)
      ∙ put-read 0 (keys_place n) 0 clocked (omega arith) (omega (arith, clocked-long)) in
      ap (λ c. map (λ i. num_at 2 (key_place n i) (removal_begun n r w)) (numbers_below (min c key_limit))) none

  module _ (count : waiting_count_at w ≡ n) where
    pub removal-added : waiting_at (removal_begun n r w) ≡ waiting_at w ++ (removal_as (dot_of r ∷ []) [] ∷ [])
    unfolding waiting_at
    removal-added =
        let v = removal_begun n r w in
        let now : removal_at v n ≡ removal_as (dot_of r ∷ []) [] = rw (removal-dots, removal-keys) in
        ap (λ c. map (removal_at v) (numbers_below c)) removal-count ∙ below_more (removal_at v) n
        ∙ ap₂ (λ l x. l ++ (x ∷ []))
        (below-same (removal_at v) (removal_at w) n
        (λ i h. same-removal (above-touched (removal_place i) removal_room removal-touched (omega arith)) i (omega arith) (omega arith)
        ∙ same-removal (below-touched (removal_place i) removal_room laid-touched (omega arith)) i (omega arith) (omega arith))) now
        ∙ ap (λ c. map (removal_at w) (numbers_below c) ++ (removal_as (dot_of r ∷ []) [] ∷ [])) (sym count)
