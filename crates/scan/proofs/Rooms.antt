-- What well-formed records within the limits leave room for: one more of each thing that an image's reader stores.
use mathlib.Core.Path.{◌≡◌, refl, ap, sym, ◌∙◌}
use mathlib.Core.Bool.{Bool, true, false, not, ◌&&◌, ◌||◌}
use mathlib.Core.Logic.{⊎_elim}
use mathlib.Core.List.Memᴰ
use mathlib.Core.List.{List, [], ◌∷◌, ◌++◌}
use Prim.Native.Nat.{ℕ, suc, ◌≤◌, ◌<◌}
use native.Mathlib.Omega.{arith}
use lib.Dec.{eqb, leb}
use lib.Bits.{bit_and}
use lib.ListN.{length, length-append}
use borrow.Author.Tests.{eq-eqb, ne_eqb, eqb-true, leb-true, ltb-true}
use Rattle.listlaws.specs.Order.{◌∈◌}
use Rattle.listlaws.specs.Sift.{sift, those}
use Rattle.listlaws.proofs.Somes.{false-some}
use Rattle.records.specs.declared.Record.{Record}
use Rattle.records.specs.Kinds.{actor_of, before, record_ok, fields_ok, field_ok, mask_of}
use Rattle.records.proofs.Rule.{is_dot, is_value, uses_index, uses_actor, uses_key, uses_number, Row, row_of}
use Rattle.scan.specs.Each.{each_after, count_after}
use Rattle.scan.specs.Formed.{follows, well_formed}
use Rattle.scan.specs.Limits.{outer, middle, inner, outer_limits, middle_limits, inner_limits, limit_at, same_kind, same_outer, same_middle, fresh}
use Rattle.scan.specs.Limits.{tally, within, room}
use Rattle.scan.proofs.Eachs.{both_left, both_right, both, decide, every-at}
use Rattle.scan.proofs.Befores.{Before, before-fields}
use Rattle.scan.proofs.Scans.{within-snoc, alike, alike-outer, alike-index, outer-key}

-- those that pass, with one element more
pub those-yes : {A : Type 0} (test : A → Bool) (l : List A) (x : A) → test x ≡ true → those test (l ++ (x ∷ [])) ≡ those test l ++ (x ∷ [])
unfolding sift
those-yes test [] x t = rw t
those-yes test (y ∷ l) x t =
    decide (test y) (λ a. rw a (ap (λ m. y ∷ m) (those-yes test l x t))) (λ a. rw a (those-yes test l x t))

pub those-no : {A : Type 0} (test : A → Bool) (l : List A) (x : A) → test x ≡ false → those test (l ++ (x ∷ [])) ≡ those test l
unfolding sift
those-no test [] x t = rw t
those-no test (y ∷ l) x t =
    decide (test y) (λ a. rw a (ap (λ m. y ∷ m) (those-no test l x t))) (λ a. rw a (those-no test l x t))

module _ (low high : ℕ) where
  good-after : (seen l : List Record) → each_after (follows low high) seen l ≡ true → (x : Record) → x ∈ l → record_ok low high x ≡ true
  unfolding each_after
  good-after seen [] e x i = absurd (Memᴰ.not-nil i)
  good-after seen (y ∷ l) e x i =
      ⊎_elim
      (λ (q : x ≡ y). rw q (both_left (record_ok low high y) _ (both_left (follows low high seen y) _ e)))
      (λ j. good-after (seen ++ (y ∷ [])) l (both_right (follows low high seen y) _ e) x j)
      (Memᴰ.cases_cons i)

  -- each record is good by itself
  pub good-at : (l : List Record) → well_formed low high l ≡ true → (x : Record) → x ∈ l → record_ok low high x ≡ true
  unfolding well_formed
  good-at l e x i = good-after [] l e x i

  -- records of a group that f tells apart are all counted
  module _ (group : Record → Bool) (f : Record → ℕ)
      (tells : (s x : Record) → Before s x → record_ok low high x ≡ true → group s ≡ true → group x ≡ true → f s ≡ f x → ⊥) where
    all_after : (seen l : List Record) → each_after (follows low high) seen l ≡ true → count_after (fresh group f) seen l ≡ length (those group l)
    unfolding each_after count_after sift
    all_after seen [] e = refl
    all_after seen (x ∷ l) e =
        let rest = all_after (seen ++ (x ∷ [])) l (both_right (follows low high seen x) _ e) in
        decide (group x)
        (λ g. rw (g, false-some (λ s. group s && eqb (f s) (f x)) seen (λ s i. first g s i)) (ap suc rest))
        (λ g. rw g rest)
      where
        follows-here : follows low high seen x ≡ true
        follows-here = both_left (follows low high seen x) _ e

        first : group x ≡ true → (s : Record) → s ∈ seen → (group s && eqb (f s) (f x)) ≡ false
        first g s i =
            let b = before-fields (every-at (λ s. before s x) seen s (both_right (record_ok low high x) _ follows-here) i) in
            decide (group s)
            (λ a. rw a (ne_eqb (f s) (f x) (tells s x b (both_left (record_ok low high x) _ follows-here) a g)))
            (λ a. rw a)

    pub tally-length : (l : List Record) → well_formed low high l ≡ true → tally group f l ≡ length (those group l)
    unfolding tally well_formed
    tally-length l e = all_after [] l e

-- an unused field is zero
module _ (low high : ℕ) (r : Record) (good : record_ok low high r ≡ true) where
  fields : fields_ok (mask_of r.kind) r ≡ true
  unfolding record_ok
  fields = both_left (fields_ok (mask_of r.kind) r) _ (both_right (leb r.kind high) _ (both_right (leb low r.kind) _ good))

  unused : (bit x : ℕ) → field_ok (mask_of r.kind) bit x ≡ true → eqb (bit_and (mask_of r.kind) bit) 0 ≡ true → x ≡ 0
  unused bit x e z = eqb-true x 0 (rw z at e)

  module _ {kind : ℕ} (k : r.kind ≡ kind) where
    row : Row kind (mask_of r.kind)
    row = rw k (row_of kind)

    pub no_index : uses_index kind ≡ false → r.index ≡ 0
    no_index z = unused 1 r.index (both_left (field_ok (mask_of r.kind) 1 r.index) _ fields) (row.index ∙ ap not z)

    pub no-actor : uses_actor kind ≡ false → r.actor ≡ 0
    no-actor z =
        unused 2 r.actor
        (both_left (field_ok (mask_of r.kind) 2 r.actor) _ (both_right (field_ok (mask_of r.kind) 1 r.index) _ fields))
        (row.actor ∙ ap not z)

    -- what is no dot is ordered by no actor: a value's field is skipped, the others' is zero
    pub unordered : is_dot kind ≡ false → actor_of r ≡ 0
    unordered z =
        decide (is_value r.kind) (λ t. rw t) (λ f. rw f (no-actor (ap (λ b. b || is_value kind) z ∙ ap is_value (sym k) ∙ f)))

    pub no_key : uses_key kind ≡ false → r.key ≡ 0
    no_key z =
        unused 4 r.key
        (both_left (field_ok (mask_of r.kind) 4 r.key) _ (both_right (field_ok (mask_of r.kind) 2 r.actor) _
        (both_right (field_ok (mask_of r.kind) 1 r.index) _ fields)))
        (row.key ∙ ap not z)

    pub no_number : uses_number kind ≡ false → r.number ≡ 0
    no_number z =
        unused 8 r.number
        (both_right (field_ok (mask_of r.kind) 4 r.key) _ (both_right (field_ok (mask_of r.kind) 2 r.actor) _
        (both_right (field_ok (mask_of r.kind) 1 r.index) _ fields)))
        (row.number ∙ ap not z)

    -- the number is a counter from 1, except in kinds 3 and 11
    pub counter-from-one : uses_number kind ≡ true → (r.kind ≡ 3 → ⊥) → (r.kind ≡ 11 → ⊥) → 0 < r.number
    unfolding record_ok
    counter-from-one used three eleven =
        let c = both_right (fields_ok (mask_of r.kind) r) _ (both_right (leb r.kind high) _ (both_right (leb low r.kind) _ good)) in
        ltb-true 0 r.number (rw (row.number ∙ ap not used, ne_eqb r.kind 3 three, ne_eqb r.kind 11 eleven) at c)

-- one record more, in its own groups
module _ (low high : ℕ) (l : List Record) (r : Record) (w : well_formed low high (l ++ (r ∷ [])) ≡ true) (h : within (l ++ (r ∷ [])) ≡ true) where
  room-here : room l r ≡ true
  room-here = both_right (within l) (room l r) (sym (within-snoc l r) ∙ h)

  fewer : (group : Record → Bool) (f : Record → ℕ) (limit : ℕ)
      → ((s x : Record) → Before s x → record_ok low high x ≡ true → group s ≡ true → group x ≡ true → f s ≡ f x → ⊥)
      → group r ≡ true → tally group f (l ++ (r ∷ [])) ≤ limit → length (those group l) < limit
  fewer group f limit tells g b =
      let e = tally-length low high group f tells (l ++ (r ∷ [])) w in
      let n = ap length (those-yes group l r g) ∙ length-append (those group l) (r ∷ []) in
      omega arith

  pub outer-few : tally (same_kind r) outer (l ++ (r ∷ [])) ≤ limit_at outer_limits r.kind
  outer-few = leb-true _ _ (both_left (leb (tally (same_kind r) outer (l ++ (r ∷ []))) (limit_at outer_limits r.kind)) _ room-here)

  pub middle-few : tally (same_outer r) middle (l ++ (r ∷ [])) ≤ limit_at middle_limits r.kind
  middle-few =
      leb-true _ _
      (both_left (leb (tally (same_outer r) middle (l ++ (r ∷ []))) (limit_at middle_limits r.kind)) _
      (both_right (leb (tally (same_kind r) outer (l ++ (r ∷ []))) (limit_at outer_limits r.kind)) _ room-here))

  inner-few : tally (same_middle r) inner (l ++ (r ∷ [])) ≤ limit_at inner_limits r.kind
  inner-few =
      leb-true _ _
      (both_right (leb (tally (same_outer r) middle (l ++ (r ∷ []))) (limit_at middle_limits r.kind)) _
      (both_right (leb (tally (same_kind r) outer (l ++ (r ∷ []))) (limit_at outer_limits r.kind)) _ room-here))

  -- dots
  pub inner_room : (r.kind ≡ 6 → ⊥) → length (those (same_middle r) l) < limit_at inner_limits r.kind
  inner_room plain =
      fewer (same_middle r) inner (limit_at inner_limits r.kind) tells
      (both (same_outer r r) (eqb (middle r) (middle r)) (alike-outer r r plain refl refl) (eq-eqb (middle r) (middle r) refl)) inner-few
    where
      tells : (s x : Record) → Before s x → record_ok low high x ≡ true → same_middle r s ≡ true → same_middle r x ≡ true → actor_of s ≡ actor_of x
          → ⊥
      tells s x b o gs gx e =
          let hs = alike r s plain (both_left (same_outer r s) (eqb (middle s) (middle r)) gs) in
          let hx = alike r x plain (both_left (same_outer r x) (eqb (middle x) (middle r)) gx) in
          omega (arith, b.actor (hs.kind ∙ sym hx.kind) (hs.key ∙ sym hx.key) (alike-index r s plain gs ∙ sym (alike-index r x plain gx)))

-- the kind of a good record stands in the image's range
pub kind-range : (low high : ℕ) (r : Record) → record_ok low high r ≡ true → (low ≤ r.kind) × (r.kind ≤ high)
unfolding record_ok
kind-range low high r good = (
  leb-true low r.kind (both_left (leb low r.kind) _ good),
  leb-true r.kind high (both_left (leb r.kind high) _ (both_right (leb low r.kind) _ good)),
)

-- keys, in a kind that has nothing else
pub outer-room : (low high : ℕ) (l : List Record) (r : Record) → well_formed low high (l ++ (r ∷ [])) ≡ true → within (l ++ (r ∷ [])) ≡ true
    → (kind : ℕ) → r.kind ≡ kind → (kind ≡ 6 → ⊥) → uses_index kind ≡ false → is_dot kind ≡ false
    → length (those (λ x. eqb x.kind kind) l) < limit_at outer_limits kind
outer-room low high l r w h kind k plain i a =
    rw (← k) (fewer low high l r w h (same_kind r) outer (limit_at outer_limits r.kind) tells (eq-eqb r.kind r.kind refl)
    (outer-few low high l r w h))
  where
    tells : (s x : Record) → Before s x → record_ok low high x ≡ true → same_kind r s ≡ true → same_kind r x ≡ true → outer s ≡ outer x → ⊥
    tells s x b good gs gx e =
        let ks = eqb-true s.kind r.kind gs in
        let kx = eqb-true x.kind r.kind gx in
        let sx = ks ∙ sym kx in
        let y = sym (outer-key s (λ z. plain (sym k ∙ sym ks ∙ z))) ∙ e ∙ outer-key x (λ z. plain (sym k ∙ sym kx ∙ z)) in
        let xi = no_index low high x good (kx ∙ k) i in
        let xa = unordered low high x good (kx ∙ k) a in
        let si = b.index sx y in
        let same : s.index ≡ x.index = omega arith in
        omega (arith, b.actor sx y same)

-- values under a key, or keys under an index: what stands in the second level, in a kind that is no dot
pub middle-room : (low high : ℕ) (l : List Record) (r : Record) → well_formed low high (l ++ (r ∷ [])) ≡ true → within (l ++ (r ∷ [])) ≡ true
    → is_dot r.kind ≡ false → length (those (same_outer r) l) < limit_at middle_limits r.kind
middle-room low high l r w h a =
    fewer low high l r w h (same_outer r) middle (limit_at middle_limits r.kind) tells
    (both (same_kind r r) (eqb (outer r) (outer r)) (eq-eqb r.kind r.kind refl) (eq-eqb (outer r) (outer r) refl))
    (middle-few low high l r w h)
  where
    tells : (s x : Record) → Before s x → record_ok low high x ≡ true → same_outer r s ≡ true → same_outer r x ≡ true → middle s ≡ middle x → ⊥
    tells s x b good gs gx e =
        let ks = eqb-true s.kind r.kind (both_left (same_kind r s) (eqb (outer s) (outer r)) gs) in
        let kx = eqb-true x.kind r.kind (both_left (same_kind r x) (eqb (outer x) (outer r)) gx) in
        let o = eqb-true (outer s) (outer r) (both_right (same_kind r s) (eqb (outer s) (outer r)) gs)
        ∙ sym (eqb-true (outer x) (outer r) (both_right (same_kind r x) (eqb (outer x) (outer r)) gx)) in
        let sx = ks ∙ sym kx in
        let xa = unordered low high x good kx a in
        decide (eqb x.kind 6)
        (λ t. let y : s.key ≡ x.key = rw (sx, t) at e in let i : s.index ≡ x.index = rw (sx, t) at o in omega (arith, b.actor sx y i))
        (λ f. let y : s.key ≡ x.key = rw (sx, f) at o in let i : s.index ≡ x.index = rw (sx, f) at e in omega (arith, b.actor sx y i))
