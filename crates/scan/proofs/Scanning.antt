-- A scan keeps what it holds, through a record that follows the last.
use mathlib.Core.Path.{◌≡◌, refl, ap, sym, ◌∙◌}
use mathlib.Core.Bool.{Bool, true, false, cond, ◌&&◌}
use mathlib.Core.Logic.{◌⊎◌, inl, inr, ⊎_elim}
use mathlib.Core.List.Memᴰ
use mathlib.Core.List.{List, [], ◌∷◌, ◌++◌}
use Prim.Native.Nat.{ℕ, zero, suc, ◌+◌, ◌≤◌, ◌<◌}
use native.Mathlib.Omega.{arith}
use lib.Dec.{eqb, ltb, leb}
use lib.ListN.{length, get_or, set, replicate}
use lib.Seq.{get_or-set_same, get_or-set_other, set-get_or}
use borrow.Author.Tests.{eq-eqb, ne_eqb, eqb-true, eqb-false, leb-true, lt-ltb, le-ltb}
use Rattle.listlaws.specs.Order.{◌∈◌}
use Rattle.listlaws.specs.First.{some}
use Rattle.listlaws.proofs.Orders.{apart}
use Rattle.listlaws.proofs.Somes.{some_holds, false-some}
use Rattle.records.specs.declared.Record.{Record}
use Rattle.records.specs.Kinds.{actor_of, before, record_ok}
use Rattle.scan.specs.Each.{every, each_after, count_after}
use Rattle.scan.specs.Formed.{follows, well_formed}
use Rattle.scan.specs.Limits.{outer, middle, inner, outer_limits, middle_limits, inner_limits, limit_at, same_kind, same_outer, same_middle, tally}
use Rattle.scan.specs.Limits.{within, room, within_limits}
use Rattle.scan.specs.Scanned.{tally_on, Ends, Tallied, Scanned, CountsUnder, CountedUnder}
use Rattle.scan.specs.Stepping.{tally_to, by_key, by_index, limits_judged, counted_on, behind_last, scan_on, under_on}
use Rattle.scan.specs.Numbers.{scan_number}
use Rattle.scan.specs.declared.Scan.{Scan}
use Rattle.scan.proofs.Eachs.{both_left, both_right, both, decide, every-at}
use Rattle.scan.proofs.Befores.{Before, before-fields}
use Rattle.scan.proofs.Tallies.{tally-step, tally-new, tally-other, tally-some, tally-none}
use Rattle.scan.proofs.Rooms
use Rattle.scan.proofs.Scans.{formed-snoc, within-snoc, outer-on, middle-on, inner-on, last-outer, last-middle, some-by-last, follows-last}

-- the waiting keys under an index, with a record of a kind, in two cases
pub under-steps : (n kind : ℕ) {r : ℕ} → r ≡ under_on n kind → (kind ≡ 6 → n < 255 → r ≡ n + 1) × ((kind ≡ 6 → ⊥) → r ≡ n)
under-steps n kind e = (λ k h. e ∙ rw (eq-eqb kind 6 k, lt-ltb n 255 h), λ k. e ∙ rw (ne_eqb kind 6 k))

-- each count of the record's own groups
record Counts (l : List Record) (r : Record) (s : Scan) : Type 0 where
  pub by-outer : s.outer ≡ tally (same_kind r) outer (l ++ (r ∷ []))
  pub by-middle : s.middle ≡ tally (same_outer r) middle (l ++ (r ∷ []))
  pub by-inner : s.inner ≡ tally (same_middle r) inner (l ++ (r ∷ []))

-- a count that is small does not stand still
to-on : (n : ℕ) (group same : Bool) → n ≤ 255 → tally_to n group same ≡ tally_on n group same
to-on n false same h = refl
to-on n true false h = rw (lt-ltb n 256 (omega arith))
to-on n true true h = refl

-- a list that is empty has no members
nothing : {l : List Record} → l ≡ [] → {B : Type 0} (s : Record) → s ∈ l → B
nothing e s i = absurd (Memᴰ.not-nil (rw e at i))

itself : (r : Record) → same_kind r r ≡ true
itself r = eq-eqb r.kind r.kind refl

itself-outer : (r : Record) → same_outer r r ≡ true
itself-outer r = both (same_kind r r) (eqb (outer r) (outer r)) (itself r) (eq-eqb (outer r) (outer r) refl)

itself-middle : (r : Record) → same_middle r r ≡ true
itself-middle r = both (same_outer r r) (eqb (middle r) (middle r)) (itself-outer r) (eq-eqb (middle r) (middle r) refl)

-- a waiting key is counted by its index, and under that by its key
its-outer : (s : Record) → s.kind ≡ 6 → outer s ≡ s.index
its-outer s e = rw (eq-eqb s.kind 6 e)

its-middle : (s : Record) → s.kind ≡ 6 → middle s ≡ s.key
its-middle s e = rw (eq-eqb s.kind 6 e)

module _ (low high : ℕ) (l : List Record) (r : Record) (w : well_formed low high l ≡ true) (f : follows low high l r ≡ true) where
  -- r stands behind all
  all-before : (s : Record) → s ∈ l → Before s r
  all-before s i = before-fields (every-at (λ s. before s r) l s (both_right (record_ok low high r) (every (λ s. before s r) l) f) i)

  module _ (pre : List Record) (q : Record) (e : l ≡ pre ++ (q ∷ [])) where
    in-last : q ∈ l
    in-last = rw e (Memᴰ.append_right pre (Memᴰ.head refl))

    up_to : (s : Record) → s ∈ l → (s ≡ q) ⊎ Before s q
    up_to s i =
        ⊎_elim
        (λ j. inr (before-fields (every-at (λ s. before s q) pre s (both_right (record_ok low high q) (every (λ s. before s q) pre) formed) j)))
        (λ j. inl (Memᴰ.eq_of_singleton j))
        (Memᴰ.append_cases pre (rw e at i))
      where
        formed : follows low high pre q ≡ true
        formed = both_right (well_formed low high pre) (follows low high pre q)
            (sym (formed-snoc low high pre q) ∙ ap (well_formed low high) (sym e) ∙ w)

  -- a record that is no waiting key
  key_counts : (s : Scan) → (r.kind ≡ 6 → ⊥) → Ends l s.any s.last → Tallied l s → Counts l r (by_key s r)
  key_counts s plain (inl e) t = record {
    by-outer = rw e.0 (tally-step (same_kind r) outer l r s.outer false false (itself r) (λ _ x i. nothing e.1 x i) (λ b. apart (sym b)));
    by-middle = rw e.0 (tally-step (same_outer r) middle l r s.middle false false (itself-outer r) (λ _ x i. nothing e.1 x i)
        (λ b. apart (sym b)));
    by-inner = rw e.0 (tally-step (same_middle r) inner l r s.inner false false (itself-middle r) (λ _ x i. nothing e.1 x i)
        (λ b. apart (sym b)));
  }
  key_counts s plain (inr e) t =
      let q = s.last in
      let pre = e.1.0 in
      let last = in-last pre q e.1.1 in
      let upto = up_to pre q e.1.1 in
      let behind = all-before q last in
      record {
        by-outer = rw (e.0, last-outer q r plain, to-on s.outer _ _ t.small.0)
            (outer-on l q r last upto behind s.outer (same_outer r q) t.by-outer (found q last upto behind));
        by-middle = rw (e.0, last-middle q r plain, last-outer q r plain, to-on s.middle _ _ t.small.1.0)
            (middle-on l q r last upto behind s.middle plain t.by-middle);
        by-inner = rw (e.0, last-middle q r plain, to-on s.inner _ _ t.small.1.1)
            (inner-on l q r last upto behind s.inner plain all-before t.by-inner);
      }
    where
      found : (q : Record) → q ∈ l → ((s : Record) → s ∈ l → (s ≡ q) ⊎ Before s q) → Before q r → some (same_outer r) l ≡ same_outer r q
      found q last upto behind = some-by-last l q r last upto behind (same_outer r)
          (Rattle.scan.proofs.Scans.same-outer l q r last upto behind plain)

  -- a waiting key has no actor
  unordered : r.kind ≡ 6 → actor_of r ≡ 0
  unordered k = Rooms.unordered low high r (both_left (record_ok low high r) (every (λ s. before s r) l) f) k refl

  module _ (k : r.kind ≡ 6) where
    -- no waiting key before r shares its index and key
    apart-key : (s : Record) → s ∈ l → same_middle r s ≡ false
    apart-key s i =
        decide (same_middle r s)
        (λ t. let o = both_left (same_outer r s) (eqb (middle s) (middle r)) t in
        let sk = eqb-true s.kind r.kind (both_left (same_kind r s) (eqb (outer s) (outer r)) o) in
        let x = eqb-true (outer s) (outer r) (both_right (same_kind r s) (eqb (outer s) (outer r)) o) in
        let y = eqb-true (middle s) (middle r) (both_right (same_outer r s) (eqb (middle s) (middle r)) t) in
        absurd (omega (
          arith,
          (all-before s i).actor sk (sym (its-middle s (sk ∙ k)) ∙ y ∙ its-middle r k)
              (sym (its-outer s (sk ∙ k)) ∙ x ∙ its-outer r k),
          unordered k,
        )))
        (λ n. n)

    key_more : (n : ℕ) → n ≡ tally (same_outer r) middle l → n + 1 ≡ tally (same_outer r) middle (l ++ (r ∷ []))
    key_more n u = rw u (sym (tally-new (same_outer r) middle l r (itself-outer r) (false-some (same_middle r) l apart-key)))

    index-counts : (s : Scan) (n : ℕ) → n ≡ tally (same_outer r) middle l → Ends l s.any s.last → Tallied l s → Counts l r (by_index s r n)
    index-counts s n u ends t = record {
      by-outer = ⊎_elim first further ends;
      by-middle = key_more n u;
      by-inner = tally-step (same_middle r) inner l r 0 false false (itself-middle r) (λ _. apart-key) (λ b. apart (sym b));
    }
      where
        held : some (same_outer r) l ≡ ltb 0 n
        held =
            decide (some (same_outer r) l)
            (λ y. y ∙ sym (lt-ltb 0 n (rw u (tally-some (same_outer r) middle l y))))
            (λ z. z ∙ sym (le-ltb 0 n (rw (
              u,
              tally-none (same_outer r) middle l
                  (λ x i. decide (same_outer r x) (λ y. apart (sym (some_holds (same_outer r) i y) ∙ z)) (λ a. a)),
            ) (omega arith))))

        first : (s.any ≡ false) × (l ≡ []) → tally_to s.outer (s.any && eqb s.last.kind r.kind) (ltb 0 n) ≡ tally (same_kind r) outer
            (l ++ (r ∷ []))
        first e = rw e.0 (tally-step (same_kind r) outer l r s.outer false false (itself r) (λ _ x i. nothing e.1 x i) (λ b. apart (sym b)))

        further : (s.any ≡ true) × ((pre : List Record) × (l ≡ pre ++ (s.last ∷ [])))
            → tally_to s.outer (s.any && eqb s.last.kind r.kind) (ltb 0 n) ≡ tally (same_kind r) outer (l ++ (r ∷ []))
        further e =
            let q = s.last in
            let pre = e.1.0 in
            let last = in-last pre q e.1.1 in
            let upto = up_to pre q e.1.1 in
            rw (e.0, to-on s.outer (same_kind r q) (ltb 0 n) t.small.0)
            (outer-on l q r last upto (all-before q last) s.outer (ltb 0 n) t.by-outer held)

-- a table all of whose rows are small
small-rows : (limits : List ℕ) → every (λ x. leb x 255) limits ≡ true → (kind : ℕ) → limit_at limits kind ≤ 255
unfolding every
small-rows [] e kind = omega arith
small-rows (x ∷ l) e zero = leb-true x 255 (both_left (leb x 255) (every (λ x. leb x 255) l) e)
small-rows (x ∷ l) e (suc kind) = small-rows l (both_right (leb x 255) (every (λ x. leb x 255) l) e) kind

-- counts within the limits of a kind are small
small-counts : (kind o m i : ℕ) → within_limits kind o m i ≡ true → (o ≤ 255) × ((m ≤ 255) × (i ≤ 255))
unfolding every
small-counts kind o m i e =
    let a = leb-true o (limit_at outer_limits kind) (both_left (leb o (limit_at outer_limits kind)) _ e) in
    let rest = both_right (leb o (limit_at outer_limits kind)) _ e in
    let b = leb-true m (limit_at middle_limits kind) (both_left (leb m (limit_at middle_limits kind)) (leb i (limit_at inner_limits kind)) rest) in
    let c = leb-true i (limit_at inner_limits kind) (both_right (leb m (limit_at middle_limits kind)) (leb i (limit_at inner_limits kind)) rest) in
    let x = small-rows outer_limits refl kind in
    let y = small-rows middle_limits refl kind in
    let z = small-rows inner_limits refl kind in
    (omega arith, (omega arith, omega arith))

-- a waiting key that r is not under
other-index : (p r : Record) → p.kind ≡ 6 → (r.kind ≡ 6 → (r.index ≡ p.index → ⊥)) → same_outer p r ≡ false
other-index p r k n =
    decide (eqb r.kind p.kind)
    (λ t. let rk = eqb-true r.kind p.kind t ∙ k in
    rw (t, its-outer r rk, its-outer p k) (ne_eqb r.index p.index (n rk)))
    (λ z. rw z)

module _ (low high : ℕ) (l : List Record) (r : Record) (w : well_formed low high l ≡ true) (f : follows low high l r ≡ true) (under : List ℕ)
    (t : CountedUnder l under) where
  -- with r, which is one
  under-key : r.kind ≡ 6 → r.index < length under → CountedUnder (l ++ (r ∷ [])) (set under r.index (get_or under r.index 0 + 1))
  under-key rk h p k =
      decide (eqb p.index r.index)
      (λ b. let x = eqb-true p.index r.index b in
      rw x (get_or-set_same under r.index _ 0 h)
      ∙ key_more low high l r w f rk (get_or under r.index 0) (t r rk)
      ∙ ap (λ y. tally (λ a. eqb a.kind y && eqb (outer a) (outer r)) middle (l ++ (r ∷ []))) (rk ∙ sym k)
      ∙ ap (λ y. tally (λ a. eqb a.kind p.kind && eqb (outer a) y) middle (l ++ (r ∷ []))) (its-outer r rk ∙ sym x ∙ sym (its-outer p k)))
      (λ b. let n = eqb-false p.index r.index b in
      get_or-set_other under r.index p.index _ 0 n ∙ t p k
      ∙ sym (tally-other (same_outer p) middle l r (other-index p r k (λ _ e. n (sym e)))))

  under-plain : (r.kind ≡ 6 → ⊥) → CountedUnder (l ++ (r ∷ [])) under
  under-plain n p k = t p k ∙ sym (tally-other (same_outer p) middle l r (other-index p r k (λ e _. n e)))

-- the number of a scan with one record more
number-on : (low high : ℕ) (l : List Record) (r : Record) → well_formed low high l ≡ true → follows low high l r ≡ true → within l ≡ true
    → scan_number low high (l ++ (r ∷ [])) ≡ cond (room l r) 0 2
unfolding scan_number
number-on low high l r w f h = rw (formed-snoc low high l r, w, f, within-snoc l r, h)

-- the three numbers of a scan, and what each says
said : {R : Type 0} (low high : ℕ) (l : List Record) → (well_formed low high l ≡ true → within l ≡ true → scan_number low high l ≡ 0 → R)
    → (well_formed low high l ≡ true → within l ≡ false → scan_number low high l ≡ 2 → R)
    → (well_formed low high l ≡ false → scan_number low high l ≡ 1 → R) → R
unfolding scan_number
said low high l good over bad =
    decide (well_formed low high l)
    (λ w. decide (within l) (λ h. good w h (rw (w, h))) (λ h. over w h (rw (w, h))))
    (λ w. bad w (rw w))

module _ (low high : ℕ) (l : List Record) (r : Record) where
  -- the record becomes the last
  ends_on : Ends (l ++ (r ∷ [])) true r
  ends_on = inr (refl, (l, refl))

  judged-on : (s : Scan) → well_formed low high l ≡ true → follows low high l r ≡ true → within l ≡ true → s.number ≡ 0 → Counts l r s
      → Scanned low high (l ++ (r ∷ [])) (limits_judged s r)
  judged-on s w f h z c = record {
    number = rw (number-on low high l r w f h, ← c.by-outer, ← c.by-middle, ← c.by-inner, z);
    ends = λ _. ends_on;
    tallied = λ e. let fit = fits (within_limits r.kind s.outer s.middle s.inner) e in
        record {
          by-outer = c.by-outer;
          by-middle = c.by-middle;
          by-inner = c.by-inner;
          small = small-counts r.kind s.outer s.middle s.inner fit;
        };
  }
    where
      fits : (b : Bool) → cond b s.number 2 ≡ 0 → b ≡ true
      fits true e = refl
      fits false e = absurd (omega arith)

  still-over : well_formed low high l ≡ true → follows low high l r ≡ true → within l ≡ false → scan_number low high (l ++ (r ∷ [])) ≡ 2
  unfolding scan_number
  still-over w f i = rw (formed-snoc low high l r, w, f, within-snoc l r, i)

  -- after a record that follows
  scanned-on : (s : Scan) (n : ℕ) → Scanned low high l s → (s.number ≡ 0 → CountsUnder low high l r n) → (s.number ≡ 1 → ⊥)
      → follows low high l r ≡ true → Scanned low high (l ++ (r ∷ [])) (counted_on s r n)
  scanned-on s c sc u n f =
      said low high l
      (λ w i z. let e = sc.number ∙ z in
      let t = sc.tallied e in
      rw (eq-eqb s.number 0 e)
      (decide (eqb r.kind 6)
      (λ a. let k = eqb-true r.kind 6 a in
      rw a (judged-on (by_index s r c) w f i e (index-counts low high l r w f k s c (u e k (both_left (record_ok low high r) _ f)) (sc.ends w) t)))
      (λ a. let k = eqb-false r.kind 6 a in
      rw a (judged-on (by_key s r) w f i e (key_counts low high l r w f s k (sc.ends w) t)))))
      (λ w i z. let e = sc.number ∙ z in
      rw (ne_eqb s.number 0 (λ y. omega arith))
      (record { number = e ∙ sym (still-over w f i); ends = λ _. ends_on; tallied = λ y. absurd (omega arith) }))
      (λ w z. absurd (n (sc.number ∙ z)))

  -- once bad, bad to the end
  scanned-bad : (s : Scan) → (well_formed low high l && follows low high l r) ≡ false → s.number ≡ 1 → Scanned low high (l ++ (r ∷ [])) s
  unfolding scan_number
  scanned-bad s f e = record {
    number = e ∙ rw (formed-snoc low high l r, f);
    ends = λ w. apart (sym w ∙ formed-snoc low high l r ∙ f);
    tallied = λ z. absurd (omega arith);
  }

-- a scan whose number is not 1 has met well-formed records, and one whose number is 1 has not
well-formed : (low high : ℕ) (l : List Record) (s : Scan) → Scanned low high l s → (s.number ≡ 1 → ⊥) → well_formed low high l ≡ true
well-formed low high l s sc n = said low high l (λ w i z. w) (λ w i z. w) (λ w z. absurd (n (sc.number ∙ z)))

ill-formed : (low high : ℕ) (l : List Record) (s : Scan) → Scanned low high l s → s.number ≡ 1 → well_formed low high l ≡ false
ill-formed low high l s sc n =
    said low high l (λ w i z. let e = sc.number ∙ z in absurd (omega arith)) (λ w i z. let e = sc.number ∙ z in absurd (omega arith)) (λ w z. w)

-- after one record more
pub scanned-more : (low high : ℕ) (l : List Record) (r : Record) (n : ℕ) (s : Scan) → Scanned low high l s
    → (s.number ≡ 0 → CountsUnder low high l r n) → Scanned low high (l ++ (r ∷ [])) (scan_on low high s r n)
unfolding scan_on
scanned-more low high l r n s sc u =
    decide (eqb s.number 1)
    (λ t. let e = eqb-true s.number 1 t in rw t (scanned-bad low high l r s (rw (ill-formed low high l s sc e)) e))
    (λ t. let e = eqb-false s.number 1 t in
    let w = well-formed low high l s sc e in
    let same = follows-last low high l s.any s.last r w (sc.ends w) in
    decide (behind_last low high s r)
    (λ b. rw (t, b) (scanned-on low high l r s n sc u e (sym same ∙ b)))
    (λ b. rw (t, b) (scanned-bad low high l r _ (rw w (sym same ∙ b)) refl)))

-- nothing scanned yet
pub scanned-none : (low high : ℕ) (q : Record) → Scanned low high [] (record { number = 0; any = false; last = q; outer = 0; middle = 0; inner = 0 })
unfolding scan_number well_formed within each_after tally count_after
scanned-none low high q = record {
  number = refl;
  ends = λ _. inl (refl, refl);
  tallied = λ _. record { by-outer = refl; by-middle = refl; by-inner = refl; small = (omega arith, (omega arith, omega arith)) };
}

zeros : (n i : ℕ) → ◌≡◌ {A = ℕ} (get_or (replicate n 0) i 0) 0
zeros zero i = refl
zeros (suc n) zero = refl
zeros (suc n) (suc i) = zeros n i

pub under_none : (n : ℕ) → CountedUnder [] (replicate n 0)
unfolding tally count_after
under_none n p k = zeros n p.index

-- number 0: well formed and within the limits
pub scan_good : (low high : ℕ) (l : List Record) → scan_number low high l ≡ 0 → (well_formed low high l ≡ true) × (within l ≡ true)
scan_good low high l e = said low high l (λ w i z. (w, i)) (λ w i z. absurd (omega arith)) (λ w z. absurd (omega arith))

-- and so is all that stands before
pub scan-before : (low high : ℕ) (l : List Record) (r : Record) → scan_number low high (l ++ (r ∷ [])) ≡ 0 → scan_number low high l ≡ 0
unfolding scan_number
scan-before low high l r e =
    let g = scan_good low high (l ++ (r ∷ [])) e in
    rw (both_left (well_formed low high l) _ (sym (formed-snoc low high l r) ∙ g.0), both_left (within l) _ (sym (within-snoc l r) ∙ g.1))

-- a record in an image that is good so far is good by itself
pub scan-last : (low high : ℕ) (l : List Record) (r : Record) → scan_number low high (l ++ (r ∷ [])) ≡ 0 → record_ok low high r ≡ true
scan-last low high l r e =
    let g = scan_good low high (l ++ (r ∷ [])) e in
    both_left (record_ok low high r) _ (both_right (well_formed low high l) _ (sym (formed-snoc low high l r) ∙ g.0))

-- an image of kinds that waiting keys are not among
pub none-under : (low high : ℕ) (l : List Record) (r : Record) (n : ℕ) → (low ≤ 6 → 6 ≤ high → ⊥) → CountsUnder low high l r n
unfolding record_ok
none-under low high l r n never k good =
    let a = leb-true low r.kind (both_left (leb low r.kind) _ good) in
    let b = leb-true r.kind high (both_left (leb r.kind high) _ (both_right (leb low r.kind) _ good)) in
    absurd (never (omega arith) (omega arith))

-- the count of r's index is right where r is good so far, and there is room for one more
module _ (low high : ℕ) (l : List Record) (r : Record) (under : List ℕ) (u : CountedUnder l under) where
  pub counts-under : CountsUnder low high l r (get_or under r.index 0)
  counts-under k good = u r k

  module _ (z : scan_number low high (l ++ (r ∷ [])) ≡ 0) where
    formed : well_formed low high l ≡ true
    formed = both_left (well_formed low high l) _ (sym (formed-snoc low high l r) ∙ (scan_good low high (l ++ (r ∷ [])) z).0)

    behind : follows low high l r ≡ true
    behind = both_right (well_formed low high l) _ (sym (formed-snoc low high l r) ∙ (scan_good low high (l ++ (r ∷ [])) z).0)

    pub under_more : r.index < length under → (n : ℕ) → (r.kind ≡ 6 → get_or under r.index 0 < 255 → n ≡ get_or under r.index 0 + 1)
        → ((r.kind ≡ 6 → ⊥) → n ≡ get_or under r.index 0)
        → CountedUnder (l ++ (r ∷ [])) (set under r.index n)
    under_more h n more same =
        decide (eqb r.kind 6)
        (λ t. let k = eqb-true r.kind 6 t in
        let one = key_more low high l r formed behind k (get_or under r.index 0) (u r k) in
        rw (more k (omega (arith, one, most))) (under-key low high l r formed behind under u k h))
        (λ f. let k = eqb-false r.kind 6 f in rw (same k, set-get_or under r.index 0) (under-plain low high l r formed behind under u k))
      where
        most : tally (same_outer r) middle (l ++ (r ∷ [])) ≤ 255
        most = (small-counts r.kind _ _ _ (both_right (within l) (room l r) (sym (within-snoc l r) ∙ (scan_good low high (l ++ (r ∷ [])) z).1))).1.0
