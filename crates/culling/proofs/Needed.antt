-- The loop of step 4: what the marks of the places passed say, what step 3 had left, and a scan of what stays.
use mathlib.Core.Path.{◌≡◌, refl, ap, ap₂, sym, ◌∙◌}
use mathlib.Core.Bool.{Bool, true, false, cond, ◌&&◌, ◌||◌, and-false}
use mathlib.Core.List.{List, [], ◌∷◌, ◌++◌, map}
use Prim.Native.Nat.{ℕ, suc, ◌+◌, ◌≤◌, ◌<◌}
use native.Mathlib.Omega.{arith}
use borrow.Author.Tests.{eq-eqb, eqb-true, ltb-true, lt-leb}
use lib.Dec.{eqb, ltb}
use lib.ListN.{length, take, drop, get_or, set, replicate}
use lib.Seq.{split_at, append_snoc}
use Rattle.listlaws.specs.Sift.{sift, those}
use Rattle.records.specs.declared.Record.{Record}
use Rattle.records.specs.Kinds.{record_ok, before}
use Rattle.scan.specs.Each.{every, each_after}
use Rattle.scan.specs.Formed.{follows, well_formed}
use Rattle.scan.specs.Limits.{room, within}
use Rattle.scan.specs.Numbers.{scan_number}
use Rattle.scan.specs.Scanned.{Scanned, CountsUnder, CountedUnder}
use Rattle.scan.specs.declared.Scan.{Scan}
use Rattle.scan.proofs.Eachs.{both_left, both_right, both}
use Rattle.scan.proofs.Scans.{formed-snoc, within-snoc}
use Rattle.scan.proofs.Scanning.{scan_good, counts-under, under_more, under_none}
use Rattle.salvagerules.specs.Fates.{untouched, staying, taken}
use Rattle.salvagerules.specs.Needs.{need_met, kept_by_four}
use Rattle.salvagerules.specs.Steps.{step_two, step_three, step_four}
use Rattle.culling.specs.Marks.{MarkedRecord, is_left_at, left_items, plain_fates, after_three, after_four}
use Rattle.culling.proofs.Taking.{every-after, steps-after, third-formed}
use Rattle.culling.proofs.Marked.{no_marked, staying-plain, left-append, left_one, left-set}
use Rattle.culling.proofs.Passes.{Pass, pass-start, pass-here, pass-gone, pass_kept, pass-goes, pass-end, kept_more, kept_same, kept-gone}

-- where no step of 4 or more is told, what is left by step 3 is what stays
pub left-early : (from : ℕ) (l : List MarkedRecord) → every (λ f. ltb f.step from) (plain_fates l) ≡ true → left_items from l ≡ left_items 0 l
unfolding every sift
left-early from [] e = refl
left-early from (z ∷ l) e =
    let h = ltb-true z.mark from (both_left (ltb z.mark from) _ e) in
    rw (lt-leb from z.mark h, and-false (ltb 0 from))
    (go (eqb z.mark 0 || false) (left-early from l (both_right (ltb z.mark from) _ e)))
  where
    go : (b : Bool) → left_items from l ≡ left_items 0 l
        → map (λ y. y.item) (cond b (z ∷ those (is_left_at from) l) (those (is_left_at from) l))
        ≡ map (λ y. y.item) (cond b (z ∷ those (is_left_at 0) l) (those (is_left_at 0) l))
    go true q = ap (λ t. z.item ∷ t) q
    go false q = q

steps-none : (l : List Record) → every (λ f. ltb f.step 4) (map untouched l) ≡ true
unfolding every
steps-none [] = refl
steps-none (r ∷ l) = steps-none l

third-early : (l : List Record) → every (λ f. ltb f.step 4) (after_three l) ≡ true
unfolding step_two step_three
third-early l = steps-after 3 _ 4 (omega arith) [] _ (steps-after 2 _ 4 (omega arith) [] (map untouched l) (steps-none l))

-- what stands before a record of well-formed ones
formed-first : (test : List Record → Record → Bool) (seen a b : List Record) → each_after test seen (a ++ b) ≡ true → each_after test seen a ≡ true
unfolding each_after
formed-first test seen [] b e = refl
formed-first test seen (x ∷ a) b e =
    both (test seen x) _ (both_left (test seen x) _ e) (formed-first test (seen ++ (x ∷ [])) a b (both_right (test seen x) _ e))

follows-middle : (a b : List Record) (r : Record) → well_formed 1 6 (a ++ (r ∷ b)) ≡ true → follows 1 6 a r ≡ true
unfolding well_formed
follows-middle a b r e =
    both_right (well_formed 1 6 a) (follows 1 6 a r)
    (sym (formed-snoc 1 6 a r) ∙ formed-first (follows 1 6) [] (a ++ (r ∷ [])) b (ap (well_formed 1 6) (append_snoc a r b) ∙ e))

-- i of the records are passed; `scan` and `under` have taken what stays of them
pub record Needing (l : List Record) (xs₀ : List MarkedRecord) (i : ℕ) (xs : List MarkedRecord) (scan : Scan) (under : List ℕ) : Type 0 where
  pub pass : Pass 4 (kept_by_four (staying (after_three l))) xs₀ i xs
  pub third : left_items 4 xs ≡ staying (after_three l)
  pub scanned : Scanned 1 6 (left_items 0 (take i xs)) scan
  pub good : scan.number ≡ 0
  pub counted : CountedUnder (left_items 0 (take i xs)) under

module _ (l : List Record) (xs₀ : List MarkedRecord) (from : plain_fates xs₀ ≡ after_three l) where
  left-third : left_items 0 xs₀ ≡ staying (after_three l)
  left-third = sym (staying-plain xs₀) ∙ ap staying from

  pub need-start : {scan : Scan} → Scanned 1 6 [] scan → Needing l xs₀ 0 xs₀ scan (replicate 256 0)
  unfolding sift scan_number well_formed within each_after
  need-start sc = record {
    pass = pass-start;
    third = left-early 4 xs₀ (ap (every (λ f. ltb f.step 4)) from ∙ third-early l) ∙ left-third;
    scanned = sc;
    good = sc.number;
    counted = under_none 256;
  }

  module _ {i : ℕ} {xs : List MarkedRecord} {scan : Scan} {under : List ℕ} (g : Needing l xs₀ i xs scan under) (h : i < length xs₀) where
    here : i < length xs
    here = omega (arith, g.pass.long)

    pub need-skip : ((get_or xs i no_marked).mark ≡ 0 → ⊥) → Needing l xs₀ (i + 1) xs scan under
    need-skip k = let e = kept_same xs i here k in
        record {
          pass = pass-gone g.pass h k;
          third = g.third;
          scanned = rw e g.scanned;
          good = g.good;
          counted = rw e g.counted;
        }

    module _ (k : (get_or xs i no_marked).mark ≡ 0) where
      abbrev r : Record
      r = (get_or xs i no_marked).item

      abbrev seen : List Record
      seen = left_items 0 (take i xs)

      -- it stands behind all that stays
      behind : follows 1 6 seen r ≡ true
      behind =
          let z = get_or xs₀ i no_marked in
          let e = pass-here g.pass h in
          let m : z.mark ≡ 0 = ap (λ y. y.mark) (sym e) ∙ k in
          let rest = left_one 0 z (rw (eq-eqb z.mark 0 m)) in
          let split = sym left-third ∙ ap (left_items 0) (split_at xs₀ i no_marked h) ∙ left-append 0 (take i xs₀) (z ∷ drop (suc i) xs₀)
          ∙ ap (λ t. left_items 0 (take i xs₀) ++ t) (left-append 0 (z ∷ []) (drop (suc i) xs₀)
          ∙ ap (λ t. t ++ left_items 0 (drop (suc i) xs₀)) rest) in
          let f = follows-middle (left_items 0 (take i xs₀)) (left_items 0 (drop (suc i) xs₀)) z.item
          (ap (well_formed 1 6) (sym split) ∙ third-formed l) in
          let p : Record → Bool = λ s. before s z.item in
          let all = every-after 4 (kept_by_four (staying (after_three l))) p [] (plain_fates (take i xs₀))
          (ap (every p) (staying-plain (take i xs₀)) ∙ both_right (record_ok 1 6 z.item) _ f) in
          ap (λ (y : MarkedRecord). follows 1 6 seen y.item) e
          ∙ (both (record_ok 1 6 z.item) _ (both_left (record_ok 1 6 z.item) _ f)
          (ap (every p) (sym (staying-plain (take i xs)) ∙ ap staying g.pass.passed) ∙ all))

      sound : (well_formed 1 6 seen ≡ true) × (within seen ≡ true)
      sound = scan_good 1 6 seen (sym g.scanned.number ∙ g.good)

      number : scan_number 1 6 (seen ++ (r ∷ [])) ≡ cond (room seen r) 0 2
      unfolding scan_number
      number = rw (formed-snoc 1 6 seen r, sound.0, behind, within-snoc seen r, sound.1)

      module _ {more : Scan} (took : ((m : List Record) → Scanned 1 6 m scan → (scan.number ≡ 0 → CountsUnder 1 6 m r (get_or under r.index 0))
          → Scanned 1 6 (m ++ (r ∷ [])) more)) where
        now : Scanned 1 6 (seen ++ (r ∷ [])) more
        now = took seen g.scanned (λ z. counts-under 1 6 seen r under g.counted)

        -- the scan with the record says whether there is room
        roomy : eqb more.number 0 ≡ room seen r
        roomy = ap (λ n. eqb n 0) (now.number ∙ number) ∙ go (room seen r)
          where
            go : (b : Bool) → eqb (cond b 0 2) 0 ≡ b
            go true = refl
            go false = refl

        module _ {met : Bool} (needs : met ≡ need_met (left_items 4 xs) seen r) where
          kept : (met && eqb more.number 0) ≡ kept_by_four (staying (after_three l)) seen r
          kept = ap₂ (λ a b. a && b) (needs ∙ ap (λ t. need_met t seen r) g.third) roomy

          pub need-keep : (met && eqb more.number 0) ≡ true → r.index < length under → (n : ℕ)
              → (r.kind ≡ 6 → get_or under r.index 0 < 255 → n ≡ get_or under r.index 0 + 1)
              × ((r.kind ≡ 6 → ⊥) → n ≡ get_or under r.index 0)
              → Needing l xs₀ (i + 1) xs more (set under r.index n)
          need-keep t b n u =
              let e = kept_more xs i here k in
              let zero = eqb-true more.number 0 (both_right met _ t) in
              record {
                pass = pass_kept g.pass h (sym kept ∙ t);
                third = g.third;
                scanned = rw e now;
                good = zero;
                counted = rw e (under_more 1 6 seen r under g.counted (sym now.number ∙ zero) b n u.0 u.1);
              }

          pub need-go : (z : MarkedRecord) → (met && eqb more.number 0) ≡ false → z.mark ≡ 4 → z.item ≡ r
              → Needing l xs₀ (i + 1) (set xs i z) scan under
          need-go z t m w =
              let e = kept-gone xs i here z (λ q. omega (arith, m)) in
              record {
                pass = pass-goes g.pass h z k (sym kept ∙ t) m w (λ q. omega arith);
                third = left-set 4 xs i z (rw (eq-eqb _ 0 k)) (rw m) (sym w) ∙ g.third;
                scanned = rw e g.scanned;
                good = g.good;
                counted = rw e g.counted;
              }

  pub need-end : {i : ℕ} {xs : List MarkedRecord} {scan : Scan} {under : List ℕ} → Needing l xs₀ i xs scan under → length xs₀ ≤ i
      → plain_fates xs ≡ after_four l
  unfolding step_four
  need-end g h = pass-end g.pass h ∙ ap (taken 4 (kept_by_four (staying (after_three l)))) from
