-- A step taken in order: with one record more (`taken-snoc`), and what of those that stay it keeps (`every-taken`, `step-taken`).
use mathlib.Core.Path.{◌≡◌, refl, ap, sym, ◌∙◌}
use mathlib.Core.Bool.{Bool, true, false, not, cond, ◌&&◌}
use mathlib.Core.List.{List, [], ◌∷◌, ◌++◌, map, append-nil, append_assoc}
use Prim.Native.Nat.{ℕ, ◌<◌}
use lib.Dec.{ltb}
use borrow.Author.Tests.{lt-ltb}
use Rattle.listlaws.specs.Sift.{sift, those}
use Rattle.listlaws.proofs.Sifts.{sift-append}
use Rattle.records.specs.declared.Record.{Record}
use Rattle.records.specs.Kinds.{record_ok, before}
use Rattle.scan.specs.Each.{every, each_after}
use Rattle.scan.specs.Formed.{follows, well_formed}
use Rattle.scan.proofs.Eachs.{both_left, both_right, both, decide}
use Rattle.salvagerules.specs.Fates.{Fate, untouched, gone_by, stayed, staying, tested, taken_after, taken}
use Rattle.salvagerules.specs.Steps.{step_two, step_three}
use Rattle.culling.specs.Marks.{after_three}

pub map-append : {A B : Type 0} (f : A → B) (l m : List A) → map f (l ++ m) ≡ map f l ++ map f m
map-append f [] m = refl
map-append f (x ∷ l) m = ap (λ t. f x ∷ t) (map-append f l m)

pub staying-append : (l m : List Fate) → staying (l ++ m) ≡ staying l ++ staying m
staying-append l m = ap (map (λ f. f.item)) (sift-append stayed (λ f. f) l m) ∙ map-append (λ f. f.item) (those stayed l) (those stayed m)

-- one that stays, or goes
pub staying-yes : (f : Fate) → f.stays ≡ true → staying (f ∷ []) ≡ f.item ∷ []
unfolding sift
staying-yes f t = rw t

pub staying-no : (f : Fate) → f.stays ≡ false → staying (f ∷ []) ≡ []
unfolding sift
staying-no f t = rw t

module _ (n : ℕ) (test : List Record → Record → Bool) where
  taken-after : (seen : List Record) (l : List Fate) (f : Fate) → taken_after n test seen (l ++ (f ∷ [])) ≡ taken_after n test seen l ++
      (tested n test
      (seen ++ staying (taken_after n test seen l)) f ∷ [])
  unfolding taken_after sift
  taken-after seen [] f = rw (append-nil seen)
  taken-after seen (g ∷ l) f =
      let t = tested n test seen g in
      let now = seen ++ staying (t ∷ []) in
      let e = append_assoc seen (staying (t ∷ [])) (staying (taken_after n test now l))
      ∙ ap (λ k. seen ++ k) (sym (staying-append (t ∷ []) (taken_after n test now l))) in
      ap (λ k. t ∷ k) (taken-after now l f ∙ ap (λ k. taken_after n test now l ++ (tested n test k f ∷ [])) e)

  pub taken-snoc : (l : List Fate) (f : Fate) → taken n test (l ++ (f ∷ [])) ≡ taken n test l ++ (tested n test (staying (taken n test l)) f ∷ [])
  taken-snoc l f = taken-after [] l f

  -- one that has gone, or passes, is left as it is; one that does not pass goes
  module _ (seen : List Record) (f : Fate) where
    pub tested-gone : f.stays ≡ false → tested n test seen f ≡ f
    tested-gone e = rw e

    pub tested-kept : test seen f.item ≡ true → tested n test seen f ≡ f
    tested-kept e = go f.stays (test seen f.item) e
      where
        go : (a b : Bool) → b ≡ true → cond (a && not b) (gone_by n f) f ≡ f
        go true b e = rw e
        go false b e = refl

    pub tested-goes : f.stays ≡ true → test seen f.item ≡ false → tested n test seen f ≡ gone_by n f
    tested-goes e t = rw (e, t)

  -- what holds of all that stay holds of those that stay after the step
  pub every-after : (p : Record → Bool) (seen : List Record) (l : List Fate) → every p (staying l) ≡ true
      → every p (staying (taken_after n test seen l)) ≡ true
  unfolding taken_after sift every
  every-after p seen [] e = refl
  every-after p seen (f ∷ l) e = go f.stays (test seen f.item) e
      (λ m h. every-after p m l h)
    where
      go : (a b : Bool) → every p (map (λ g. g.item) (cond a (f ∷ those stayed l) (those stayed l))) ≡ true
          → ((m : List Record) → every p (staying l) ≡ true → every p (staying (taken_after n test m l)) ≡ true)
          → every p (staying (cond (a && not b) (gone_by n f) (record { item = f.item; stays = a; step = f.step }) ∷ taken_after n test
          (seen ++ staying (cond (a && not b) (gone_by n f) (record { item = f.item; stays = a; step = f.step }) ∷ [])) l)) ≡ true
      go true true h k = both (p f.item) _ (both_left (p f.item) _ h) (k _ (both_right (p f.item) _ h))
      go true false h k = k _ (both_right (p f.item) _ h)
      go false b h k = k _ h

  -- steps that were below a bound stay so
  pub steps-after : (m : ℕ) → n < m → (seen : List Record) (l : List Fate) → every (λ f. ltb f.step m) l ≡ true
      → every (λ f. ltb f.step m) (taken_after n test seen l) ≡ true
  unfolding taken_after every
  steps-after m h seen [] e = refl
  steps-after m h seen (f ∷ l) e =
      both (ltb (tested n test seen f).step m) _
      (go (f.stays && not (test seen f.item)) (both_left (ltb f.step m) _ e))
      (steps-after m h (seen ++ staying (tested n test seen f ∷ [])) l (both_right (ltb f.step m) _ e))
    where
      go : (b : Bool) → ltb f.step m ≡ true → ltb (cond b (gone_by n f) f).step m ≡ true
      go true k = lt-ltb n m h
      go false k = k

-- what steps 2 and 3 leave is well formed, as far as one looks
formed-after : (seen two : List Record) (l : List Record)
    → each_after (follows 1 6) seen
    (staying (taken_after 3 (λ s r. every (λ x. before x r) s) seen (taken_after 2 (λ s r. record_ok 1 6 r) two (map untouched l)))) ≡ true
unfolding taken_after sift each_after
formed-after seen two [] = refl
formed-after seen two (r ∷ l) =
    decide (record_ok 1 6 r)
    (λ a. decide (every (λ x. before x r) seen)
    (λ b. rw (a, b) (both (follows 1 6 seen r) _ (both (record_ok 1 6 r) _ a b) (formed-after _ _ l)))
    (λ b. rw (a, b) (rw (append-nil seen) (formed-after seen _ l))))
    (λ a. rw a (rw (append-nil seen) (formed-after seen _ l)))

pub third-formed : (l : List Record) → well_formed 1 6 (staying (after_three l)) ≡ true
unfolding well_formed step_two step_three
third-formed l = formed-after [] [] l
