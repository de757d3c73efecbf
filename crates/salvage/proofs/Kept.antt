-- The records that stay, by their marks: they are what the steps leave, counted and looked through place by place.
use mathlib.Core.Path.{◌≡◌, refl, ap, ap₂, sym, ◌∙◌}
use mathlib.Core.Bool.{Bool, true, false, cond, ◌||◌}
use mathlib.Core.List.{List, [], ◌∷◌, map}
use Prim.Native.Nat.{ℕ, ◌-◌, ◌*◌, ◌/◌, ◌≤◌, ◌<◌}
use native.Mathlib.Omega.{arith}
use borrow.Author.Tests.{ltb-true, ltb-false, lt-leb, le-leb, ne_eqb}
use lib.Dec.{eqb, ltb}
use lib.ListN.{length, get_or, length-map}
use Rattle.listlaws.specs.Fold.{fold}
use Rattle.listlaws.specs.Sift.{sift, those}
use Rattle.listlaws.proofs.Those.{those-all}
use Rattle.records.specs.declared.Record.{Record}
use Rattle.records.specs.Records.{record_from}
use Rattle.scan.proofs.Eachs.{decide}
use Rattle.salvagerules.specs.Indexes.{with_index}
use Rattle.salvagerules.specs.Fates.{staying, stayed}
use Rattle.culling.specs.Marks.{MarkedRecord, marked_of, is_left, is_left_at, left_items}
use Rattle.culling.proofs.Marked.{no_marked, marked-at}
use Rattle.mending.specs.Fated.{fate_of}
use Rattle.salvage.specs.Selecting.{renewed_of, kept_of, lesser_of}

renew-early : (z : MarkedRecord) → ltb z.mark 8 ≡ true → renewed_of z ≡ z.item
renew-early z a = rw a refl

renew-late : (z : MarkedRecord) → ltb z.mark 8 ≡ false → renewed_of z ≡ with_index (z.mark - 8) z.item
renew-late z a = rw a refl

-- what the marks keep is what stays
pub kept-staying : (l : List MarkedRecord) → kept_of l ≡ staying (map fate_of l)
unfolding sift
kept-staying [] = refl
kept-staying (z ∷ l) =
    decide (ltb z.mark 8)
    (λ a. let h = ltb-true z.mark 8 a in
    rw (a, lt-leb 8 z.mark h) (early a (eqb z.mark 0) (kept-staying l)))
    (λ a. let h = ltb-false z.mark 8 a in
    rw (a, le-leb 8 z.mark h, ne_eqb z.mark 0 (λ e. omega arith)) (ap₂ (λ x t. x ∷ t) (renew-late z a) (kept-staying l)))
  where
    early : ltb z.mark 8 ≡ true → (b : Bool) → kept_of l ≡ staying (map fate_of l)
        → map renewed_of (cond (b || false) (z ∷ those (is_left_at 8) l) (those (is_left_at 8) l))
        ≡ map (λ f. f.item) (cond b (record { item = z.item; stays = b; step = z.mark } ∷ those stayed (map fate_of l)) (those stayed
        (map fate_of l)))
    early a true e = ap₂ (λ x t. x ∷ t) (renew-early z a) e
    early a false e = e

-- as many as are left
pub count_kept : (l : List MarkedRecord) → length (those (λ r. true) (left_items 8 l)) ≡ length (kept_of l)
count_kept l =
    ap length (those-all (λ r. true) (left_items 8 l) (λ x i. refl)) ∙ length-map (those (is_left_at 8) l) (λ z. z.item)
    ∙ sym (length-map (those (is_left_at 8) l) renewed_of)

-- one mark after the other
abbrev pub looked_at : Record → Record → MarkedRecord → Record
looked_at last best z = cond (is_left_at 8 z) (lesser_of last best (renewed_of z)) best

pub fold-kept : (last best : Record) (l : List MarkedRecord) → fold (looked_at last) best l ≡ fold (lesser_of last) best (kept_of l)
unfolding fold sift
fold-kept last best [] = refl
fold-kept last best (z ∷ l) = go (is_left_at 8 z) (λ b. fold-kept last b l)
  where
    go : (b : Bool) → ((c : Record) → fold (looked_at last) c l ≡ fold (lesser_of last) c (kept_of l))
        → fold (looked_at last) (cond b (lesser_of last best (renewed_of z)) best) l
        ≡ fold (lesser_of last) best (map renewed_of (cond b (z ∷ those (is_left_at 8) l) (those (is_left_at 8) l)))
    go true f = f (lesser_of last best (renewed_of z))
    go false f = f best

-- what the loop makes of a place
module _ (marks s : List ℕ) (room : length s / 16 ≤ length marks) (i : ℕ) (h : i < length s / 16) (last : Record) {a : Bool}
    (e : a ≡ is_left 8 (get_or marks i 0)) where
  here : is_left_at 8 (get_or (marked_of marks s) i no_marked) ≡ a
  here = ap (is_left_at 8) (marked-at marks s room i h) ∙ sym e

  pub look_skip : a ≡ false → {best : Record} (b : Record) → best ≡ b → best ≡ looked_at last b (get_or (marked_of marks s) i no_marked)
  look_skip f b q =
      q ∙ sym (ap (λ c. cond c (lesser_of last b (renewed_of (get_or (marked_of marks s) i no_marked))) b) (here ∙ f))

  pub look-on : a ≡ true → {best r x y : Record} → r ≡ record_from s (i * 16) → x ≡ renewed_of (record { mark = get_or marks i 0; item = r })
      → y ≡ lesser_of last best x → (b : Record) → best ≡ b → y ≡ looked_at last b (get_or (marked_of marks s) i no_marked)
  look-on t u v w b q =
      w ∙ ap₂ (lesser_of last) q (v ∙ ap (λ r. renewed_of (record { mark = get_or marks i 0; item = r })) u
      ∙ ap renewed_of (sym (marked-at marks s room i h)))
      ∙ sym (ap (λ c. cond c (lesser_of last b (renewed_of (get_or (marked_of marks s) i no_marked))) b) (here ∙ t))
