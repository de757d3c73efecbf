-- The dots of a kind that has neither index nor key: one record more is one dot more, and there is room for it.
use mathlib.Core.Path.{◌≡◌, refl, ap, sym, ◌∙◌}
use mathlib.Core.Bool.{Bool, true, false, cond}
use mathlib.Core.List.Memᴰ
use mathlib.Core.List.{List, [], ◌∷◌, ◌++◌, map}
use Prim.Native.Nat.{ℕ, ◌<◌}
use lib.Dec.{eqb}
use lib.ListN.{length, length-map}
use borrow.Author.Tests.{eqb-true}
use Rattle.listlaws.specs.Order.{◌∈◌}
use Rattle.listlaws.specs.Sift.{those}
use Rattle.listlaws.proofs.Those.{those-same}
use Rattle.records.specs.declared.Record.{Record}
use Rattle.records.specs.Kinds.{record_ok}
use Rattle.scan.specs.Limits.{inner_limits, limit_at, same_middle}
use Rattle.scan.specs.Numbers.{scan_number}
use Rattle.scan.proofs.Eachs.{decide}
use Rattle.scan.proofs.Scans.{alike-middle}
use Rattle.scan.proofs.Scanning.{scan_good}
use Rattle.records.proofs.Rule.{uses_index, uses_key}
use Rattle.scan.proofs.Rooms.{those-yes, those-no, good-at, no_index, no_key, inner_room}
use Rattle.clockimage.specs.Image.{is_kind, dot_of, dots_from}

pub map_snoc : {A B : Type 0} (f : A → B) (l : List A) (x : A) → map f (l ++ (x ∷ [])) ≡ map f l ++ (f x ∷ [])
map_snoc f [] x = refl
map_snoc f (y ∷ l) x = ap (λ m. f y ∷ m) (map_snoc f l x)

pub dots-more : (test : Record → Bool) (l : List Record) (r : Record) → test r ≡ true
    → dots_from test (l ++ (r ∷ [])) ≡ dots_from test l ++ (dot_of r ∷ [])
dots-more test l r t = ap (map dot_of) (those-yes test l r t) ∙ map_snoc dot_of (those test l) r

pub dots-same : (test : Record → Bool) (l : List Record) (r : Record) → test r ≡ false → dots_from test (l ++ (r ∷ [])) ≡ dots_from test l
dots-same test l r t = ap (map dot_of) (those-no test l r t)

pub dots-snoc : (test : Record → Bool) (l : List Record) (r : Record) → dots_from test (l ++ (r ∷ [])) ≡ cond (test r)
    (dots_from test l ++ (dot_of r ∷ [])) (dots_from test l)
dots-snoc test l r = decide (test r) (λ t. dots-more test l r t ∙ rw t) (λ f. dots-same test l r f ∙ rw f)

module _ (low high : ℕ) (l : List Record) (r : Record) (n : scan_number low high (l ++ (r ∷ [])) ≡ 0) where
  pub dots-room : (kind : ℕ) → r.kind ≡ kind → (kind ≡ 6 → ⊥) → uses_index kind ≡ false → uses_key kind ≡ false
      → length (dots_from (is_kind kind) l) < limit_at inner_limits kind
  dots-room kind k plain i y =
      let g = scan_good low high (l ++ (r ∷ [])) n in
      rw (length-map (those (is_kind kind) l) dot_of, those-same (is_kind kind) (same_middle r) l same, ← k)
      (inner_room low high l r g.0 g.1 (λ e. plain (sym k ∙ e)))
    where
      good : (x : Record) → x ∈ (l ++ (r ∷ [])) → record_ok low high x ≡ true
      good x m = good-at low high (l ++ (r ∷ [])) (scan_good low high (l ++ (r ∷ [])) n).0 x m

      in-last : r ∈ (l ++ (r ∷ []))
      in-last = Memᴰ.append_right l (Memᴰ.head refl)

      same : (x : Record) → x ∈ l → is_kind kind x ≡ same_middle r x
      same x m =
          let gx = good x (Memᴰ.append_left (r ∷ []) m) in
          let gr = good r in-last in
          decide (eqb x.kind kind)
          (λ t. let xk = eqb-true x.kind kind t in
          t ∙ sym (alike-middle r x (λ e. plain (sym k ∙ e)) (xk ∙ sym k)
          (no_key low high x gx xk y ∙ sym (no_key low high r gr k y))
          (no_index low high x gx xk i ∙ sym (no_index low high r gr k i))))
          (λ f. f ∙ sym (rw (k, f)))
