-- The parts of an operation with one record more.
use mathlib.Core.Path.{◌≡◌, refl, ap, sym, ◌∙◌}
use mathlib.Core.Bool.{Bool, true, cond}
use mathlib.Core.List.{List, [], ◌∷◌, ◌++◌, map}
use Prim.Native.Nat.{ℕ, ◌+◌, ◌<◌, min}
use native.Mathlib.Omega.{arith}
use lib.Dec.{eqb}
use lib.ListN.{length, get_or, set, length-append, length-map}
use lib.Seq.{get_or-set_same, get_or-set_other}
use borrow.Author.Tests.{eqb-true, eqb-false}
use Rattle.listlaws.specs.Sift.{those}
use Rattle.listlaws.specs.Fold.{fold}
use Rattle.listlaws.proofs.Folds.{fold-append}
use Rattle.records.specs.declared.Record.{Record}
use Rattle.scan.specs.Numbers.{scan_number}
use Rattle.scan.proofs.Eachs.{decide}
use Rattle.scan.proofs.Rooms.{those-yes, those-no, outer-room, kind-range}
use Rattle.scan.proofs.Scanning.{scan_good, scan-last}
use Rattle.clockimage.specs.Image.{is_kind}
use Rattle.clockimage.proofs.Dots.{map_snoc}
use Rattle.limits.specs.Limits.{key_limit}
use Rattle.opimage.specs.OpImage.{how_many, record_of, keys_in}

pub keys-snoc : (test : Record → Bool) (l : List Record) (r : Record) → keys_in test (l ++ (r ∷ [])) ≡ cond (test r) (keys_in test l ++ (r.key ∷ []))
    (keys_in test l)
keys-snoc test l r =
    decide (test r)
    (λ t. ap (map (λ x. x.key)) (those-yes test l r t) ∙ map_snoc (λ x. x.key) (those test l) r ∙ rw t)
    (λ f. ap (map (λ x. x.key)) (those-no test l r f) ∙ rw f)

pub record-snoc : (kind : ℕ) (l : List Record) (r : Record) → record_of kind (l ++ (r ∷ [])) ≡ cond (is_kind kind r) r (record_of kind l)
unfolding record_of fold
record-snoc kind l r = fold-append (λ q x. cond (is_kind kind x) x q) _ l (r ∷ [])

pub counts-snoc : (counts : List ℕ) (l : List Record) (r : Record) → r.kind < length counts
    → ((k : ℕ) → k < 13 → get_or counts k 0 ≡ min 2 (how_many k l))
    → (k : ℕ) → k < 13 → get_or (set counts r.kind (min 2 (get_or counts r.kind 0 + 1))) k 0 ≡ min 2 (how_many k (l ++ (r ∷ [])))
counts-snoc counts l r h c k s =
    decide (eqb r.kind k)
    (λ t. let e = eqb-true r.kind k t in
    let n = ap length (those-yes (is_kind k) l r t) ∙ length-append (those (is_kind k) l) (r ∷ []) in
    let old = ap (λ j. get_or counts j 0) e ∙ c k s in
    ap (λ j. get_or (set counts r.kind (min 2 (get_or counts r.kind 0 + 1))) j 0) (sym e)
    ∙ get_or-set_same counts r.kind (min 2 (get_or counts r.kind 0 + 1)) 0 h ∙ omega arith)
    (λ f. let e = eqb-false r.kind k f in
    get_or-set_other counts r.kind k (min 2 (get_or counts r.kind 0 + 1)) 0 (λ q. e (sym q)) ∙ c k s
    ∙ ap (λ m. min 2 (length m)) (sym (those-no (is_kind k) l r f)))

module _ (l : List Record) (r : Record) (z : scan_number 7 12 (l ++ (r ∷ [])) ≡ 0) where
  pub keys-room : is_kind 9 r ≡ true → length (keys_in (is_kind 9) l) < key_limit
  keys-room t =
      let g = scan_good 7 12 (l ++ (r ∷ [])) z in
      rw (length-map (those (is_kind 9) l) (λ x. x.key))
      (outer-room 7 12 l r g.0 g.1 9 (eqb-true r.kind 9 t) (λ e. omega arith) refl refl)

  pub kind-known : r.kind < 13
  kind-known = let h = kind-range 7 12 r (scan-last 7 12 l r z) in omega arith
