-- A walk along two maps' entries: what is told so far, and what is told of the entries ahead.
use mathlib.Core.Path.{◌≡◌, refl, ap, ap₂, sym, subst, ◌∙◌}
use mathlib.Core.List.{List, [], ◌∷◌, ◌++◌, append-nil, append_assoc}
use Prim.Native.Nat.{ℕ, ◌+◌, ◌*◌, ◌≤◌}
use native.Mathlib.Omega.{arith}
use lib.ListN.{length, length-append}
use borrow.Author.Tests.{lt-ltb}
use Rattle.listlaws.specs.Sift.{sift, those}
use Rattle.listlaws.specs.Weave.{weave}
use Rattle.listlaws.proofs.Pads.{length-snoc}
use Rattle.listlaws.proofs.Sifts.{length-sift, sift-one}
use Rattle.entries.specs.declared.Entry.{Entry}
use Rattle.map.specs.declared.Map.{Map}
use Rattle.map.specs.Model.{entries_in}
use Rattle.map.proofs.Accepts.{fits-means}
use Rattle.records.specs.Writing.{Wrote}
use Rattle.records.proofs.Placing.{placed-none, placed_on, length-placed}
use Rattle.walks.specs.declared.Layout.{Layout}
use Rattle.layout.specs.Whole.{Lies}
use Rattle.entrywalk.specs.declared.Cursor.{Cursor}
use Rattle.entrywalk.specs.Walking.{Ahead}
use Rattle.entrywalk.proofs.Stepping.{start_of, all-ahead}
use Rattle.entrywalk.proofs.Fronts.{ahead_none}
use Rattle.differences.specs.declared.Difference.{Difference}
use Rattle.differences.specs.Differences.{classed, differs, differences_of, difference_bytes, all_told}
use Rattle.differences.proofs.Classes.{length-told, told-snoc}
use Rattle.differing.specs.declared.Next.{Next}
use Rattle.differing.specs.Walking.{told_most, Comes}

-- of all that is told, `done` is told where both walks stand, and the rest is what differs of the entries ahead
pub record Telling (s t : List ℕ) (l m : Layout) (all : List Difference) (x y : Cursor) (done : List Difference) : Type 0 where
  pub es : List Entry
  pub fs : List Entry
  pub ours : Ahead s l x es
  pub theirs : Ahead t m y fs
  pub parts : all ≡ done ++ differences_of es fs
  pub few : length done + (length es + length fs) ≤ told_most

pub telling-start : {s t : List ℕ} {m n : Map} {l k : Layout} → Lies s m l → Lies t n k
    → Telling s t l k (differences_of (entries_in m) (entries_in n)) (start_of l) (start_of k) []
telling-start {m = m} {n = n} h i = record {
  es = entries_in m;
  fs = entries_in n;
  ours = all-ahead h;
  theirs = all-ahead i;
  parts = refl;
  few = omega (arith, (fits-means m h.within.limits).count, (fits-means n i.within.limits).count);
}

module _ {s t : List ℕ} {l m : Layout} {all : List Difference} {x y : Cursor} {done : List Difference} (d : Telling s t l m all x y done) where
  -- one key more, told or not
  telling-on : {r : Next} → Comes s t l m x y d.es d.fs r → Telling s t l m all r.x r.y (done ++ those differs (r.told ∷ []))
  unfolding differences_of
  telling-on {r} c = record {
    es = c.more;
    fs = c.others;
    ours = c.ahead;
    theirs = c.beside;
    parts = d.parts ∙ ap (λ z. done ++ z) (ap (those differs) c.first ∙ sift-one differs (λ z. z) r.told (classed c.more c.others))
        ∙ sym (append_assoc done (those differs (r.told ∷ [])) (those differs (classed c.more c.others)));
    few = omega (
      arith,
      d.few,
      c.fewer,
      length-append done (those differs (r.told ∷ [])),
      length-sift differs (λ (z : Difference). z) (r.told ∷ []),
    );
  }

  pub telling-tells : {r : Next} → Comes s t l m x y d.es d.fs r → (r.told.class ≡ 0 → ⊥)
      → Telling s t l m all r.x r.y (done ++ (r.told ∷ []))
  unfolding sift
  telling-tells {r} c h = subst (λ z. Telling s t l m all r.x r.y (done ++ z)) (told-one r.told h) (telling-on c)
    where
      told-one : (u : Difference) → (u.class ≡ 0 → ⊥) → those differs (u ∷ []) ≡ u ∷ []
      told-one u n = rw (lt-ltb 0 u.class (omega (arith, n)))

  pub telling-skips : {r : Next} → Comes s t l m x y d.es d.fs r → r.told.class ≡ 0 → Telling s t l m all r.x r.y done
  unfolding sift
  telling-skips {r} c h = subst (λ z. Telling s t l m all r.x r.y z) (ap (λ z. done ++ z) (told_none r.told h) ∙ append-nil done)
      (telling-on c)
    where
      told_none : (u : Difference) → u.class ≡ 0 → those differs (u ∷ []) ≡ []
      told_none u e = rw e

  -- all is told
  pub telling-end : l.third ≤ x.own → m.third ≤ y.own → done ≡ all
  unfolding differences_of classed weave sift
  telling-end p q = sym (d.parts ∙ ap₂ (λ u v. done ++ differences_of u v) (ahead_none d.ours p) (ahead_none d.theirs q) ∙ append-nil done)

  -- there is room for what is told so far, and for one more
  pub told-room : {entry now : List ℕ} {place : ℕ} → Wrote 0 (all_told done) entry now place → length all * 5 ≤ length entry
      → (place ≡ length done * 5) × (length now ≡ length entry)
  told-room {entry} w h =
      let n = length-told done in
      let e = ap length d.parts ∙ length-append done (differences_of d.es d.fs) in
      (omega (arith, w.ends), ap length w.left ∙ length-placed 0 (all_told done) entry (omega arith))

pub told-all : {s t : List ℕ} {l m : Layout} {all : List Difference} {x y : Cursor} {done : List Difference}
    → Telling s t l m all x y done → l.third ≤ x.own → m.third ≤ y.own
    → {entry now : List ℕ} {place : ℕ} → Wrote 0 (all_told done) entry now place → Wrote 0 (all_told all) entry now place
told-all d p q {entry} {now} {place} w = subst (λ z. Wrote 0 (all_told z) entry now place) (telling-end d p q) w

pub told-start : (out : List ℕ) → Wrote 0 (all_told []) out out 0
unfolding all_told
told-start out = record { left = sym (placed-none 0 out (omega arith)); ends = refl }

pub told_more : {s t : List ℕ} {l m : Layout} {all : List Difference} {x y : Cursor} (done : List Difference) (u : Difference)
    → Telling s t l m all x y (done ++ (u ∷ [])) → length done * 5 + 5 ≤ length all * 5
told_more done u d =
    omega (arith, ap length d.parts ∙ length-append (done ++ (u ∷ [])) (differences_of d.es d.fs), length-snoc done u)

pub told-on : (done : List Difference) (u : Difference) {entry now after : List ℕ} {place next : ℕ} → Wrote 0 (all_told done) entry now place
    → Wrote place (difference_bytes u) now after next → length done * 5 + 5 ≤ length entry → Wrote 0 (all_told (done ++ (u ∷ []))) entry after next
told-on done u {entry} {place = place} w v h =
    let n = length-told done in
    rw (told-snoc done u) (record {
      left = placed_on 0 place (all_told done) (difference_bytes u) entry w.left v.left w.ends (omega arith);
      ends = rw (length-append (all_told done) (difference_bytes u)) (omega (arith, w.ends, v.ends));
    })
