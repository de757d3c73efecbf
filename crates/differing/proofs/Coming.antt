-- What comes next of two maps: an entry of the first alone, of the second alone, or of both.
use mathlib.Core.Path.{◌≡◌, ap, ap₂, sym, ◌∙◌}
use mathlib.Core.Bool.{cond}
use mathlib.Core.List.{List, ◌∷◌}
use Prim.Native.Nat.{ℕ, ◌<◌}
use native.Mathlib.Omega.{arith}
use Rattle.listlaws.specs.Order.{◌∈◌}
use Rattle.entries.specs.declared.Entry.{Entry}
use Rattle.walks.specs.declared.Layout.{Layout}
use Rattle.entrywalk.specs.declared.Cursor.{Cursor}
use Rattle.entrywalk.specs.declared.Lain.{Lain}
use Rattle.entrywalk.specs.Walking.{Ahead, Steps}
use Rattle.entrywalk.proofs.Fronts.{its-fewer}
use Rattle.differences.specs.declared.Difference.{Difference}
use Rattle.differences.specs.Differences.{same_entry, classed}
use Rattle.differences.proofs.Classes.{classed-first, classed-second, classed-both}
use Rattle.differing.specs.Walking.{Comes}

abbrev told : ℕ → ℕ → Difference
told c key = record { class = c; key = key }

module _ {s t : List ℕ} {l m : Layout} {x y : Cursor} {es fs : List Entry} (h : Ahead s l x es) (k : Ahead t m y fs) where
  pub comes-first : {a : Lain} (g : Steps s l x es a) → ((f : Entry) → f ∈ fs → g.entry.key < f.key)
      → Comes s t l m x y es fs (record { told = record { class = 1; key = a.key }; x = a.next; y = y })
  comes-first {a} g above = record {
    more = g.more;
    others = fs;
    first = ap (λ z. classed z fs) g.parts ∙ classed-first g.entry g.more fs above
        ∙ ap (λ z. told 1 z ∷ classed g.more fs) (sym g.lies.key);
    ahead = g.rest;
    beside = k;
    onward = omega (arith, g.onward);
    outward = omega arith;
    some = omega (arith, g.onward);
    fewer = omega (arith, its-fewer h g);
  }

  pub comes-second : {b : Lain} (g : Steps t m y fs b) → ((e : Entry) → e ∈ es → g.entry.key < e.key)
      → Comes s t l m x y es fs (record { told = record { class = 2; key = b.key }; x = x; y = b.next })
  comes-second {b} g above = record {
    more = es;
    others = g.more;
    first = ap (λ z. classed es z) g.parts ∙ classed-second g.entry es g.more above
        ∙ ap (λ z. told 2 z ∷ classed es g.more) (sym g.lies.key);
    ahead = h;
    beside = g.rest;
    onward = omega arith;
    outward = omega (arith, g.onward);
    some = omega (arith, g.onward);
    fewer = omega (arith, its-fewer k g);
  }

  pub comes-both : {a b : Lain} (g : Steps s l x es a) (i : Steps t m y fs b) → g.entry.key ≡ i.entry.key
      → {class : ℕ} → class ≡ cond (same_entry g.entry i.entry) 0 3
      → Comes s t l m x y es fs (record { told = record { class = class; key = a.key }; x = a.next; y = b.next })
  comes-both {a} g i level {class} e = record {
    more = g.more;
    others = i.more;
    first = ap₂ classed g.parts i.parts ∙ classed-both g.entry i.entry g.more i.more level
        ∙ ap₂ (λ c z. told c z ∷ classed g.more i.more) (sym e) (sym g.lies.key);
    ahead = g.rest;
    beside = i.rest;
    onward = omega (arith, g.onward);
    outward = omega (arith, i.onward);
    some = omega (arith, g.onward, i.onward);
    fewer = omega (arith, its-fewer h g, its-fewer k i);
  }
