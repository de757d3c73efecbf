-- What comes next of a merge: an entry of ours alone, of theirs alone, or of both.
use mathlib.Core.Path.{◌≡◌, ap, ap₂, sym, subst, ◌∙◌}
use mathlib.Core.List.{List, [], ◌∷◌}
use Prim.Native.Nat.{ℕ, ◌<◌}
use native.Mathlib.Omega.{arith}
use Rattle.listlaws.specs.Order.{◌∈◌}
use Rattle.clock.specs.declared.Clock.{Clock}
use Rattle.clock.specs.declared.Dot.{Dot}
use Rattle.clock.specs.Dots.{clock_of, cut_dots, join_dots}
use Rattle.clock.specs.Lawful.{Lawful}
use Rattle.clock.proofs.Cuts.{lawful-cut}
use Rattle.clock.proofs.Joins.{lawful-join}
use Rattle.register.specs.Values.{cut_values, merge_values}
use Rattle.entries.specs.declared.Entry.{Entry}
use Rattle.entries.specs.Model.{dots_in, values_in, entry_as}
use Rattle.entries.specs.Entries.{cut_alone, keep_dots, merge_both}
use Rattle.walks.specs.declared.Layout.{Layout}
use Rattle.entrywalk.specs.declared.Cursor.{Cursor}
use Rattle.entrywalk.specs.declared.Lain.{Lain}
use Rattle.entrywalk.specs.Walking.{Ahead, LiesAt, Steps}
use Rattle.entrywalk.proofs.Fronts.{its-more, rest_in, its-least, its-fewer}
use Rattle.merging.specs.declared.Alone.{Alone}
use Rattle.merging.specs.Coming.{woven, GoesAlone, MergeComes}
use Rattle.merging.proofs.Weaving.{woven-first, woven-second, woven-both, merge_none, none-merge}

module _ (s t : List ℕ) (l m : Layout) (mine yours : List Dot) (x y : Cursor) (es fs : List Entry) (h : Ahead s l x es) (k : Ahead t m y fs) where
  pub comes-ours : (a : Alone) (n : Lain) → GoesAlone s l x yours es a → Lawful yours → ((f : Entry) → f ∈ fs → a.entry.key < f.key)
      → LiesAt t (entry_as a.entry.key [] []) n → n.next ≡ y
      → MergeComes s t l m mine yours x y es fs (record { x = a.entry; y = n; keep = a.keep; gone = a.gone })
  unfolding cut_alone
  comes-ours a n g lawful above none on =
      let e = g.steps.entry in
      let same = g.steps.lies.key in
      let forward = g.steps.onward in
      let place = ap (λ (c : Cursor). c.own) on in
      let keep = cut_dots yours (dots_in e) in
      let gone = cut_dots keep yours in
      record {
        ours = e;
        theirs = entry_as a.entry.key [] [];
        more = g.steps.more;
        others = fs;
        keep = keep;
        gone = gone;
        first = ap (λ z. woven mine yours z fs) g.steps.parts ∙ woven-first mine yours e g.steps.more fs
            (λ f i. omega (arith, same, above f i))
            ∙ ap₂ (λ z v. entry_as z keep (cut_values gone v) ∷ woven mine yours g.steps.more fs) (sym same) (sym (merge_none (values_in e)));
        kept = g.keep;
        lost = g.gone;
        lawful = lawful-cut keep lawful;
        here = g.steps.lies;
        there = none;
        level = same;
        ahead = g.steps.rest;
        beside = subst (λ z. Ahead t m z fs) (sym on) k;
        inside = rest_in h g.steps;
        within = λ e i. i;
        above = its-more h g.steps;
        over = above;
        least = λ low p q. its-least h g.steps low p;
        onward = omega arith;
        outward = omega arith;
        some = omega arith;
        fewer = omega (arith, its-fewer h g.steps);
      }

  pub comes-theirs : (a : Alone) (n : Lain) → GoesAlone t m y mine fs a → Lawful mine → ((e : Entry) → e ∈ es → a.entry.key < e.key)
      → LiesAt s (entry_as a.entry.key [] []) n → n.key ≡ a.entry.key → n.next ≡ x
      → MergeComes s t l m mine yours x y es fs (record { x = n; y = a.entry; keep = a.keep; gone = a.gone })
  unfolding cut_alone
  comes-theirs a n g lawful above none key on =
      let f = g.steps.entry in
      let same = g.steps.lies.key in
      let forward = g.steps.onward in
      let place = ap (λ (c : Cursor). c.own) on in
      let keep = cut_dots mine (dots_in f) in
      let gone = cut_dots keep mine in
      record {
        ours = entry_as a.entry.key [] [];
        theirs = f;
        more = es;
        others = g.steps.more;
        keep = keep;
        gone = gone;
        first = ap (λ z. woven mine yours es z) g.steps.parts ∙ woven-second mine yours f es g.steps.more
            (λ e i. omega (arith, same, above e i))
            ∙ ap₂ (λ z v. entry_as z keep (cut_values gone v) ∷ woven mine yours es g.steps.more) (sym same ∙ sym key)
            (sym (none-merge (values_in f)));
        kept = g.keep;
        lost = g.gone;
        lawful = lawful-cut keep lawful;
        here = none;
        there = g.steps.lies;
        level = sym same;
        ahead = subst (λ z. Ahead s l z es) (sym on) h;
        beside = g.steps.rest;
        inside = λ e i. i;
        within = rest_in k g.steps;
        above = λ e i. omega (arith, key, above e i);
        over = λ e i. omega (arith, key, its-more k g.steps e i);
        least = λ low p q. omega (arith, key, its-least k g.steps low q);
        onward = omega arith;
        outward = omega arith;
        some = omega arith;
        fewer = omega (arith, its-fewer k g.steps);
      }

  pub comes-both : {a b : Lain} (g : Steps s l x es a) (i : Steps t m y fs b) → g.entry.key ≡ i.entry.key
      → {keep gone : Clock} → keep ≡ clock_of (keep_dots mine yours (dots_in g.entry) (dots_in i.entry))
      → gone ≡ clock_of (cut_dots (keep_dots mine yours (dots_in g.entry) (dots_in i.entry)) (join_dots (dots_in g.entry) (dots_in i.entry)))
      → MergeComes s t l m mine yours x y es fs (record { x = a; y = b; keep = keep; gone = gone })
  unfolding merge_both
  comes-both {a} {b} g i level p q =
      let e = g.entry in
      let f = i.entry in
      let same = g.lies.key in
      let forward = g.onward in
      let outward = i.onward in
      let keep = keep_dots mine yours (dots_in e) (dots_in f) in
      record {
        ours = e;
        theirs = f;
        more = g.more;
        others = i.more;
        keep = keep;
        gone = cut_dots keep (join_dots (dots_in e) (dots_in f));
        first = ap₂ (λ z w. woven mine yours z w) g.parts i.parts ∙ woven-both mine yours e f g.more i.more level
            ∙ ap (λ z. entry_as z keep (cut_values (cut_dots keep (join_dots (dots_in e) (dots_in f))) (merge_values (values_in e) (values_in f))) ∷
            woven mine
            yours g.more i.more) (sym same);
        kept = p;
        lost = q;
        lawful = lawful-cut keep (lawful-join g.lies.fit.clock i.lies.fit.clock);
        here = g.lies;
        there = i.lies;
        level = sym level;
        ahead = g.rest;
        beside = i.rest;
        inside = rest_in h g;
        within = rest_in k i;
        above = its-more h g;
        over = λ z j. omega (arith, same, level, i.lies.key, its-more k i z j);
        least = λ low u v. its-least h g low u;
        onward = omega arith;
        outward = omega arith;
        some = omega arith;
        fewer = omega (arith, its-fewer h g, its-fewer k i);
      }
