-- What comes next of an update: an entry behind the put, an entry before it, the put on an entry or on none.
use mathlib.Core.Path.{◌≡◌, refl, ap, sym, subst, ◌∙◌}
use mathlib.Core.Bool.{Bool, true, false}
use mathlib.Core.List.{List, []}
use mathlib.Core.Logic.{inl, inr}
use Prim.Native.Nat.{ℕ, ◌<◌}
use native.Mathlib.Omega.{arith}
use Rattle.listlaws.specs.Order.{◌∈◌}
use Rattle.listlaws.proofs.Orders.{apart}
use Rattle.entries.specs.declared.Entry.{Entry}
use Rattle.entries.specs.declared.Update.{Update}
use Rattle.entries.specs.Model.{entry_as}
use Rattle.entries.specs.Entries.{put_entries}
use Rattle.walks.specs.declared.Layout.{Layout}
use Rattle.entrywalk.specs.declared.Cursor.{Cursor}
use Rattle.entrywalk.specs.declared.Lain.{Lain}
use Rattle.entrywalk.specs.Walking.{Ahead, LiesAt, Steps}
use Rattle.entrywalk.proofs.Fronts.{first-in, rest_in, its-more, its-least, its-fewer}
use Rattle.updating.specs.declared.Next.{Next}
use Rattle.updating.specs.Updated.{UpdateComes}
use Rattle.updating.proofs.Puts.{put-behind, put_first, put_on}

module _ {s : List ℕ} {l : Layout} (u : Update) {x : Cursor} {es : List Entry} (h : Ahead s l x es) where
  module _ {r : Lain} (g : Steps s l x es r) where
    -- the put is done
    pub comes-behind : UpdateComes s l u x true es (record { entry = r; put = false })
    comes-behind =
        let on = g.onward in
        let end = g.rest.own.order in
        record {
          entry = g.entry;
          more = g.more;
          first = g.parts;
          lies = g.lies;
          known = inl (first-in h g);
          ahead = g.rest;
          inside = rest_in h g;
          above = its-more h g;
          below = λ t. apart t;
          least = λ low p q. its-least h g low p;
          less = omega arith;
          fewer = omega (arith, its-fewer h g);
        }

    -- it is to come, behind this entry
    pub comes-before : r.key < u.key → UpdateComes s l u x false es (record { entry = r; put = false })
    comes-before low =
        let on = g.onward in
        let end = g.rest.own.order in
        let same = g.lies.key in
        record {
          entry = g.entry;
          more = g.more;
          first = ap (put_entries u) g.parts ∙ put-behind u g.entry g.more (omega arith);
          lies = g.lies;
          known = inl (first-in h g);
          ahead = g.rest;
          inside = rest_in h g;
          above = its-more h g;
          below = λ t. low;
          least = λ low p q. its-least h g low p;
          less = omega arith;
          fewer = omega (arith, its-fewer h g);
        }

    -- it goes on this entry
    pub comes-on : r.key ≡ u.key → UpdateComes s l u x false es (record { entry = r; put = true })
    comes-on level =
        let on = g.onward in
        let end = g.rest.own.order in
        let same = g.lies.key in
        record {
          entry = g.entry;
          more = g.more;
          first = ap (put_entries u) g.parts ∙ put_on u g.more (λ e i. omega (arith, level, its-more h g e i)) g.entry (omega arith);
          lies = g.lies;
          known = inl (first-in h g);
          ahead = g.rest;
          inside = rest_in h g;
          above = its-more h g;
          below = λ t. apart t;
          least = λ low p q. its-least h g low p;
          less = omega arith;
          fewer = omega (arith, its-fewer h g);
        }

  -- it goes before all of them, where the map has no entry
  pub comes-new : (r : Lain) → ((e : Entry) → e ∈ es → u.key < e.key) → LiesAt s (entry_as u.key [] []) r → r.next ≡ x
      → UpdateComes s l u x false es (record { entry = r; put = true })
  comes-new r above none on =
      let place = ap (λ (c : Cursor). c.own) on in
      record {
        entry = entry_as u.key [] [];
        more = es;
        first = put_first u es above;
        lies = none;
        known = inr refl;
        ahead = subst (λ z. Ahead s l z es) (sym on) h;
        inside = λ e i. i;
        above = λ e i. omega (arith, none.key, above e i);
        below = λ t. apart t;
        least = λ low p q. omega (arith, none.key, q refl);
        less = omega arith;
        fewer = omega arith;
      }

-- as the flag says
pub comes-told : {s : List ℕ} {l : Layout} {u : Update} {x : Cursor} {done b : Bool} {es : List Entry} {r : Next} → done ≡ b
    → UpdateComes s l u x b es r
    → UpdateComes s l u x done es r
comes-told {s} {l} {u} {x} {done} {b} {es} {r} t c = subst (λ z. UpdateComes s l u x z es r) (sym t) c
