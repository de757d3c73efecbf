-- A map without origins has an image whose values name nobody, and its records are judged as they were.
use mathlib.Core.Path.{◌≡◌, refl, ap, sym, ◌∙◌}
use mathlib.Core.Bool.{Bool, true, false, ◌&&◌}
use mathlib.Core.List.Memᴰ
use mathlib.Core.List.{List, [], ◌∷◌, ◌++◌}
use Prim.Native.Nat.{ℕ}
use native.Mathlib.Omega.{arith}
use lib.Dec.{eqb, leb}
use borrow.Author.Tests.{eqb-true, leb-true}
use Rattle.listlaws.specs.Order.{◌∈◌}
use Rattle.listlaws.proofs.Orders.{apart}
use Rattle.map.specs.declared.Map.{Map}
use Rattle.map.specs.Model.{seen_by, entries_in, waiting_in}
use Rattle.records.specs.declared.Record.{Record}
use Rattle.records.specs.Kinds.{record_ok, before}
use Rattle.records.proofs.Rule.{is_value}
use Rattle.mapimage.specs.MapImage.{map_records}
use Rattle.scan.specs.Each.{every, each_after}
use Rattle.scan.specs.Formed.{follows, well_formed}
use Rattle.scan.proofs.Eachs.{decide, both_left, both_right, both}
use Rattle.oneimagelaws.proofs.Stands.{Place, place_in, Part, clock-dot, entry-dot, value, value-dot, waiting-dot, waiting-key, stands-part}
use Rattle.originlaws.specs.Before.{old_ok, old_follows, old_formed}
use Rattle.originlaws.specs.Origins.{NoOrigins}
use Rattle.originlaws.proofs.Records.{Unnamed, mask-same, orders-same}

-- each record of such a map's image
pub map-unnamed : (m : Map) → NoOrigins m → (r : Record) → r ∈ map_records m → Unnamed r
map-unnamed m z r i = go (stands-part (seen_by m) (entries_in m) (waiting_in m) r i)
  where
    go : Part (seen_by m) (entries_in m) (waiting_in m) r → Unnamed r
    go (clock-dot d k e) = rw e (λ t. apart (sym t))
    go (entry-dot x k d n e) = rw e (λ t. apart (sym t))
    go (value x k j v p e) = rw e (λ t. z x k v (place_in p))
    go (value-dot x k j v p d n e) = rw e (λ t. apart (sym t))
    go (waiting-dot j q p d n e) = rw e (λ t. apart (sym t))
    go (waiting-key j q p k n e) = rw e (λ t. apart (sym t))

-- a record of a map that is good today, and names nobody, was good
was-ok : (r : Record) → record_ok 1 6 r ≡ true → Unnamed r → old_ok 1 6 r ≡ true
unfolding old_ok record_ok
was-ok r h z =
    let b = both_right (leb 1 r.kind) _ h in
    decide (eqb r.kind 3)
    (λ t. let k = eqb-true r.kind 3 t in rw (k, z (ap is_value k)) refl)
    (λ n. decide (eqb r.kind 11)
    (λ t. absurd (let k = eqb-true r.kind 11 t in let q = leb-true r.kind 6 (both_left (leb r.kind 6) _ b) in omega (arith, k, q)))
    (λ m. rw (mask-same r.kind (rw (n, m) refl)) h))

was-follows : (seen : List Record) (r : Record) → follows 1 6 seen r ≡ true → Unnamed r → old_follows 1 6 seen r ≡ true
was-follows seen r h z =
    both (old_ok 1 6 r) _ (was-ok r (both_left (record_ok 1 6 r) _ h) z) (orders-same 1 6 seen r z ∙ both_right (record_ok 1 6 r) _ h)

formed-after : (seen l : List Record) → each_after (follows 1 6) seen l ≡ true → ((x : Record) → x ∈ l → Unnamed x)
    → each_after (old_follows 1 6) seen l ≡ true
unfolding each_after
formed-after seen [] h z = refl
formed-after seen (x ∷ l) h z =
    both (old_follows 1 6 seen x) _ (was-follows seen x (both_left (follows 1 6 seen x) _ h) (z x (Memᴰ.head refl)))
    (formed-after (seen ++ (x ∷ [])) l (both_right (follows 1 6 seen x) _ h) (λ y i. z y (Memᴰ.tail i)))

pub was-formed : (l : List Record) → well_formed 1 6 l ≡ true → ((x : Record) → x ∈ l → Unnamed x) → old_formed 1 6 l ≡ true
unfolding well_formed
was-formed l h z = formed-after [] l h z
