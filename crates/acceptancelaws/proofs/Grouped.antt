-- Records of an image that stand in one group: their dots are a clock, their keys ascend.
use mathlib.Core.Path.{◌≡◌, refl, ap, sym, ◌∙◌}
use mathlib.Core.Bool.{Bool, true, false}
use mathlib.Core.List.Memᴰ
use mathlib.Core.List.{List, [], ◌∷◌, map}
use Prim.Native.Nat.{ℕ, ◌≤◌, ◌<◌}
use native.Mathlib.Omega.{arith}
use lib.Dec.{ltb}
use borrow.Author.Tests.{lt-ltb}
use Rattle.listlaws.specs.Order.{◌∈◌, Ascending, nil, next, by}
use Rattle.listlaws.specs.Sift.{those}
use Rattle.listlaws.proofs.Orders.{head-before, tail-ascends}
use Rattle.listlaws.proofs.Those.{those-means, those-ascends}
use Rattle.clock.specs.Lawful.{Lawful}
use Rattle.records.specs.declared.Record.{Record}
use Rattle.records.specs.Kinds.{actor_of, record_ok, before}
use Rattle.scan.specs.Numbers.{scan_number}
use Rattle.records.proofs.Rule.{is_value}
use Rattle.scan.proofs.Befores.{before-fields, before-actor}
use Rattle.scan.proofs.Builds.{formed-ascends}
use Rattle.scan.proofs.Rooms.{good-at}
use Rattle.scan.proofs.Scanning.{scan_good}
use Rattle.clockimage.specs.Image.{dot_of, dots_from}

strictly : (a b : ℕ) → a ≤ b → (a ≡ b → ⊥) → a < b
strictly a b h n = omega arith

-- of one kind, and a rank that no two share
module _ {B : Type 0} (f : Record → B) (rank : B → ℕ) (Within : Record → Type 0)
    (apart : (x y : Record) → Within x → Within y → before x y ≡ true → rank (f x) < rank (f y)) where
  pub ranks-rise : (m : List Record) → ((x : Record) → x ∈ m → Within x) → Ascending before m → Ascending (by rank) (map f m)
  ranks-rise [] h a = nil
  ranks-rise (x ∷ m) h a = next further (ranks-rise m (λ y i. h y (Memᴰ.tail i)) (tail-ascends a))
    where
      further : (d : B) → d ∈ map f m → ltb (rank (f x)) (rank d) ≡ true
      further d i =
          let y = Memᴰ.of_map f m i in
          rw (← y.2) (lt-ltb (rank (f x)) (rank (f y.0)) (apart x y.0 (h x (Memᴰ.head refl)) (h y.0 (Memᴰ.tail y.1))
          (head-before a y.0 y.1)))

module _ (low high : ℕ) (l : List Record) (z : scan_number low high l ≡ 0) where
  pub fine : (x : Record) → x ∈ l → record_ok low high x ≡ true
  fine x i = good-at low high l (scan_good low high l z).0 x i

  pub rises : Ascending before l
  rises = formed-ascends low high l (scan_good low high l z).0

  -- dots under one kind, key and index
  module _ (test : Record → Bool) (kind key index : ℕ) where
    pub record Grouped (x : Record) : Type 0 where
      pub kind-is : x.kind ≡ kind
      pub key-is : x.key ≡ key
      pub index_is : x.index ≡ index
      pub counter : 0 < x.number

    pub dots-lawful : is_value kind ≡ false → ((x : Record) → x ∈ l → test x ≡ true → Grouped x) → Lawful (dots_from test l)
    dots-lawful plain g = record {
      rising = ranks-rise dot_of (λ d. d.actor) Grouped
          (λ x y p q b. before-actor (before-fields b) (ap is_value p.kind-is ∙ plain) (p.kind-is ∙ sym q.kind-is) (p.key-is ∙ sym q.key-is)
          (p.index_is ∙ sym q.index_is))
          (those test l) in_group (those-ascends test rises);
      positive = λ d i. let y = Memᴰ.of_map dot_of (those test l) i in rw (← y.2) (in_group y.0 y.1).counter;
    }
      where
        in_group : (x : Record) → x ∈ those test l → Grouped x
        in_group x i = let m = those-means test l i in g x m.0 m.1

  -- keys under one kind and index, with no actor
  module _ (test : Record → Bool) (kind index : ℕ) where
    pub record Listed (x : Record) : Type 0 where
      pub kind-is : x.kind ≡ kind
      pub index_is : x.index ≡ index
      pub no-actor : actor_of x ≡ 0

    pub keys-rise : ((x : Record) → x ∈ l → test x ≡ true → Listed x) → Ascending (by (λ k. k)) (map (λ x. x.key) (those test l))
    keys-rise g =
        ranks-rise (λ x. x.key) (λ k. k) Listed below (those test l) (λ x i. let m = those-means test l i in g x m.0 m.1)
        (those-ascends test rises)
      where
        below : (x y : Record) → Listed x → Listed y → before x y ≡ true → x.key < y.key
        below x y p q b =
            let f = before-fields b in
            let k = p.kind-is ∙ sym q.kind-is in
            let i = p.index_is ∙ sym q.index_is in
            let most = f.key k in
            let a = p.no-actor in
            let c = q.no-actor in
            strictly x.key y.key most (λ e. omega (arith, f.actor k e i))
