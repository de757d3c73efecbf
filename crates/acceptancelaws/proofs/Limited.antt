-- Groups of records within a limit: what has room for each record has no more than the limit.
use mathlib.Core.Path.{◌≡◌, refl, ap, ◌∙◌}
use mathlib.Core.Bool.{Bool, true}
use mathlib.Core.List.{List, [], ◌∷◌, ◌++◌}
use Prim.Native.Nat.{ℕ, ◌≤◌, ◌<◌}
use native.Mathlib.Omega.{arith}
use lib.Dec.{eqb}
use lib.ListN.{length, length-map}
use borrow.Author.Tests.{eqb-true}
use Rattle.listlaws.specs.Sift.{sift, those}
use Rattle.listlaws.proofs.Pads.{length-snoc}
use Rattle.limits.specs.Limits.{dot_limit, value_limit, key_limit}
use Rattle.records.specs.declared.Record.{Record}
use Rattle.scan.specs.Numbers.{scan_number}
use Rattle.scan.proofs.Eachs.{decide, both_left, both_right}
use Rattle.scan.proofs.Rooms.{those-yes, those-no}
use Rattle.scan.proofs.Scanning.{scan-before}
use Rattle.clockimage.specs.Image.{is_kind, dot_of, dots_from}
use Rattle.clockimage.proofs.Dots.{dots-room}
use Rattle.maprecords.specs.Reading.{under_key, under_index, under_both}
use Rattle.clockimage.specs.ClockImage.{clock_in}
use Rattle.maprecords.proofs.Counts.{by-records, entry-dots-room, values-room, value-dots-room, waiting-dots-room, waiting-keys-room}

module _ (low high : ℕ) (test : Record → Bool) (limit : ℕ)
    (room : (l : List Record) (r : Record) → scan_number low high (l ++ (r ∷ [])) ≡ 0 → test r ≡ true → length (those test l) < limit) where
  pub few : (l : List Record) → scan_number low high l ≡ 0 → length (those test l) ≤ limit
  unfolding sift
  few = by-records (λ l. scan_number low high l ≡ 0 → length (those test l) ≤ limit) (λ z. omega arith) more
    where
      more : (l : List Record) (r : Record) → (scan_number low high l ≡ 0 → length (those test l) ≤ limit) → scan_number low high (l ++ (r ∷ [])) ≡ 0
          → length (those test (l ++ (r ∷ []))) ≤ limit
      more l r p z =
          decide (test r)
          (λ t. let e = ap length (those-yes test l r t) ∙ length-snoc (those test l) r in let h = room l r z t in omega arith)
          (λ f. let e = ap length (those-no test l r f) in let h = p (scan-before low high l r z) in omega arith)

  pub few-dots : (l : List Record) → scan_number low high l ≡ 0 → length (dots_from test l) ≤ limit
  few-dots l z = let h = few l z in omega (arith, length-map (those test l) dot_of)

-- each test of a map's image
pub is-kind : (kind : ℕ) (r : Record) → is_kind kind r ≡ true → r.kind ≡ kind
is-kind kind r t = eqb-true r.kind kind t

pub clock-few : (l : List Record) → scan_number 1 6 l ≡ 0 → length (clock_in l) ≤ dot_limit
clock-few = few-dots 1 6 (is_kind 1) dot_limit (λ l r z t. let h = dots-room 1 6 l r z 1 (is-kind 1 r t) (λ e. omega arith) refl refl in
    omega (arith, length-map (those (is_kind 1) l) dot_of))

module _ (key : ℕ) where
  pub at_key : (kind : ℕ) (r : Record) → under_key kind key r ≡ true → (r.kind ≡ kind) × (r.key ≡ key)
  at_key kind r t = (
    is-kind kind r (both_left (is_kind kind r) (eqb r.key key) t),
    eqb-true r.key key (both_right (is_kind kind r) (eqb r.key key) t),
  )

  pub entry-dots-few : (l : List Record) → scan_number 1 6 l ≡ 0 → length (dots_from (under_key 2 key) l) ≤ dot_limit
  entry-dots-few = few-dots 1 6 (under_key 2 key) dot_limit (λ l r z t. let k = at_key 2 r t in
      let h = entry-dots-room l r z k.0 in let e = ap (λ q. length (dots_from (under_key 2 q) l)) k.1 in
      omega (arith, length-map (those (under_key 2 key) l) dot_of))

  pub values-few : (l : List Record) → scan_number 1 6 l ≡ 0 → length (those (under_key 3 key) l) ≤ value_limit
  values-few = few 1 6 (under_key 3 key) value_limit (λ l r z t. let k = at_key 3 r t in
      let h = values-room l r z k.0 in let e = ap (λ q. length (those (under_key 3 q) l)) k.1 in omega arith)

  module _ (index : ℕ) where
    pub at_both : (r : Record) → under_both 4 key index r ≡ true → ((r.kind ≡ 4) × (r.key ≡ key)) × (r.index ≡ index)
    at_both r t = (
      at_key 4 r (both_left (under_key 4 key r) (eqb r.index index) t),
      eqb-true r.index index (both_right (under_key 4 key r) (eqb r.index index) t),
    )

    pub value-dots-few : (l : List Record) → scan_number 1 6 l ≡ 0 → length (dots_from (under_both 4 key index) l) ≤ dot_limit
    value-dots-few = few-dots 1 6 (under_both 4 key index) dot_limit (λ l r z t. let k = at_both r t in
        let h = value-dots-room l r z k.0.0 in
        let e = ap (λ q. length (dots_from (under_both 4 q r.index) l)) k.0.1 ∙ ap (λ q. length (dots_from (under_both 4 key q) l)) k.1 in
        omega (arith, length-map (those (under_both 4 key index) l) dot_of))

module _ (index : ℕ) where
  pub at-index : (kind : ℕ) (r : Record) → under_index kind index r ≡ true → (r.kind ≡ kind) × (r.index ≡ index)
  at-index kind r t = (
    is-kind kind r (both_left (is_kind kind r) (eqb r.index index) t),
    eqb-true r.index index (both_right (is_kind kind r) (eqb r.index index) t),
  )

  pub waiting-dots-few : (l : List Record) → scan_number 1 6 l ≡ 0 → length (dots_from (under_index 5 index) l) ≤ dot_limit
  waiting-dots-few = few-dots 1 6 (under_index 5 index) dot_limit (λ l r z t. let k = at-index 5 r t in
      let h = waiting-dots-room l r z k.0 in let e = ap (λ q. length (dots_from (under_index 5 q) l)) k.1 in
      omega (arith, length-map (those (under_index 5 index) l) dot_of))

  pub waiting-keys-few : (l : List Record) → scan_number 1 6 l ≡ 0 → length (those (under_index 6 index) l) ≤ key_limit
  waiting-keys-few = few 1 6 (under_index 6 index) key_limit (λ l r z t. let k = at-index 6 r t in
      let h = waiting-keys-room l r z k.0 in let e = ap (λ q. length (those (under_index 6 q) l)) k.1 in omega arith)
