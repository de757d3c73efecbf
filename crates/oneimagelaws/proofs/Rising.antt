-- The records of a map's image ascend.
use mathlib.Core.Path.{◌≡◌, refl, ap, sym, ◌∙◌}
use mathlib.Core.Bool.{true}
use mathlib.Core.Logic.{⊎_elim}
use mathlib.Core.List.Memᴰ
use mathlib.Core.List.{List, [], ◌∷◌, ◌++◌, map}
use Prim.Native.Nat.{ℕ, ◌+◌, ◌≤◌, ◌<◌}
use native.Mathlib.Omega.{arith}
use lib.ListN.{length}
use borrow.Author.Tests.{ltb-true}
use Rattle.listlaws.specs.Order.{◌∈◌, Ascending, nil, next, by}
use Rattle.listlaws.proofs.Orders.{tail-ascends, head-before}
use Rattle.listlaws.proofs.Sides.{one-ascends, append-ascends}
use Rattle.clock.specs.declared.Dot.{Dot}
use Rattle.clock.specs.Dots.{dots_of}
use Rattle.register.specs.declared.Value.{Value}
use Rattle.entries.specs.declared.Entry.{Entry}
use Rattle.entries.specs.Model.{dots_in, values_in}
use Rattle.removals.specs.Model.{under_of}
use Rattle.map.specs.declared.Map.{Map}
use Rattle.map.specs.Model.{seen_by, entries_in, waiting_in}
use Rattle.map.specs.Valid.{Within}
use Rattle.records.specs.declared.Record.{Record}
use Rattle.records.specs.Kinds.{before}
use Rattle.scan.proofs.Befores.{fields-before}
use Rattle.clockimage.specs.Image.{dot_record, dot_records}
use Rattle.clockimage.proofs.RoundTrip.{dots-ascend}
use Rattle.mapimage.specs.Sorted.{in_order}
use Rattle.mapimage.specs.MapImage.{flat_from, value_record, value_records, entry_records, waiting_dots, key_numbers, number_record, waiting_keys}
use Rattle.mapimage.specs.MapImage.{map_records}
use Rattle.mapimage.proofs.Sorts.{order-ascends}

-- what holds of all that f gives, at every place, holds of the whole
flat-every : {A B : Type 0} (P : B → Type 0) (f : ℕ → A → List B) (i : ℕ) (l : List A)
    → ((j : ℕ) (x : A) → j < i + length l → x ∈ l → (z : B) → z ∈ f j x → P z) → (z : B) → z ∈ flat_from f i l → P z
unfolding flat_from
flat-every P f i [] g z m = absurd (Memᴰ.not-nil m)
flat-every P f i (x ∷ l) g z m =
    ⊎_elim (λ a. g i x (omega arith) (Memᴰ.head refl) z a)
    (λ a. flat-every P f (i + 1) l (λ j y p b. g j y (omega arith) (Memᴰ.tail b)) z a) (Memᴰ.append_cases (f i x) m)

pub by_kind : (x y : Record) → x.kind < y.kind → before x y ≡ true
by_kind x y k = fields-before (record {
  kind = omega arith;
  key = λ e. absurd (omega arith);
  index = λ e _. absurd
      (omega arith);
  actor = λ e _ _. absurd (omega arith);
})

pub by_key : (x y : Record) → x.kind ≡ y.kind → x.key < y.key → before x y ≡ true
by_key x y e k = fields-before (record {
  kind = omega arith;
  key = λ _. omega arith;
  index = λ _ q. absurd (omega arith);
  actor = λ _ q _. absurd
      (omega arith);
})

pub by_index : (x y : Record) → x.kind ≡ y.kind → x.key ≡ y.key → x.index < y.index → before x y ≡ true
by_index x y e q k = fields-before
    (record { kind = omega arith; key = λ _. omega arith; index = λ _ _. omega arith; actor = λ _ _ z. absurd (omega arith) })

-- lists one behind the other: by place
places-ascend : {A : Type 0} (f : ℕ → A → List Record) (i : ℕ) (l : List A) → ((j : ℕ) (x : A) → x ∈ l → Ascending before (f j x))
    → ((j k : ℕ) (x y : A) → j < k → x ∈ l → y ∈ l → (z w : Record) → z ∈ f j x → w ∈ f k y → before z w ≡ true) → Ascending before (flat_from f i l)
unfolding flat_from
places-ascend f i [] g h = nil
places-ascend f i (x ∷ l) g h =
    append-ascends (g i x (Memᴰ.head refl)) (places-ascend f (i + 1) l (λ j y a. g j y (Memᴰ.tail a))
    (λ j k y w p a b. h j k y w p (Memᴰ.tail a) (Memᴰ.tail b)))
    (λ z w a b. later f (i + 1) l (λ w. before z w ≡ true) (λ k y p c w d. h i k x y (omega arith) (Memᴰ.head refl) (Memᴰ.tail c) z w a d) w
    b)
  where
    later : {A : Type 0} (f : ℕ → A → List Record) (i : ℕ) (l : List A) (P : Record → Type 0)
        → ((k : ℕ) (y : A) → i ≤ k → y ∈ l → (w : Record) → w ∈ f k y → P w) → (w : Record) → w ∈ flat_from f i l → P w
    later f i [] P q w b = absurd (Memᴰ.not-nil b)
    later f i (y ∷ l) P q w b =
        ⊎_elim (λ c. q i y (omega arith) (Memᴰ.head refl) w c) (λ c. later f (i + 1) l P (λ k v p d. q k v (omega arith) (Memᴰ.tail d)) w c)
        (Memᴰ.append_cases (f i y) b)

-- by key
keys-ascend : (f : ℕ → Entry → List Record) (i : ℕ) (l : List Entry) → Ascending (by (λ e. e.key)) l
    → ((j : ℕ) (x : Entry) → x ∈ l → Ascending before (f j x)) → ((j k : ℕ) (x y : Entry) → x.key < y.key → (z w : Record) → z ∈ f j x → w ∈ f k y
    → before z w ≡ true) → Ascending before (flat_from f i l)
unfolding flat_from
keys-ascend f i [] a g h = nil
keys-ascend f i (x ∷ l) a g h =
    append-ascends (g i x (Memᴰ.head refl)) (keys-ascend f (i + 1) l (tail-ascends a) (λ j y b. g j y (Memᴰ.tail b)) h)
    (λ z w b c. flat-every (λ w. before z w ≡ true) f (i + 1) l (λ k y p d w e. h i k x y (ltb-true x.key y.key (head-before a y d)) z w b e) w
    c)

-- the fields of what is written
pub record Fields (kind key index : ℕ) (r : Record) : Type 0 where
  pub kind-is : r.kind ≡ kind
  pub key-is : r.key ≡ key
  pub index_is : r.index ≡ index

dot-fields : (kind index key : ℕ) (l : List Dot) (r : Record) → r ∈ dot_records kind index key l → Fields kind key index r
dot-fields kind index key l r i = let y = Memᴰ.of_map (dot_record kind index key) l i in
    rw (← y.2) (record { kind-is = refl; key-is = refl; index_is = refl })

-- the numbers of waiting keys ascend by key, then by index
numbers-ascend : (l : List ℕ) → Ascending (by (λ n. n)) l → Ascending before (map number_record l)
numbers-ascend [] a = nil
numbers-ascend (x ∷ l) a =
    next {x = number_record x} (λ y i. let m = Memᴰ.of_map number_record l i in
    rw (← m.2) (two x m.0 (ltb-true x m.0 (head-before a m.0 m.1)))) (numbers-ascend l (tail-ascends a))
  where
    two : (x y : ℕ) → x < y → before (number_record x) (number_record y) ≡ true
    two x y p = fields-before (record {
      kind = omega arith;
      key = λ _. omega arith;
      index = λ _ e. omega arith;
      actor = λ _ e q. absurd
          (omega arith);
    })

module _ {m : Map} (h : Within m) where
  waiting-ascend : Ascending before (flat_from waiting_dots 0 (waiting_in m))
  waiting-ascend =
      places-ascend waiting_dots 0 (waiting_in m) (λ j q i. dots-ascend 5 j 0 refl (under_of q) (h.valid.waiting.each q i).clock.rising)
      (λ j k x y p a b z w c d. let s = dot-fields 5 j 0 (under_of x) z c in let t = dot-fields 5 k 0 (under_of y) w d in
      by_index z w (s.kind-is ∙ sym t.kind-is) (s.key-is ∙ sym t.key-is) (omega arith))

  entries-ascend : Ascending before (flat_from (entry_records 2) 0 (entries_in m))
  entries-ascend =
      keys-ascend (entry_records 2) 0 (entries_in m) h.valid.entries.rising
      (λ j e i. dots-ascend 2 0 e.key refl (dots_in e) (h.valid.entries.each e i).clock.rising)
      (λ j k x y p z w c d. let s = dot-fields 2 0 x.key (dots_in x) z c in let t = dot-fields 2 0 y.key (dots_in y) w d in
      by_key z w (s.kind-is ∙ sym t.kind-is) (omega arith))

  keys-rise : Ascending before (waiting_keys (waiting_in m))
  keys-rise = numbers-ascend (in_order (flat_from key_numbers 0 (waiting_in m))) (order-ascends (flat_from key_numbers 0 (waiting_in m)))

  -- values and their dots, by key and then by place
  values-rise : (kind : ℕ) → ((e : Entry) → e ∈ entries_in m → (j : ℕ) (v : Value) → v ∈ values_in e
      → Ascending before (value_records kind e.key j v)) → ((k j : ℕ) (v : Value) (r : Record) → r ∈ value_records kind k j v → Fields kind k j r)
      → Ascending before (flat_from (λ j e. flat_from (value_records kind e.key) 0 (values_in e)) 0 (entries_in m))
  values-rise kind g f =
      keys-ascend (λ j e. flat_from (value_records kind e.key) 0 (values_in e)) 0 (entries_in m) h.valid.entries.rising
      (λ j e i. places-ascend (value_records kind e.key) 0 (values_in e) (λ a v b. g e i a v b)
      (λ a b x y p c d z w q u. let s = f e.key a x z q in let t = f e.key b y w u in
      by_index z w (s.kind-is ∙ sym t.kind-is) (s.key-is ∙ sym t.key-is) (omega arith)))
      (λ j k x y p z w c d. let s = under x z c in let t = under y w d in by_key z w (s.0 ∙ sym t.0) (less s.1 t.1 p))
    where
      under : (x : Entry) (z : Record) → z ∈ flat_from (value_records kind x.key) 0 (values_in x) → (z.kind ≡ kind) × (z.key ≡ x.key)
      under x = flat-every (λ z. (z.kind ≡ kind) × (z.key ≡ x.key)) (value_records kind x.key) 0 (values_in x)
          (λ j v p b z c. let s = f x.key j v z c in (s.kind-is, s.key-is))

      less : {a b c d : ℕ} → a ≡ b → c ≡ d → b < d → a < c
      less p q r = omega arith

  value-fields : (k j : ℕ) (v : Value) (r : Record) → r ∈ value_records 3 k j v → Fields 3 k j r
  value-fields k j v r i = let same : r ≡ value_record k j v = Memᴰ.eq_of_singleton i in
      rw same (record { kind-is = refl; key-is = refl; index_is = refl })

  threes : Ascending before (flat_from (entry_records 3) 0 (entries_in m))
  threes = values-rise 3 (λ e i j v b. one-ascends (value_record e.key j v)) value-fields

  fours : Ascending before (flat_from (entry_records 4) 0 (entries_in m))
  fours =
      values-rise 4 (λ e i j v b. dots-ascend 4 j e.key refl (dots_of v.clock) ((h.valid.entries.each e i).values v b).clock.rising)
      (λ k j v r i. dot-fields 4 j k (dots_of v.clock) r i)

  -- all records, by kind
  pub records-ascend : Ascending before (map_records m)
  records-ascend =
      (ahead 1 (dots-ascend 1 0 0 refl (seen_by m) h.valid.clock.rising) (λ x i. (dot-fields 1 0 0 (seen_by m) x i).kind-is)
      (ahead 2 entries-ascend (flat-every (λ x. x.kind ≡ 2) (entry_records 2) 0 (entries_in m)
      (λ j e p b x c. (dot-fields 2 0 e.key (dots_in e) x c).kind-is))
      (ahead 3 threes (flat-every (λ x. x.kind ≡ 3) (entry_records 3) 0 (entries_in m)
      (λ j e p b. flat-every (λ x. x.kind ≡ 3) (value_records 3 e.key) 0 (values_in e) (λ k v q c x d. (value-fields e.key k v x d).kind-is)))
      (ahead 4 fours (flat-every (λ x. x.kind ≡ 4) (entry_records 4) 0 (entries_in m)
      (λ j e p b. flat-every (λ x. x.kind ≡ 4) (value_records 4 e.key) 0 (values_in e)
      (λ k v q c x d. (dot-fields 4 k e.key (dots_of v.clock) x d).kind-is)))
      (ahead 5 waiting-ascend (flat-every (λ x. x.kind ≡ 5) waiting_dots 0 (waiting_in m)
      (λ j q p b x c. (dot-fields 5 j 0 (under_of q) x c).kind-is)) (
        keys-rise,
        λ x i. let y = Memᴰ.of_map number_record (in_order (flat_from key_numbers 0 (waiting_in m))) i in
            let e = ap (λ (r : Record). r.kind) y.2 in omega arith,
      )))))).0
    where
      ahead : (n : ℕ) {l r : List Record} → Ascending before l → ((x : Record) → x ∈ l → x.kind ≡ n)
          → Ascending before r × ((x : Record) → x ∈ r → n < x.kind) → Ascending before (l ++ r) × ((x : Record) → x ∈ (l ++ r) → n ≤ x.kind)
      ahead n {l} {r} a f b = (
        append-ascends a b.0 (λ x y i j. let p = f x i in let q = b.1 y j in by_kind x y (omega arith)),
        λ x i. ⊎_elim (λ j. let p = f x j in omega arith) (λ j. let q = b.1 x j in omega arith) (Memᴰ.append_cases l i),
      )
