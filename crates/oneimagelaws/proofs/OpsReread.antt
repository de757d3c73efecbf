-- What was written as an operation reads as it was.
use mathlib.Core.Path.{◌≡◌, refl, ap, ap₂, sym, ◌∙◌}
use mathlib.Core.Bool.{true, false, cond}
use mathlib.Core.Logic.{◌⊎◌, ⊎_elim}
use mathlib.Core.List.Memᴰ
use mathlib.Core.List.{List, [], ◌∷◌, ◌++◌, map, append-nil}
use Prim.Native.Nat.{ℕ, ◌+◌, ◌%◌, ◌^◌, ◌≤◌, ◌<◌}
use native.Mathlib.Omega.{arith}
use lib.Dec.{eqb}
use lib.ListN.{length, length-append, length-map}
use borrow.Author.Tests.{eq-eqb, ne_eqb, eqb-true, lt-ltb, le-ltb, ltb-true}
use Rattle.listlaws.specs.Order.{◌∈◌, Ascending, nil, next, by}
use Rattle.listlaws.specs.Sift.{sift, those}
use Rattle.listlaws.proofs.Orders.{head-before, tail-ascends}
use Rattle.listlaws.proofs.Sifts.{sift-append}
use Rattle.listlaws.proofs.Those.{those-all, those-none}
use Rattle.clock.specs.declared.Dot.{Dot}
use Rattle.limits.specs.Limits.{dot_limit, key_limit}
use Rattle.clock.specs.Dots.{clock_of}
use Rattle.clock.specs.Lawful.{Lawful}
use Rattle.register.specs.declared.Content.{Content}
use Rattle.entries.specs.declared.Update.{Update}
use Rattle.removals.specs.Model.{removal_as, no_removal}
use Rattle.entries.specs.Model.{no_update}
use Rattle.records.specs.declared.Record.{Record}
use Rattle.records.specs.Kinds.{before, record_ok}
use Rattle.records.specs.Records.{bytes_of}
use Rattle.records.proofs.RoundTrips.{Fitting, length-bytes, read-written}
use Rattle.scan.specs.Limits.{outer, middle, inner, same_kind, same_outer, same_middle}
use Rattle.scan.proofs.Eachs.{both_left}
use Rattle.scan.proofs.Befores.{fields-before}
use Rattle.scan.proofs.Builds.{Among, scan-of}
use Rattle.clockimage.specs.Image.{is_kind, dot_of, dot_record, dot_records, content_of, DotFits, ContentFits}
use Rattle.clockimage.proofs.RoundTrip.{dots-ascend, dots-back}
use Rattle.opimage.specs.OpImage.{op_longest, key_record, removal_head, update_head, put_value, op_related, op_in, read_op}
use Rattle.oneimagelaws.proofs.OpsRewritten.{only, no_record_lem}

-- lists one behind the other, by kind
pub behind : (l m : List Record) → Ascending before l → Ascending before m → ((x y : Record) → x ∈ l → y ∈ m → x.kind < y.kind)
    → Ascending before (l ++ m)
behind [] m a b h = b
behind (x ∷ l) m a b h =
    next (λ y i. ⊎_elim (λ j. head-before a y j) (λ j. let k = h x y (Memᴰ.head refl) j in by_kind x y k) (Memᴰ.append_cases l i))
    (behind l m (tail-ascends a) b (λ y z i j. h y z (Memᴰ.tail i) j))
  where
    by_kind : (x y : Record) → x.kind < y.kind → before x y ≡ true
    by_kind x y k = fields-before (record {
      kind = omega arith;
      key = λ e. absurd (omega arith);
      index = λ e _. absurd
          (omega arith);
      actor = λ e _ _. absurd (omega arith);
    })

keys-ascend : (kind index : ℕ) (l : List ℕ) → Ascending (by (λ k. k)) l → Ascending before (map (key_record kind index) l)
keys-ascend kind index [] a = nil
keys-ascend kind index (k ∷ l) a = next further (keys-ascend kind index l (tail-ascends a))
  where
    further : (y : Record) → y ∈ map (key_record kind index) l → before (key_record kind index k) y ≡ true
    further y i =
        let m = Memᴰ.of_map (key_record kind index) l i in
        let h = ltb-true k m.0 (head-before a m.0 m.1) in
        rw (← m.2) (fields-before (record {
          kind = omega arith;
          key = λ _. omega arith;
          index = λ _ e. absurd (omega arith);
          actor = λ _ e _. absurd
              (omega arith);
        }))

keys-back : (kind index : ℕ) (l : List ℕ) → map (λ r. r.key) (map (key_record kind index) l) ≡ l
keys-back kind index [] = refl
keys-back kind index (k ∷ l) = ap (λ m. k ∷ m) (keys-back kind index l)

-- records of one group are of one kind
same_kind_lem : (r x : Record) (n : ℕ) → r.kind ≡ n → same_kind r x ≡ true → x.kind ≡ n
same_kind_lem r x n e t = eqb-true x.kind r.kind t ∙ e

by-outer : (r x : Record) → same_outer r x ≡ true → same_kind r x ≡ true
by-outer r x t = both_left (same_kind r x) (eqb (outer x) (outer r)) t

by-middle : (r x : Record) → same_middle r x ≡ true → same_kind r x ≡ true
by-middle r x t = by-outer r x (both_left (same_outer r x) (eqb (middle x) (middle r)) t)

-- a removal of the keys k under the dots d
module _ (d : List Dot) (k : List ℕ) where
  abbrev whole : List Record
  whole = removal_head ∷ (dot_records 8 0 0 d ++ map (key_record 9 0) k)

  -- each record is the head, a dot's or a key's
  data Is (x : Record) : Type 0 where
    head : x ≡ removal_head → Is x
    dot : (c : Dot) → c ∈ d → x ≡ dot_record 8 0 0 c → Is x
    key : (y : ℕ) → y ∈ k → x ≡ key_record 9 0 y → Is x

  is : (x : Record) → x ∈ whole → Is x
  is x i =
      ⊎_elim (λ (e : x ≡ removal_head). head e)
      (λ j. ⊎_elim (λ a. let m = Memᴰ.of_map (dot_record 8 0 0) d a in dot m.0 m.1 (sym m.2)) (λ b. let m = Memᴰ.of_map (key_record 9 0) k b in
      key m.0 m.1 (sym m.2)) (Memᴰ.append_cases (dot_records 8 0 0 d) j))
      (Memᴰ.cases_cons i)

  ascends : Lawful d → Ascending (by (λ y. y)) k → Ascending before whole
  ascends w a =
      behind (removal_head ∷ []) (dot_records 8 0 0 d ++ map (key_record 9 0) k) (next (λ y i. absurd (Memᴰ.not-nil i)) nil)
      (behind (dot_records 8 0 0 d) (map (key_record 9 0) k) (dots-ascend 8 0 0 refl d w.rising) (keys-ascend 9 0 k a)
      (λ x y i j. let m = ap (λ (r : Record). r.kind) (Memᴰ.of_map (dot_record 8 0 0) d i).2 in
      let n = ap (λ (r : Record). r.kind) (Memᴰ.of_map (key_record 9 0) k j).2 in omega arith))
      (λ x y i j. ⊎_elim (λ (e : x ≡ removal_head). let q = ap (λ (r : Record). r.kind) e in above x y j q) (λ z. absurd (Memᴰ.not-nil z))
      (Memᴰ.cases_cons i))
    where
      above : (x y : Record) → y ∈ (dot_records 8 0 0 d ++ map (key_record 9 0) k) → x.kind ≡ 7 → x.kind < y.kind
      above x y j q =
          ⊎_elim (λ a. let m = ap (λ (r : Record). r.kind) (Memᴰ.of_map (dot_record 8 0 0) d a).2 in omega arith)
          (λ b. let m = ap (λ (r : Record). r.kind) (Memᴰ.of_map (key_record 9 0) k b).2 in omega arith)
          (Memᴰ.append_cases (dot_records 8 0 0 d) j)

  good : Lawful d → (x : Record) → x ∈ whole → record_ok 7 12 x ≡ true
  unfolding record_ok
  good w x i = go x (is x i)
    where
      go : (x : Record) → Is x → record_ok 7 12 x ≡ true
      go x (head e) = rw e
      go x (dot c j e) = rw (e, lt-ltb 0 c.counter (w.positive c j))
      go x (key y j e) = rw e

  of-head : (x : Record) → x ∈ whole → x.kind ≡ 7 → x ≡ removal_head
  of-head x i q = go x (is x i) q
    where
      go : (x : Record) → Is x → x.kind ≡ 7 → x ≡ removal_head
      go x (head e) q = e
      go x (dot c j e) q = absurd (let z = ap (λ (r : Record). r.kind) e in omega arith)
      go x (key y j e) q = absurd (let z = ap (λ (r : Record). r.kind) e in omega arith)

  of-dot : (x : Record) → x ∈ whole → x.kind ≡ 8 → (c : Dot) × (c ∈ d) × (x ≡ dot_record 8 0 0 c)
  of-dot x i q = go x (is x i) q
    where
      go : (x : Record) → Is x → x.kind ≡ 8 → (c : Dot) × (c ∈ d) × (x ≡ dot_record 8 0 0 c)
      go x (head e) q = absurd (let z = ap (λ (r : Record). r.kind) e in omega arith)
      go x (dot c j e) q = (c, j, e)
      go x (key y j e) q = absurd (let z = ap (λ (r : Record). r.kind) e in omega arith)

  of-key : (x : Record) → x ∈ whole → x.kind ≡ 9 → (y : ℕ) × (y ∈ k) × (x ≡ key_record 9 0 y)
  of-key x i q = go x (is x i) q
    where
      go : (x : Record) → Is x → x.kind ≡ 9 → (y : ℕ) × (y ∈ k) × (x ≡ key_record 9 0 y)
      go x (head e) q = absurd (let z = ap (λ (r : Record). r.kind) e in omega arith)
      go x (dot c j e) q = absurd (let z = ap (λ (r : Record). r.kind) e in omega arith)
      go x (key y j e) q = (y, j, e)

  among : length d ≤ dot_limit → length k ≤ key_limit → (r : Record) → r ∈ whole → Among whole r
  among hd hk r i = go r (is r i)
    where
      go : (r : Record) → Is r → Among whole r
      go r (head e) =
          let n = ap (λ (q : Record). q.kind) e in
          record {
            outers = 0 ∷ [];
            middles = 0 ∷ [];
            inners = 0 ∷ [];
            in-outers = λ x j t. Memᴰ.head (ap outer (of-head x j (same_kind_lem r x 7 n t)));
            in-middles = λ x j t. Memᴰ.head (ap middle (of-head x j (same_kind_lem r x 7 n (by-outer r x t))));
            in-inners = λ x j t. Memᴰ.head (ap inner (of-head x j (same_kind_lem r x 7 n (by-middle r x t))));
            few-outers = rw e (omega arith);
            few-middles = rw e (omega arith);
            few-inners = rw e (omega arith);
          }
      go r (dot c j e) =
          let n = ap (λ (q : Record). q.kind) e in
          record {
            outers = 0 ∷ [];
            middles = 0 ∷ [];
            inners = map (λ a. a.actor) d;
            in-outers = λ x j t. Memᴰ.head (ap outer (of-dot x j (same_kind_lem r x 8 n t)).2);
            in-middles = λ x j t. Memᴰ.head (ap middle (of-dot x j (same_kind_lem r x 8 n (by-outer r x t))).2);
            in-inners = λ x j t. let m = of-dot x j (same_kind_lem r x 8 n (by-middle r x t)) in rw m.2 (Memᴰ.map (λ a. a.actor) m.1);
            few-outers = rw e (omega arith);
            few-middles = rw e (omega arith);
            few-inners = rw (e, length-map d (λ a. a.actor)) hd;
          }
      go r (key y j e) =
          let n = ap (λ (q : Record). q.kind) e in
          record {
            outers = k;
            middles = 0 ∷ [];
            inners = 0 ∷ [];
            in-outers = λ x j t. let m = of-key x j (same_kind_lem r x 9 n t) in rw m.2 m.1;
            in-middles = λ x j t. Memᴰ.head (ap middle (of-key x j (same_kind_lem r x 9 n (by-outer r x t))).2);
            in-inners = λ x j t. Memᴰ.head (ap inner (of-key x j (same_kind_lem r x 9 n (by-middle r x t))).2);
            few-outers = rw e hk;
            few-middles = rw e (omega arith);
            few-inners = rw e (omega arith);
          }

  -- those of each kind
  kind-of-dot : (x : Record) → x ∈ dot_records 8 0 0 d → x.kind ≡ 8
  kind-of-dot x i = ap (λ (r : Record). r.kind) (sym (Memᴰ.of_map (dot_record 8 0 0) d i).2)

  kind-of-key : (x : Record) → x ∈ map (key_record 9 0) k → x.kind ≡ 9
  kind-of-key x i = ap (λ (r : Record). r.kind) (sym (Memᴰ.of_map (key_record 9 0) k i).2)

  parts : (n : ℕ) → those (is_kind n) whole ≡ cond (eqb 7 n)
      (removal_head ∷ (those (is_kind n) (dot_records 8 0 0 d) ++ those (is_kind n) (map (key_record 9 0) k)))
      (those (is_kind n) (dot_records 8 0 0 d) ++ those (is_kind n) (map (key_record 9 0) k))
  unfolding sift
  parts n = rw (sift-append (is_kind n) (λ x. x) (dot_records 8 0 0 d) (map (key_record 9 0) k))

  no-dots : (n : ℕ) → (8 ≡ n → ⊥) → those (is_kind n) (dot_records 8 0 0 d) ≡ []
  no-dots n h = those-none (is_kind n) (dot_records 8 0 0 d) (λ x i. ne_eqb x.kind n (λ e. h (sym (kind-of-dot x i) ∙ e)))

  no_keys : (n : ℕ) → (9 ≡ n → ⊥) → those (is_kind n) (map (key_record 9 0) k) ≡ []
  no_keys n h = those-none (is_kind n) (map (key_record 9 0) k) (λ x i. ne_eqb x.kind n (λ e. h (sym (kind-of-key x i) ∙ e)))

  head-part : those (is_kind 7) whole ≡ removal_head ∷ []
  head-part = parts 7 ∙ ap₂ (λ a b. removal_head ∷ (a ++ b)) (no-dots 7 (λ e. omega arith)) (no_keys 7 (λ e. omega arith))

  dot-part : those (is_kind 8) whole ≡ dot_records 8 0 0 d
  dot-part = parts 8 ∙ ap₂ ◌++◌ (those-all (is_kind 8) (dot_records 8 0 0 d) (λ x i. eq-eqb x.kind 8 (kind-of-dot x i)))
      (no_keys 8 (λ e. omega arith)) ∙ append-nil (dot_records 8 0 0 d)

  key-part : those (is_kind 9) whole ≡ map (key_record 9 0) k
  key-part = parts 9 ∙ ap₂ ◌++◌ (no-dots 9 (λ e. omega arith)) (those-all (is_kind 9) (map (key_record 9 0) k)
      (λ x i. eq-eqb x.kind 9 (kind-of-key x i)))

  no_part : (n : ℕ) → (7 ≡ n → ⊥) → (8 ≡ n → ⊥) → (9 ≡ n → ⊥) → those (is_kind n) whole ≡ []
  no_part n a b c = parts n ∙ rw (ne_eqb 7 n a) (ap₂ ◌++◌ (no-dots n b) (no_keys n c))

  ten : those (is_kind 10) whole ≡ []
  ten = no_part 10 (λ e. omega arith) (λ e. omega arith) (λ e. omega arith)

  eleven : those (is_kind 11) whole ≡ []
  eleven = no_part 11 (λ e. omega arith) (λ e. omega arith) (λ e. omega arith)

  twelve : those (is_kind 12) whole ≡ []
  twelve = no_part 12 (λ e. omega arith) (λ e. omega arith) (λ e. omega arith)

  related : op_related whole ≡ true
  unfolding op_related
  related = rw (head-part, ten, eleven, twelve)

  removal-stands : op_in whole ≡ record { up = false; removal = removal_as d k; update = no_update }
  removal-stands =
      let u = ap length ten in
      λ i. record {
        up = eqb (u i) 1;
        removal = removal_as ((ap (map dot_of) dot-part ∙ dots-back 8 0 0 d) i) ((ap (map (λ r. r.key)) key-part ∙ keys-back 9 0 k) i);
        update = record {
          dot = dot_of (no_record_lem 10 whole ten i);
          key = (no_record_lem 10 whole ten i).key;
          put = record { clock = clock_of (map dot_of (twelve i)); value = content_of (no_record_lem 11 whole eleven i) };
        };
      }

  -- what was written as a removal reads as it was
  pub read-removal-written : Lawful d → Ascending (by (λ y. y)) k → ((c : Dot) → c ∈ d → DotFits c) → ((y : ℕ) → y ∈ k → y < 2 ^ 32)
      → length d ≤ dot_limit → length k ≤ key_limit
      → read_op (bytes_of whole) ≡ record { number = 0; op = record { up = false; removal = removal_as d k; update = no_update } }
  unfolding read_op
  read-removal-written w a fd fk hd hk =
      let n = length-bytes whole in
      let m = length-append (dot_records 8 0 0 d) (map (key_record 9 0) k) in
      let p = length-map d (dot_record 8 0 0) in
      let q = length-map k (key_record 9 0) in
      rw (
        le-ltb op_longest (length (bytes_of whole)) (omega arith),
        eq-eqb (length (bytes_of whole) % 16) 0 (omega arith),
        read-written whole fits,
        scan-of 7 12 whole (ascends w a) (good w) (among hd hk),
        related,
        removal-stands,
      )
    where
      fits : (x : Record) → x ∈ whole → Fitting x
      fits x i = go x (is x i)
        where
          go : (x : Record) → Is x → Fitting x
          go x (head e) = rw e (record { kind = omega arith; index = omega arith; actor = omega arith; key = omega arith; number = omega arith })
          go x (dot c j e) = let f = fd c j in
              rw e (record { kind = omega arith; index = omega arith; actor = f.actor; key = omega arith; number = f.counter })
          go x (key y j e) = let f = fk y j in
              rw e (record { kind = omega arith; index = omega arith; actor = omega arith; key = f; number = omega arith })

-- the same of an update of a key y by the dot (a, c), which puts v under the dots d
module _ (a c y : ℕ) (v : Content) (d : List Dot) where
  abbrev update : Update
  update = record { dot = record { actor = a; counter = c }; key = y; put = record { clock = clock_of d; value = v } }

  abbrev all : List Record
  all = update_head update ∷ (put_value update ∷ dot_records 12 0 0 d)

  data Was (x : Record) : Type 0 where
    first : x ≡ update_head update → Was x
    second : x ≡ put_value update → Was x
    third : (e : Dot) → e ∈ d → x ≡ dot_record 12 0 0 e → Was x

  was : (x : Record) → x ∈ all → Was x
  was x i =
      ⊎_elim (λ (e : x ≡ update_head update). first e)
      (λ j. ⊎_elim (λ (e : x ≡ put_value update). second e) (λ b. let m = Memᴰ.of_map (dot_record 12 0 0) d b in third m.0 m.1 (sym m.2))
      (Memᴰ.cases_cons j))
      (Memᴰ.cases_cons i)

  kind-of : (x : Record) → x ∈ dot_records 12 0 0 d → x.kind ≡ 12
  kind-of x i = ap (λ (r : Record). r.kind) (sym (Memᴰ.of_map (dot_record 12 0 0) d i).2)

  rises : Lawful d → Ascending before all
  rises w =
      behind (update_head update ∷ []) (put_value update ∷ dot_records 12 0 0 d) alone
      (behind (put_value update ∷ []) (dot_records 12 0 0 d) alone (dots-ascend 12 0 0 refl d w.rising)
      (λ x z i j. ⊎_elim (λ (e : x ≡ put_value update). let q = ap (λ (r : Record). r.kind) e in let m = kind-of z j in omega arith)
      (λ b. absurd (Memᴰ.not-nil b)) (Memᴰ.cases_cons i)))
      (λ x z i j. ⊎_elim
      (λ (e : x ≡ update_head update). let q = ap (λ (r : Record). r.kind) e in
      ⊎_elim (λ (f : z ≡ put_value update). let m = ap (λ (r : Record). r.kind) f in omega arith) (λ b. let m = kind-of z b in omega arith)
      (Memᴰ.cases_cons j))
      (λ b. absurd (Memᴰ.not-nil b)) (Memᴰ.cases_cons i))
    where
      alone : {x : Record} → Ascending before (x ∷ [])
      alone = next (λ y i. absurd (Memᴰ.not-nil i)) nil

  sound : 0 < c → Lawful d → (x : Record) → x ∈ all → record_ok 7 12 x ≡ true
  unfolding record_ok
  sound h w x i = go x (was x i)
    where
      go : (x : Record) → Was x → record_ok 7 12 x ≡ true
      go x (first e) = rw (e, lt-ltb 0 c h)
      go x (second e) = rw e
      go x (third f j e) = rw (e, lt-ltb 0 f.counter (w.positive f j))

  was-first : (x : Record) → x ∈ all → x.kind ≡ 10 → x ≡ update_head update
  was-first x i q = go x (was x i) q
    where
      go : (x : Record) → Was x → x.kind ≡ 10 → x ≡ update_head update
      go x (first e) q = e
      go x (second e) q = absurd (let z = ap (λ (r : Record). r.kind) e in omega arith)
      go x (third f j e) q = absurd (let z = ap (λ (r : Record). r.kind) e in omega arith)

  was-second : (x : Record) → x ∈ all → x.kind ≡ 11 → x ≡ put_value update
  was-second x i q = go x (was x i) q
    where
      go : (x : Record) → Was x → x.kind ≡ 11 → x ≡ put_value update
      go x (first e) q = absurd (let z = ap (λ (r : Record). r.kind) e in omega arith)
      go x (second e) q = e
      go x (third f j e) q = absurd (let z = ap (λ (r : Record). r.kind) e in omega arith)

  was-third : (x : Record) → x ∈ all → x.kind ≡ 12 → (f : Dot) × (f ∈ d) × (x ≡ dot_record 12 0 0 f)
  was-third x i q = go x (was x i) q
    where
      go : (x : Record) → Was x → x.kind ≡ 12 → (f : Dot) × (f ∈ d) × (x ≡ dot_record 12 0 0 f)
      go x (first e) q = absurd (let z = ap (λ (r : Record). r.kind) e in omega arith)
      go x (second e) q = absurd (let z = ap (λ (r : Record). r.kind) e in omega arith)
      go x (third f j e) q = (f, j, e)

  amid : length d ≤ dot_limit → (r : Record) → r ∈ all → Among all r
  amid hd r i = go r (was r i)
    where
      go : (r : Record) → Was r → Among all r
      go r (first e) =
          let n = ap (λ (q : Record). q.kind) e in
          record {
            outers = y ∷ [];
            middles = 0 ∷ [];
            inners = a ∷ [];
            in-outers = λ x j t. Memᴰ.head (ap outer (was-first x j (same_kind_lem r x 10 n t)));
            in-middles = λ x j t. Memᴰ.head (ap middle (was-first x j (same_kind_lem r x 10 n (by-outer r x t))));
            in-inners = λ x j t. Memᴰ.head (ap inner (was-first x j (same_kind_lem r x 10 n (by-middle r x t))));
            few-outers = rw e (omega arith);
            few-middles = rw e (omega arith);
            few-inners = rw e (omega arith);
          }
      go r (second e) =
          let n = ap (λ (q : Record). q.kind) e in
          record {
            outers = 0 ∷ [];
            middles = 0 ∷ [];
            inners = 0 ∷ [];
            in-outers = λ x j t. Memᴰ.head (ap outer (was-second x j (same_kind_lem r x 11 n t)));
            in-middles = λ x j t. Memᴰ.head (ap middle (was-second x j (same_kind_lem r x 11 n (by-outer r x t))));
            in-inners = λ x j t. Memᴰ.head (ap inner (was-second x j (same_kind_lem r x 11 n (by-middle r x t))));
            few-outers = rw e (omega arith);
            few-middles = rw e (omega arith);
            few-inners = rw e (omega arith);
          }
      go r (third f j e) =
          let n = ap (λ (q : Record). q.kind) e in
          record {
            outers = 0 ∷ [];
            middles = 0 ∷ [];
            inners = map (λ g. g.actor) d;
            in-outers = λ x j t. Memᴰ.head (ap outer (was-third x j (same_kind_lem r x 12 n t)).2);
            in-middles = λ x j t. Memᴰ.head (ap middle (was-third x j (same_kind_lem r x 12 n (by-outer r x t))).2);
            in-inners = λ x j t. let m = was-third x j (same_kind_lem r x 12 n (by-middle r x t)) in rw m.2 (Memᴰ.map (λ g. g.actor) m.1);
            few-outers = rw e (omega arith);
            few-middles = rw e (omega arith);
            few-inners = rw (e, length-map d (λ g. g.actor)) hd;
          }

  no-others : (n : ℕ) → (12 ≡ n → ⊥) → those (is_kind n) (dot_records 12 0 0 d) ≡ []
  no-others n h = those-none (is_kind n) (dot_records 12 0 0 d) (λ x i. ne_eqb x.kind n (λ e. h (sym (kind-of x i) ∙ e)))

  pieces : (n : ℕ) → those (is_kind n) all ≡ cond (eqb 10 n) (update_head update ∷ cond (eqb 11 n)
      (put_value update ∷ those (is_kind n) (dot_records 12 0 0 d)) (those (is_kind n) (dot_records 12 0 0 d)))
      (cond (eqb 11 n) (put_value update ∷ those (is_kind n) (dot_records 12 0 0 d)) (those (is_kind n) (dot_records 12 0 0 d)))
  unfolding sift
  pieces n = refl

  the-head : those (is_kind 10) all ≡ update_head update ∷ []
  the-head = pieces 10 ∙ ap (λ m. update_head update ∷ m) (no-others 10 (λ e. omega arith))

  the_value : those (is_kind 11) all ≡ put_value update ∷ []
  the_value = pieces 11 ∙ ap (λ m. put_value update ∷ m) (no-others 11 (λ e. omega arith))

  the-dots : those (is_kind 12) all ≡ dot_records 12 0 0 d
  the-dots = pieces 12 ∙ those-all (is_kind 12) (dot_records 12 0 0 d) (λ x i. eq-eqb x.kind 12 (kind-of x i))

  seven : those (is_kind 7) all ≡ []
  seven = pieces 7 ∙ no-others 7 (λ e. omega arith)

  eight : those (is_kind 8) all ≡ []
  eight = pieces 8 ∙ no-others 8 (λ e. omega arith)

  nine : those (is_kind 9) all ≡ []
  nine = pieces 9 ∙ no-others 9 (λ e. omega arith)

  goes-together : op_related all ≡ true
  unfolding op_related
  goes-together = rw (seven, eight, nine, the-head, the_value)

  update-stands : op_in all ≡ record { up = true; removal = no_removal; update = update }
  update-stands =
      let u = ap length the-head in
      let h = only 10 all (update_head update) the-head in
      let w = only 11 all (put_value update) the_value in
      λ i. record {
        up = eqb (u i) 1;
        removal = removal_as (map dot_of (eight i)) (map (λ r. r.key) (nine i));
        update = record {
          dot = dot_of (h i);
          key = (h i).key;
          put = record { clock = clock_of ((ap (map dot_of) the-dots ∙ dots-back 12 0 0 d) i); value = content_of (w i) };
        };
      }

  -- what was written as an update reads as it was
  pub read-update-written : a < 2 ^ 16 → 0 < c → c < 2 ^ 64 → y < 2 ^ 32 → ContentFits v → Lawful d → ((e : Dot) → e ∈ d → DotFits e)
      → length d ≤ dot_limit
      → read_op (bytes_of all) ≡ record { number = 0; op = record { up = true; removal = no_removal; update = update } }
  unfolding read_op
  read-update-written ha hc hn hy hv w fd hd =
      let n = length-bytes all in
      let p = length-map d (dot_record 12 0 0) in
      rw (
        le-ltb op_longest (length (bytes_of all)) (omega arith),
        eq-eqb (length (bytes_of all) % 16) 0 (omega arith),
        read-written all fits,
        scan-of 7 12 all (rises w) (sound hc w) (amid hd),
        goes-together,
        update-stands,
      )
    where
      fits : (x : Record) → x ∈ all → Fitting x
      fits x i = go x (was x i)
        where
          go : (x : Record) → Was x → Fitting x
          go x (first e) = rw e (record { kind = omega arith; index = omega arith; actor = ha; key = hy; number = hn })
          go x (second e) = rw e (record { kind = omega arith; index = omega arith; actor = hv.origin; key = omega arith; number = hv.number })
          go x (third f j e) = let g = fd f j in
              rw e (record { kind = omega arith; index = omega arith; actor = g.actor; key = omega arith; number = g.counter })
