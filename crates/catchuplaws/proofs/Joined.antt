-- The cut: it loses nothing, and operations joined are cut where they were joined.
use mathlib.Core.Path.{◌≡◌, refl, ap, sym, ◌∙◌}
use mathlib.Core.Bool.{Bool, true, false, cond, ◌||◌}
use mathlib.Core.Logic.{◌⊎◌, inl, inr, ⊎_elim}
use mathlib.Core.List.Memᴰ
use mathlib.Core.List.{List, [], ◌∷◌, ◌++◌, map, flatten, append_assoc, append-nil}
use Prim.Native.Nat.{ℕ, zero, suc, ◌+◌, ◌/◌, ◌≤◌}
use native.Mathlib.Omega.{arith}
use borrow.Author.Tests.{le-leb}
use lib.Dec.{eqb, ltb}
use lib.ListN.{length, take, drop, length-append, take-append-drop, get_or-append, get_or-eq_default}
use lib.Seq.{take_at, drop_at, get_or-append-add}
use Rattle.listlaws.specs.Order.{◌∈◌}
use Rattle.scan.proofs.Eachs.{decide}
use Rattle.clock.specs.declared.Dot.{Dot}
use Rattle.clock.specs.Dots.{dots_of}
use Rattle.removals.specs.Model.{under_of, listed_in}
use Rattle.map.specs.declared.Op.{Op}
use Rattle.records.specs.declared.Record.{Record}
use Rattle.records.specs.Bytes.{Bytes}
use Rattle.records.specs.Kinds.{removal_kind, update_kind}
use Rattle.records.specs.Records.{record_bytes, bytes_of}
use Rattle.clockimage.specs.Image.{dot_record, dot_records}
use Rattle.opimage.specs.OpImage.{read_op, op_image, removal_head, removal_records, update_head, update_records, put_value, key_record}
use Rattle.oneimagelaws.proofs.OpsRewritten.{op-accepted}
use Rattle.promises.specs.CatchUp.{head_first, in_front, less_than_record, cut_records, operations_of}
use Rattle.promises.proofs.Cuts.{cut-nothing, cut_on, in-front-on}
use Rattle.anyorderlaws.specs.Calls.{OpImage, OpImages}

-- it loses nothing
front-joined : (b : List ℕ) (h : Bool) (ops : List (List ℕ)) → flatten (in_front b h ops) ≡ b ++ flatten ops
unfolding in_front flatten
front-joined b true ops = refl
front-joined b false [] = refl
front-joined b false (o ∷ ops) = append_assoc b o (flatten ops)

less-joined : (s : List ℕ) → flatten (less_than_record s) ≡ s
unfolding less_than_record flatten
less-joined [] = refl
less-joined (x ∷ s) = append-nil (x ∷ s)

records-joined : (n : ℕ) (s : List ℕ) → flatten (cut_records n s) ≡ s
unfolding cut_records
records-joined zero s = less-joined s
records-joined (suc n) s =
    front-joined (take 16 s) (head_first (drop 16 s)) (cut_records n (drop 16 s)) ∙ ap (λ l. take 16 s ++ l) (records-joined n (drop 16 s))
    ∙ take-append-drop 16 s

pub joined : (s : List ℕ) → flatten (operations_of s) ≡ s
unfolding operations_of
joined s = records-joined (length s / 16) s

-- a kind that begins an operation
abbrev is_head : ℕ → Bool
is_head kind = eqb kind removal_kind || eqb kind update_kind

head_of : (r : Record) (s : List ℕ) → head_first (record_bytes r ++ s) ≡ is_head r.kind
unfolding head_first
head_of r s = rw (le-leb 16 (length (record_bytes r ++ s)) (omega (arith, length-append (record_bytes r) s))) refl

-- nothing, or a head
abbrev Fresh : List ℕ → Type 0
Fresh s = (s ≡ []) ⊎ (head_first s ≡ true)

fresh-front : (b s : List ℕ) → Fresh s → in_front b (head_first s) (operations_of s) ≡ b ∷ operations_of s
unfolding in_front head_first
fresh-front b s (inl e) = rw e (rw cut-nothing refl)
fresh-front b s (inr t) = rw t refl

-- records without a head behind bytes
abbrev Plain : List Record → Type 0
Plain l = (r : Record) → r ∈ l → is_head r.kind ≡ false

plain-front : (b : List ℕ) (l : List Record) (s : List ℕ) → Plain l → Fresh s
    → in_front b (head_first (bytes_of l ++ s)) (operations_of (bytes_of l ++ s)) ≡ (b ++ bytes_of l) ∷ operations_of s
unfolding bytes_of
plain-front b [] s p f = fresh-front b s f ∙ ap (λ c. c ∷ operations_of s) (sym (append-nil b))
plain-front b (r ∷ l) s p f =
    let t = bytes_of l ++ s in
    let e : (record_bytes r ++ bytes_of l) ++ s ≡ record_bytes r ++ t = append_assoc (record_bytes r) (bytes_of l) s in
    let long : 16 ≤ length (record_bytes r ++ t) = omega (arith, length-append (record_bytes r) t) in
    ap (λ u. in_front b (head_first u) (operations_of u)) e
    ∙ ap (λ h. in_front b h (operations_of (record_bytes r ++ t))) (head_of r t ∙ p r (Memᴰ.head refl))
    ∙ ap (in_front b false) (cut_on (record_bytes r ++ t) long ∙ rw (take_at (record_bytes r) t 16 refl, drop_at (record_bytes r) t 16 refl) refl)
    ∙ in-front-on b (record_bytes r) (head_first t) (operations_of t)
    ∙ plain-front (b ++ record_bytes r) l s (λ q i. p q (Memᴰ.tail i)) f
    ∙ ap (λ c. c ∷ operations_of s) (append_assoc b (record_bytes r) (bytes_of l))

-- a head and such records are one operation
one-front : (r : Record) (l : List Record) (s : List ℕ) → Plain l → Fresh s
    → operations_of (bytes_of (r ∷ l) ++ s) ≡ bytes_of (r ∷ l) ∷ operations_of s
unfolding bytes_of
one-front r l s p f =
    let t = bytes_of l ++ s in
    let long : 16 ≤ length (record_bytes r ++ t) = omega (arith, length-append (record_bytes r) t) in
    ap operations_of (append_assoc (record_bytes r) (bytes_of l) s)
    ∙ cut_on (record_bytes r ++ t) long ∙ rw (take_at (record_bytes r) t 16 refl, drop_at (record_bytes r) t 16 refl) refl
    ∙ plain-front (record_bytes r) l s p f

-- the records of an operation
dots-plain : (kind : ℕ) (l : List Dot) → is_head kind ≡ false → Plain (dot_records kind 0 0 l)
dots-plain kind l h r i = let y = Memᴰ.of_map (dot_record kind 0 0) l i in rw (← y.2) h

removal-plain : (op : Op) → Plain (dot_records 8 0 0 (under_of op.removal) ++ map (key_record 9 0) (listed_in op.removal))
removal-plain op r i = ⊎_elim (λ j. dots-plain 8 (under_of op.removal) refl r j)
    (λ j. let y = Memᴰ.of_map (key_record 9 0) (listed_in op.removal) j in rw (← y.2) refl)
    (Memᴰ.append_cases (dot_records 8 0 0 (under_of op.removal)) i)

update-plain : (op : Op) → Plain (put_value op.update ∷ dot_records 12 0 0 (dots_of op.update.put.clock))
update-plain op r i = ⊎_elim (λ (e : r ≡ put_value op.update). rw e refl) (λ j. dots-plain 12 (dots_of op.update.put.clock) refl r j)
    (Memᴰ.cases_cons i)

head-front : (r : Record) (l : List Record) (s : List ℕ) → head_first (bytes_of (r ∷ l) ++ s) ≡ is_head r.kind
unfolding bytes_of
head-front r l s = ap head_first (append_assoc (record_bytes r) (bytes_of l) s) ∙ head_of r (bytes_of l ++ s)

abbrev Front : List ℕ → List ℕ → Type 0
Front o s = (operations_of (o ++ s) ≡ o ∷ operations_of s) × (head_first (o ++ s) ≡ true)

update-front : (op : Op) (s : List ℕ) → Fresh s → Front (bytes_of (update_records op.update)) s
update-front op s f =
    let l = put_value op.update ∷ dot_records 12 0 0 (dots_of op.update.put.clock) in
    (one-front (update_head op.update) l s (update-plain op) f, head-front (update_head op.update) l s)

removal-front : (op : Op) (s : List ℕ) → Fresh s → Front (bytes_of (removal_records op.removal)) s
removal-front op s f =
    let l = dot_records 8 0 0 (under_of op.removal) ++ map (key_record 9 0) (listed_in op.removal) in
    (one-front removal_head l s (removal-plain op) f, head-front removal_head l s)

image-front : (op : Op) (s : List ℕ) → Fresh s → Front (op_image op) s
image-front op s f = by_kind op.up
  where
    by_kind : (b : Bool) → Front (bytes_of (cond b (update_records op.update) (removal_records op.removal))) s
    by_kind true = update-front op s f
    by_kind false = removal-front op s f

op-front : {o : List ℕ} (s : List ℕ) → OpImage o → Fresh s → Front o s
op-front {o} s i f = rw (op-accepted o i.bytes i.accepted) at (image-front (read_op o).op s f)

-- joined operations are cut where they were joined
ops-front : (ops : List (List ℕ)) (s : List ℕ) → OpImages ops → Fresh s
    → (operations_of (flatten ops ++ s) ≡ ops ++ operations_of s) × Fresh (flatten ops ++ s)
unfolding flatten
ops-front [] s f h = (refl, h)
ops-front (o ∷ ops) s f h =
    let r = ops-front ops s (λ q i. f q (Memᴰ.tail i)) h in
    let p = op-front (flatten ops ++ s) (f o (Memᴰ.head refl)) r.1 in
    let e = append_assoc o (flatten ops) s in
    (ap operations_of e ∙ p.0 ∙ ap (λ l. o ∷ l) r.0, inr (ap head_first e ∙ p.1))

pub cut-joined : (ops : List (List ℕ)) → OpImages ops → operations_of (flatten ops) ≡ ops
cut-joined ops f =
    ap operations_of (sym (append-nil (flatten ops))) ∙ (ops-front ops [] f (inl refl)).0 ∙ ap (λ l. ops ++ l) cut-nothing ∙ append-nil ops

-- two lists behind each other
pub cut-both : (l m : List ℕ) → OpImages (operations_of l) → OpImages (operations_of m) → operations_of (l ++ m) ≡ operations_of l ++ operations_of m
cut-both l m f g =
    let fresh = rw (append-nil (flatten (operations_of m)), joined m) at (ops-front (operations_of m) [] g (inl refl)).1 in
    ap (λ k. operations_of (k ++ m)) (sym (joined l)) ∙ (ops-front (operations_of l) m f fresh).0

-- the bytes of a list are those of its operations
bytes_left : (o s : List ℕ) → Bytes (o ++ s) → Bytes o
bytes_left o s b i = decide (ltb i (length o)) (λ t. rw (← get_or-append o s 0 i (borrow.Author.Tests.ltb-true _ _ t)) (b i))
    (λ f. rw (get_or-eq_default o 0 (borrow.Author.Tests.ltb-false _ _ f)) (omega arith))

bytes-right : (o s : List ℕ) → Bytes (o ++ s) → Bytes s
bytes-right o s b i = rw (← get_or-append-add o s i 0) (b (length o + i))

parts-bytes : (ops : List (List ℕ)) → Bytes (flatten ops) → (o : List ℕ) → o ∈ ops → Bytes o
unfolding flatten
parts-bytes [] b o i = absurd (mathlib.Core.List.Memᴰ.not-nil i)
parts-bytes (p ∷ ops) b o i = ⊎_elim (λ (e : o ≡ p). rw e (bytes_left p (flatten ops) b)) (λ j. parts-bytes ops (bytes-right p (flatten ops) b) o j)
    (Memᴰ.cases_cons i)

pub operations-bytes : (s : List ℕ) → Bytes s → (o : List ℕ) → o ∈ operations_of s → Bytes o
operations-bytes s b = parts-bytes (operations_of s) (rw (joined s) b)
