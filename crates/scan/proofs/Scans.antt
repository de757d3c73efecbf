-- A scan with one record more: the machine's tests against the last record decide what the definitions say of all records before.
use mathlib.Core.Path.{◌≡◌, refl, ap, sym, ◌∙◌}
use mathlib.Core.Bool.{Bool, true, false, not, ◌&&◌, ◌||◌, and-false, and-true}
use mathlib.Core.Logic.{◌⊎◌, inl, inr, ⊎_elim}
use mathlib.Core.List.{List, [], ◌∷◌, ◌++◌}
use Prim.Native.Nat.{ℕ, ◌≤◌}
use native.Mathlib.Omega.{arith}
use lib.Dec.{eqb}
use borrow.Author.Tests.{eq-eqb, ne_eqb, eqb-true}
use Rattle.listlaws.specs.Order.{◌∈◌}
use Rattle.listlaws.specs.First.{some}
use Rattle.listlaws.proofs.Orders.{apart}
use Rattle.listlaws.proofs.Somes.{some_holds, false-some}
use Rattle.records.specs.declared.Record.{Record}
use Rattle.records.specs.Kinds.{actor_of, before, record_ok}
use Rattle.scan.specs.Each.{every}
use Rattle.scan.specs.Formed.{follows, well_formed}
use Rattle.scan.specs.Limits.{outer, middle, inner, same_kind, same_outer, same_middle, tally, within, room}
use Rattle.scan.specs.Scanned.{tally_on, Ends}
use Rattle.scan.proofs.Eachs.{both_left, both_right, both, decide, each_snoc, every-snoc, every-at, every_of}
use Rattle.scan.proofs.Befores.{Before, before-fields, fields-before, before-trans}
use Rattle.scan.proofs.Tallies.{tally-step}

pub formed-snoc : (low high : ℕ) (l : List Record) (r : Record) → well_formed low high (l ++ (r ∷ [])) ≡ well_formed low high l
    && follows low high l r
unfolding well_formed
formed-snoc low high l r = each_snoc (follows low high) l r

pub within-snoc : (l : List Record) (r : Record) → within (l ++ (r ∷ [])) ≡ within l && room l r
unfolding within
within-snoc l r = each_snoc room l r

-- behind the last is behind all
pub follows-last : (low high : ℕ) (l : List Record) (any : Bool) (q r : Record) → well_formed low high l ≡ true → Ends l any q
    → (record_ok low high r && (not any || before q r)) ≡ follows low high l r
unfolding every
follows-last low high l any q r w (inl e) = rw (e.0, e.1)
follows-last low high l any q r w (inr e) = rw (e.0, e.1.1) (ap (λ b. record_ok low high r && b) (go (before q r) refl))
  where
    pre : List Record
    pre = e.1.0

    formed : follows low high pre q ≡ true
    formed = both_right (well_formed low high pre) (follows low high pre q)
        (sym (formed-snoc low high pre q) ∙ ap (well_formed low high) (sym e.1.1) ∙ w)

    before-q : (s : Record) → s ∈ pre → before s q ≡ true
    before-q s i = every-at (λ s. before s q) pre s (both_right (record_ok low high q) (every (λ s. before s q) pre) formed) i

    go : (b : Bool) → before q r ≡ b → before q r ≡ every (λ s. before s r) (pre ++ (q ∷ []))
    go true t =
        rw (every-snoc (λ s. before s r) pre q, t)
        (sym (and-true (every (λ s. before s r) pre) ∙ every_of (λ s. before s r) pre
        (λ s i. fields-before (before-trans (before-fields (before-q s i)) (before-fields t)))))
    go false t = rw (every-snoc (λ s. before s r) pre q, t) (sym (and-false (every (λ s. before s r) pre)))

-- the fields that a level goes by, where the kind is none of waiting keys
pub outer-key : (s : Record) → (s.kind ≡ 6 → ⊥) → outer s ≡ s.key
outer-key s n = rw (ne_eqb s.kind 6 n)

pub middle-index : (s : Record) → (s.kind ≡ 6 → ⊥) → middle s ≡ s.index
middle-index s n = rw (ne_eqb s.kind 6 n)

-- records of one kind, key and index, where the kind is none of waiting keys
pub record Alike (r s : Record) : Type 0 where
  pub kind : s.kind ≡ r.kind
  pub key : s.key ≡ r.key

pub alike : (r s : Record) → (r.kind ≡ 6 → ⊥) → same_outer r s ≡ true → Alike r s
alike r s plain t =
    let k = eqb-true s.kind r.kind (both_left (same_kind r s) (eqb (outer s) (outer r)) t) in
    let y = eqb-true (outer s) (outer r) (both_right (same_kind r s) (eqb (outer s) (outer r)) t) in
    record { kind = k; key = sym (outer-key s (λ e. plain (sym k ∙ e))) ∙ y ∙ outer-key r plain }

pub alike-outer : (r s : Record) → (r.kind ≡ 6 → ⊥) → s.kind ≡ r.kind → s.key ≡ r.key → same_outer r s ≡ true
alike-outer r s plain k y =
    both (same_kind r s) (eqb (outer s) (outer r)) (eq-eqb s.kind r.kind k)
    (eq-eqb (outer s) (outer r) (outer-key s (λ e. plain (sym k ∙ e)) ∙ y ∙ sym (outer-key r plain)))

pub alike-index : (r s : Record) → (r.kind ≡ 6 → ⊥) → same_middle r s ≡ true → s.index ≡ r.index
alike-index r s plain t =
    let h = alike r s plain (both_left (same_outer r s) (eqb (middle s) (middle r)) t) in
    sym (middle-index s (λ e. plain (sym h.kind ∙ e))) ∙ eqb-true (middle s) (middle r) (both_right (same_outer r s) (eqb (middle s) (middle r)) t)
    ∙ middle-index r plain

pub alike-middle : (r s : Record) → (r.kind ≡ 6 → ⊥) → s.kind ≡ r.kind → s.key ≡ r.key → s.index ≡ r.index → same_middle r s ≡ true
alike-middle r s plain k y x =
    both (same_outer r s) (eqb (middle s) (middle r)) (alike-outer r s plain k y)
    (eq-eqb (middle s) (middle r) (middle-index s (λ e. plain (sym k ∙ e)) ∙ x ∙ sym (middle-index r plain)))

-- q is the last of l, and r goes behind it
module _ (l : List Record) (q r : Record) (last : q ∈ l) (upto : (s : Record) → s ∈ l → (s ≡ q) ⊎ Before s q) (behind : Before q r) where
  record AtMost (s : Record) : Type 0 where
    pub kind : s.kind ≤ q.kind
    pub key : s.kind ≡ q.kind → s.key ≤ q.key
    pub index : s.kind ≡ q.kind → s.key ≡ q.key → s.index ≤ q.index

  at_most : (s : Record) → s ∈ l → AtMost s
  at_most s i =
      ⊎_elim
      (λ (e : s ≡ q). record { kind = rw e (omega arith); key = λ k. rw e (omega arith); index = λ k y. rw e (omega arith) })
      (λ (b : Before s q). record { kind = b.kind; key = b.key; index = b.index })
      (upto s i)

  -- what the last shares with r, where any record does
  kind-between : (s : Record) → s ∈ l → s.kind ≡ r.kind → q.kind ≡ r.kind
  kind-between s i k = let m = at_most s i in omega (arith, m.kind, behind.kind)

  key-between : (s : Record) → s ∈ l → s.kind ≡ r.kind → s.key ≡ r.key → q.key ≡ r.key
  key-between s i k y =
      let m = at_most s i in
      let kq = kind-between s i k in
      omega (arith, m.key (k ∙ sym kq), behind.key kq)

  index-between : (s : Record) → s ∈ l → s.kind ≡ r.kind → s.key ≡ r.key → s.index ≡ r.index → q.index ≡ r.index
  index-between s i k y x =
      let m = at_most s i in
      let kq = kind-between s i k in
      let yq = key-between s i k y in
      omega (arith, m.index (k ∙ sym kq) (y ∙ sym yq), behind.index kq yq)

  -- a test that the last passes where any record does
  none-by-last : (t : Record → Bool) → ((s : Record) → s ∈ l → t s ≡ true → t q ≡ true) → t q ≡ false → (s : Record) → s ∈ l → t s ≡ false
  none-by-last t between n s i = decide (t s) (λ y. apart (sym (between s i y) ∙ n)) (λ z. z)

  pub some-by-last : (t : Record → Bool) → ((s : Record) → s ∈ l → t s ≡ true → t q ≡ true) → some t l ≡ t q
  some-by-last t between =
      decide (t q) (λ y. some_holds t last y ∙ sym y) (λ n. false-some t l (none-by-last t between n) ∙ sym n)

  same_kind_lem : (s : Record) → s ∈ l → same_kind r s ≡ true → same_kind r q ≡ true
  same_kind_lem s i t = eq-eqb q.kind r.kind (kind-between s i (eqb-true s.kind r.kind t))

  module _ (plain : r.kind ≡ 6 → ⊥) where
    pub same-outer : (s : Record) → s ∈ l → same_outer r s ≡ true → same_outer r q ≡ true
    same-outer s i t =
        let h = alike r s plain t in alike-outer r q plain (kind-between s i h.kind) (key-between s i h.kind h.key)

    same-middle : (s : Record) → s ∈ l → same_middle r s ≡ true → same_middle r q ≡ true
    same-middle s i t =
        let o = both_left (same_outer r s) (eqb (middle s) (middle r)) t in
        let h = alike r s plain o in
        let kq = kind-between s i h.kind in
        alike-middle r q plain kq (key-between s i h.kind h.key) (index-between s i h.kind h.key (alike-index r s plain t))

    -- no record before r shares its actor too
    apart-inner : (s : Record) → s ∈ l → Before s r → (same_middle r s && eqb (inner s) (inner r)) ≡ false
    apart-inner s i b =
        decide (same_middle r s)
        (λ t. let h = alike r s plain (both_left (same_outer r s) (eqb (middle s) (middle r)) t) in
        rw t (ne_eqb (actor_of s) (actor_of r) (λ e. omega (arith, b.actor h.kind h.key (alike-index r s plain t)))))
        (λ n. rw n)

  module _ (n : ℕ) where
    pub outer-on : (same : Bool) → n ≡ tally (same_kind q) outer l → some (same_outer r) l ≡ same
        → tally_on n (same_kind r q) same ≡ tally (same_kind r) outer (l ++ (r ∷ []))
    outer-on same e f =
        tally-step (same_kind r) outer l r n (same_kind r q) same (eq-eqb r.kind r.kind refl) (none-by-last (same_kind r) same_kind_lem)
        (λ t. (e ∙ ap (λ k. tally (λ s. eqb s.kind k) outer l) (eqb-true q.kind r.kind t), f))

    module _ (plain : r.kind ≡ 6 → ⊥) where
      same_here : same_outer r r ≡ true
      same_here = both (same_kind r r) (eqb (outer r) (outer r)) (eq-eqb r.kind r.kind refl) (eq-eqb (outer r) (outer r) refl)

      pub middle-on : n ≡ tally (same_outer q) middle l → tally_on n (same_outer r q) (same_middle r q) ≡ tally (same_outer r) middle (l ++ (r ∷ []))
      middle-on e =
          tally-step (same_outer r) middle l r n (same_outer r q) (same_middle r q) same_here (none-by-last (same_outer r) (same-outer plain))
          (λ t. let k = eqb-true q.kind r.kind (both_left (same_kind r q) (eqb (outer q) (outer r)) t) in
          let o = eqb-true (outer q) (outer r) (both_right (same_kind r q) (eqb (outer q) (outer r)) t) in (
            e ∙ ap (λ k. tally (λ s. eqb s.kind k && eqb (outer s) (outer q)) middle l) k
                ∙ ap (λ o. tally (λ s. eqb s.kind r.kind && eqb (outer s) o) middle l) o,
            some-by-last (same_middle r) (same-middle plain),
          ))

      pub inner-on : ((s : Record) → s ∈ l → Before s r) → n ≡ tally (same_middle q) inner l
          → tally_on n (same_middle r q) false ≡ tally (same_middle r) inner (l ++ (r ∷ []))
      inner-on b e =
          tally-step (same_middle r) inner l r n (same_middle r q) false
          (both (same_outer r r) (eqb (middle r) (middle r)) same_here (eq-eqb (middle r) (middle r) refl))
          (none-by-last (same_middle r) (same-middle plain))
          (λ t. let u = both_left (same_outer r q) (eqb (middle q) (middle r)) t in
          let k = eqb-true q.kind r.kind (both_left (same_kind r q) (eqb (outer q) (outer r)) u) in
          let o = eqb-true (outer q) (outer r) (both_right (same_kind r q) (eqb (outer q) (outer r)) u) in
          let m = eqb-true (middle q) (middle r) (both_right (same_outer r q) (eqb (middle q) (middle r)) t) in (
            e ∙ ap (λ k. tally (λ s. eqb s.kind k && eqb (outer s) (outer q) && eqb (middle s) (middle q)) inner l) k
                ∙ ap (λ o. tally (λ s. eqb s.kind r.kind && eqb (outer s) o && eqb (middle s) (middle q)) inner l) o
                ∙ ap (λ m. tally (λ s. eqb s.kind r.kind && eqb (outer s) (outer r) && eqb (middle s) m) inner l) m,
            false-some (λ s. same_middle r s && eqb (inner s) (inner r)) l (λ s i. apart-inner plain s i (b s i)),
          ))

-- the machine's tests of the last record, where the kind is none of waiting keys
pub last-outer : (q r : Record) → (r.kind ≡ 6 → ⊥) → (eqb q.kind r.kind && eqb q.key r.key) ≡ same_outer r q
last-outer q r plain =
    decide (eqb q.kind r.kind)
    (λ t. rw (outer-key q (λ e. plain (sym (eqb-true q.kind r.kind t) ∙ e)), outer-key r plain))
    (λ n. rw n)

pub last-middle : (q r : Record) → (r.kind ≡ 6 → ⊥) → (eqb q.kind r.kind && eqb q.key r.key && eqb q.index r.index)
    ≡ same_middle r q
last-middle q r plain =
    decide (eqb q.kind r.kind)
    (λ t. rw (
      outer-key q (λ e. plain (sym (eqb-true q.kind r.kind t) ∙ e)),
      outer-key r plain,
      middle-index q (λ e. plain (sym (eqb-true q.kind r.kind t) ∙ e)),
      middle-index r plain,
    ))
    (λ n. rw n)
