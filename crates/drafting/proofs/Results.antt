-- The results of the calls as drafts.
use mathlib.Core.Path.{◌≡◌, refl, ap, sym, ◌∙◌}
use mathlib.Core.Bool.{Bool, true, false, not, cond}
use mathlib.Core.List.Memᴰ
use mathlib.Core.List.{List, [], ◌∷◌, ◌++◌, map}
use Prim.Native.Nat.{ℕ, ◌+◌, ◌*◌, ◌/◌, ◌^◌, ◌≤◌, ◌<◌}
use native.Mathlib.Omega.{arith}
use lib.Dec.{eqb}
use lib.ListN.{length, get_or, take, drop, length-append, length-map}
use lib.Seq.{drop_at}
use borrow.Author.Tests.{lt-ltb, le-leb, eqb-true, eqb-false}
use Rattle.listlaws.specs.Order.{nil}
use Rattle.listlaws.specs.Sift.{sift, those}
use Rattle.listlaws.proofs.Those.{those-all}
use Rattle.clock.specs.declared.Clock.{Clock}
use Rattle.clock.specs.declared.Dot.{Dot}
use Rattle.limits.specs.Limits.{dot_limit}
use Rattle.clock.specs.Dots.{dots_of, clock_of, is_empty, counter_in, cut_dots, join_dots, add_dot}
use Rattle.clock.proofs.Packs.{dots-of, cut-length}
use Rattle.clock.proofs.Cuts.{cut-none}
use Rattle.clock.proofs.Covers.{empty-covered}
use Rattle.entries.specs.declared.Entry.{Entry}
use Rattle.removals.specs.declared.Removal.{Removal}
use Rattle.entries.specs.declared.Update.{Update}
use Rattle.removals.specs.Model.{under_of, listed_in}
use Rattle.entries.specs.Entries.{stays, cut_entry, remove_entries, run, put_entries, merge_entries}
use Rattle.removals.specs.Valid.{ValidRemoval, ValidWaiting}
use Rattle.removals.specs.Waits.{waits, unite_all, unite_into, reset_waiting}
use Rattle.removals.proofs.Packs.{waiting-of}
use Rattle.removals.proofs.Waits.{waits-covers, waits-some}
use Rattle.removals.proofs.Uniting.{unite-nil}
use Rattle.removals.proofs.WaitingValid.{valid-one}
use Rattle.map.specs.declared.Map.{Map}
use Rattle.map.specs.Model.{seen_by, entries_in, waiting_in, map_as}
use Rattle.map.specs.Judging.{exceeding, judged}
use Rattle.map.specs.declared.Op.{Op}
use Rattle.map.specs.Applying.{apply}
use Rattle.map.specs.Merging.{merge}
use Rattle.map.specs.Removing.{remove}
use Rattle.map.specs.Resetting.{reset}
use Rattle.map.specs.Updating.{update}
use Rattle.map.specs.Valid.{Valid, RemovalWithin, UpdateWithin, OpWithin}
use Rattle.map.proofs.Kept.{seen_of, under-own, held_after, remove-laid, valid-remove, valid-update, valid-merge, valid-reset}
use Rattle.map.proofs.Small.{Small, small-over, small-rules, small-taken}
use Rattle.map.proofs.Preserved.{each-remove, each-update, each-merge, each-reset}
use Rattle.map.proofs.Removals.{update-closed, merge-closed}
use Rattle.map.proofs.Accepts.{fits-means, not-over}
use Rattle.map.proofs.Verdicts.{judged-as, small-within}
use Rattle.records.specs.Records.{records_of}
use Rattle.clockimage.specs.Image.{dot_of, dot_record, dot_records}
use Rattle.scan.specs.Numbers.{scan_number}
use Rattle.scan.proofs.Eachs.{decide}
use Rattle.mapimage.specs.MapImage.{map_longest}
use Rattle.maprecords.specs.Related.{refused_map, judged_map, read_map}
use Rattle.opimage.specs.OpImage.{ReadOp}
use Rattle.opimage.specs.OpImage.{op_longest, key_record, removal_head, removal_records, update_records, op_records, op_related, op_in, refused_op}
use Rattle.opimage.specs.OpImage.{judged_op}
use Rattle.opimage.specs.OpImage.{read_op}
use Rattle.clockimage.proofs.RoundTrip.{accepted}
use Rattle.acceptancelaws.proofs.Ops.{op-within}
use Rattle.oneimagelaws.proofs.OpsRewritten.{op-again}
use Rattle.answers.specs.Answer.{Answered}
use Rattle.answers.proofs.Answers.{refuses}
use Rattle.promises.specs.Calls.{map_answer}
use Rattle.walks.specs.declared.Span.{Span}
use Rattle.walks.specs.Walk.{part}
use Rattle.walks.proofs.Loops.{part-take, part-drop, length_part}
use Rattle.layout.specs.declared.Laid.{Laid}
use Rattle.layout.specs.Whole.{LaidOut}
use Rattle.layout.proofs.Found.{all-records}
use Rattle.layout.proofs.Waiting.{taken-dots}
use Rattle.queued.specs.Queue.{RunLies, Queued, Keyed}
use Rattle.queued.proofs.Starts.{keyed-image, keyed-none}
use Rattle.planned.specs.declared.Plan.{Plan}
use Rattle.planned.specs.Planned.{Plans}
use Rattle.sketch.specs.declared.Sketch.{Sketch}
use Rattle.sketch.specs.Drawn.{Sketches}
use Rattle.drafting.specs.Drafted.{held, Drafted}
use Rattle.drafting.proofs.Numbers.{own-number}

-- a map by its three lists
module _ {m : Map} (c : List Dot) (l : List Entry) (w : List Removal) (e : m ≡ map_as c l w) (v : Valid m) (small : Small m) where
  pub draft : {s t : List ℕ} {ours theirs : Span} {clock : Clock} {sk : Sketch} {plan : Plan} → length c ≤ dot_limit → clock ≡ clock_of c
      → Sketches s t l sk
      → (first second : List Removal) → Plans s t first second w plan → Keyed s ours.from ours.to 0 first
      → Keyed t theirs.from theirs.to 0 second
      → Drafted s t ours theirs clock sk plan c l w
  draft few k d first second p a b = record {
    seen = k;
    entries = d;
    waiting = record {
      first = first;
      second = second;
      made = p;
      in_first = a;
      in_second = b;
      valid = rw (waiting-of w) at
          (rw e at v).waiting;
      small = rw (waiting-of w) at (rw e at small).waiting;
    };
    valid = rw e at v;
    dots = small-over (rw e at v) (rw e at small) ∙ ap (exceeding dot_limit) (seen_of c l w) ∙ not-over dot_limit c few;
  }

  -- a clock that is too long
  pub long-clock : {o : List ℕ} {r : ℕ} → dot_limit < length c → r ≡ 4 * 2 ^ 32 → Answered (map_answer 0 0 (judged m)) o o r
  long-clock {o} h q =
      rw q (refuses (map_answer 0 0 (judged m)) o
      (sym (own-number (map_as c l w) o 4 (ap judged e ∙ judged-as c l w (rw e at v) (rw e at small) true _ _ _ _
      (lt-ltb _ _ h) refl refl refl refl) (λ z. omega arith))) (λ z. omega arith))

pub answered : {m n : Map} {o d : List ℕ} {r : ℕ} → m ≡ n → Answered (map_answer 0 0 (judged n)) o d r → Answered (map_answer 0 0 (judged m)) o d r
answered e a = rw e a

-- what a reset lays down
pub reset-laid : (m : Map) (c : List Dot) → reset m c ≡ map_as (cut_dots c (seen_by m)) (sift stays (cut_entry c) (entries_in m))
    (reset_waiting c (waiting_in m))
unfolding reset
reset-laid m c = refl

-- the empty clock has seen no removal that waits
pub all-wait : {w : List Removal} → ValidWaiting w → those (waits []) w ≡ w
all-wait {w} v = those-all (waits []) w (λ r i. waits-covers [] r ∙ ap not
    (sym (empty-covered [] (under_of r)) ∙ ap is_empty (cut-none (v.each r i).clock) ∙ v.some r i))

pub none-wait : ValidWaiting []
none-wait = record { rising = nil; each = λ r i. absurd (Memᴰ.not-nil i); some = λ r i. absurd (Memᴰ.not-nil i) }

-- the dots in the image of a removal, and the keys behind them
pub removal-keys : (s : List ℕ) (r : Removal) (n end : ℕ) → removal_records r ≡ records_of s → n ≡ length (under_of r) → end ≡ length s / 16
    → (1 + n ≤ end) × (part s (1 + n) end ≡ map (key_record 9 0) (listed_in r))
removal-keys s r n end q e f =
    let x = removal_head ∷ dot_records 8 0 0 (under_of r) in
    let y = map (key_record 9 0) (listed_in r) in
    let whole : part s 0 end ≡ x ++ y = all-records s end f ∙ sym q in
    let k : length x ≡ 1 + n = omega (arith, length-map (under_of r) (dot_record 8 0 0)) in
    let h : 1 + n ≤ end = omega (arith, length_part s 0 end, ap length whole, length-append x y) in
    let z : 0 + (1 + n) ≡ 1 + n = omega arith in
    (h, sym (ap (λ k. part s k end) z) ∙ sym (part-drop s (1 + n) 0 end (omega arith)) ∙ ap (drop (1 + n)) whole ∙ drop_at x y (1 + n) k)

pub removal-dots : (s : List ℕ) (r : Removal) (n end : ℕ) → removal_records r ≡ records_of s → n ≡ length (under_of r) → end ≡ length s / 16
    → map dot_of (part s 1 (1 + n)) ≡ under_of r
removal-dots s r n end q e f =
    let h = (removal-keys s r n end q e f).0 in
    let rest : part s 1 end ≡ dot_records 8 0 0 (under_of r) ++ map (key_record 9 0) (listed_in r) = sym (part-drop s 1 0 end (omega arith))
    ∙ ap (drop 1) (all-records s end f ∙ sym q) in
    ap (map dot_of) (sym (part-take s n 1 end h) ∙ ap (λ k. take k (part s 1 end)) e) ∙ taken-dots 8 0 0 (part s 1 end) (under_of r) _ rest

-- a queue of its dots
pub one-queued : (s : List ℕ) (r : Removal) (n : ℕ) (starts : List ℕ) → RemovalWithin r → removal_records r ≡ records_of s → n ≡ length (under_of r)
    → get_or starts 0 0 ≡ 1 → get_or starts 1 0 ≡ 1 + n
    → Queued s (record { starts = starts; len = 1 }) (r ∷ [])
one-queued s r n starts w q e x y = record { count = refl; few = omega arith; each = λ j h. rw (first j h, x, y) lies }
  where
    first : (j : ℕ) → j < 1 → j ≡ 0
    first j h = omega arith

    lies : RunLies s 1 (1 + n) (under_of r)
    lies =
        let k = (removal-keys s r n (length s / 16) q e refl).0 in
        record {
          order = omega arith;
          within = omega arith;
          few = omega (arith, w.dots);
          dots = removal-dots s r n
              (length s / 16) q e refl;
          lawful = w.valid.clock;
        }

-- of no removals none are left
none_left : (test : Removal → Bool) → those test [] ≡ []
unfolding sift
none_left test = refl

-- what is left of removals beside none
left_alone : (test : Removal → Bool) (w : List Removal) → unite_all (those test w) (those test []) ≡ those test w
left_alone test w = ap (unite_all (those test w)) (none_left test) ∙ unite-nil (those test w)

-- what a removal lays down
abbrev pub held_in : List Dot → List Removal → Removal → List Removal
held_in seen w r = cond (waits seen r) (unite_into w r) w

-- what it unites with, where the empty clock has seen nothing
pub held-united : {w : List Removal} {r : Removal} → ValidWaiting w → ValidRemoval r → (seen : List Dot)
    → unite_all (those (waits []) w) (those (waits []) (held seen r)) ≡ held_in seen w r
held-united {w} {r} v j seen =
    rw (all-wait v) (decide (waits seen r) (λ t. rw t (ap (unite_all w) (all-wait (valid-one j (waits-some seen r t)))))
    (λ f. rw f (ap (unite_all w) (none_left (waits [])) ∙ unite-nil w)))

pub held-valid : {r : Removal} → ValidRemoval r → (seen : List Dot) → ValidWaiting (held seen r)
held-valid {r} j seen = decide (waits seen r) (λ t. rw t (valid-one j (waits-some seen r t))) (λ f. rw f none-wait)

pub removed-laid : {m : Map} → Valid m → (r : Removal) → remove m r ≡ map_as (seen_by m) (remove_entries r (entries_in m))
    (held_in (seen_by m) (waiting_in m) r)
unfolding held_after
removed-laid v r = remove-laid (under-own v) r

-- the drafts of an image's changes
module _ {s : List ℕ} {m : Map} {a : Laid} (h : LaidOut s m a) where
  abbrev ours : Span
  ours = record { from = a.layout.sixth; to = a.layout.end }

  valid : Valid m
  valid = h.lies.within.valid

  small : Small m
  small = small-within h.lies.within

  fit : length (seen_by m) ≤ dot_limit
  fit = (fits-means m h.lies.within.limits).clock

  pub reset-draft : (by : List Dot) {clock : Clock} {sk : Sketch} {plan : Plan} → clock ≡ clock_of (cut_dots by (dots_of a.clock))
      → Sketches s s (sift stays (cut_entry by) (entries_in m)) sk
      → Plans s s (waiting_in m) [] (reset_waiting by (waiting_in m)) plan
      → Drafted s s ours (record { from = 0; to = 0 }) clock sk plan (cut_dots by (seen_by m)) (sift stays (cut_entry by) (entries_in m))
      (reset_waiting by (waiting_in m))
  reset-draft by k d p =
      draft (cut_dots by (seen_by m)) (sift stays (cut_entry by) (entries_in m)) (reset_waiting by (waiting_in m)) (reset-laid m by)
      (valid-reset valid by)
      (each-reset small-rules valid small by)
      (omega (arith, cut-length by (seen_by m), fit)) (k ∙ ap (λ x. clock_of (cut_dots by (dots_of x))) h.clock) d (waiting_in m) [] p
      (keyed-image h.lies) (keyed-none s 0 (omega arith))

  pub removed-draft : {t : List ℕ} {theirs : Span} (r : Removal) → RemovalWithin r → {none : Clock} {sk : Sketch} {plan : Plan} → none ≡ clock_of []
      → Sketches s t (remove_entries r (entries_in m)) sk
      → Plans s t (waiting_in m) (held (dots_of a.clock) r) (unite_all (those (waits (dots_of none)) (waiting_in m))
      (those (waits (dots_of none)) (held (dots_of a.clock) r))) plan
      → Keyed t theirs.from theirs.to 0 (held (dots_of a.clock) r)
      → Drafted s t ours theirs a.clock sk plan (seen_by m) (remove_entries r (entries_in m)) (held_in (seen_by m) (waiting_in m) r)
  removed-draft r j e d p k =
      draft (seen_by m) (remove_entries r (entries_in m)) (held_in (seen_by m) (waiting_in m) r) (removed-laid valid r) (valid-remove valid j.valid)
      (each-remove small-rules (under-own valid) small j.valid j.dots)
      fit (h.clock ∙ ap (λ (x : Map). x.clock) valid.laid) d (waiting_in m) (held (seen_by m) r)
      (rw (dots-of [] e, held-united valid.waiting j.valid (dots_of a.clock), h.clock) at p) (keyed-image h.lies) (rw h.clock at k)

  module _ (u : Update) (j : UpdateWithin u) (new : counter_in (seen_by m) u.dot.actor < u.dot.counter) where
    pub updated-draft : {t : List ℕ} {clock : Clock} {sk : Sketch} {plan : Plan} → length (add_dot (seen_by m) u.dot) ≤ dot_limit
        → clock ≡ clock_of (add_dot (seen_by m) u.dot)
        → Sketches s t (sift stays (run (waiting_in m)) (put_entries u (entries_in m))) sk
        → Plans s t (waiting_in m) [] (unite_all (those (waits (dots_of clock)) (waiting_in m)) (those (waits (dots_of clock)) [])) plan
        → Drafted s t ours (record { from = 0; to = 0 }) clock sk plan (add_dot (seen_by m) u.dot)
        (sift stays (run (waiting_in m)) (put_entries u (entries_in m))) (those (waits (add_dot (seen_by m) u.dot)) (waiting_in m))
    updated-draft {t} few k d p =
        draft (add_dot (seen_by m) u.dot) (sift stays (run (waiting_in m)) (put_entries u (entries_in m)))
        (those (waits (add_dot (seen_by m) u.dot)) (waiting_in m)) (update-closed u valid new)
        (valid-update valid j.valid) (each-update small-rules valid small j.valid (small-taken u j.dots))
        few k d (waiting_in m) [] (rw (dots-of (add_dot (seen_by m) u.dot) k, left_alone (waits (add_dot (seen_by m) u.dot)) (waiting_in m)) at p)
        (keyed-image h.lies) (keyed-none t 0 (omega arith))

    pub updated-long : {o : List ℕ} {r : ℕ} → dot_limit < length (add_dot (seen_by m) u.dot) → r ≡ 4 * 2 ^ 32
        → Answered (map_answer 0 0 (judged (update m u))) o o r
    updated-long x q = long-clock _ _ _ (update-closed u valid new) (valid-update valid j.valid)
        (each-update small-rules valid small j.valid (small-taken u j.dots)) x q

  module _ {t : List ℕ} {n : Map} {b : Laid} (k : LaidOut t n b) where
    abbrev theirs : Span
    theirs = record { from = b.layout.sixth; to = b.layout.end }

    abbrev joined : List Dot
    joined = join_dots (seen_by m) (seen_by n)

    abbrev mingled : List Entry
    mingled = sift stays (λ e. run (waiting_in m) (run (waiting_in n) e)) (merge_entries (seen_by m) (seen_by n) (entries_in m) (entries_in n))

    abbrev queue : List Dot → List Removal
    queue c = unite_all (those (waits c) (waiting_in m)) (those (waits c) (waiting_in n))

    yours : Valid n
    yours = k.lies.within.valid

    pub merged-laid : merge m n ≡ map_as joined mingled (queue joined)
    merged-laid = merge-closed valid yours

    pub merged-draft : {clock : Clock} {sk : Sketch} {plan : Plan} → length joined ≤ dot_limit → clock ≡ clock_of joined → Sketches s t mingled sk
        → Plans s t (waiting_in m) (waiting_in n) (queue (dots_of clock)) plan
        → Drafted s t ours theirs clock sk plan joined mingled (queue joined)
    merged-draft few c d p =
        draft joined mingled (queue joined) merged-laid (valid-merge valid yours)
        (each-merge small-rules valid yours small (small-within k.lies.within))
        few c d (waiting_in m) (waiting_in n) (rw (dots-of joined c) at p) (keyed-image h.lies) (keyed-image k.lies)

    pub merged-long : {o : List ℕ} {r : ℕ} → dot_limit < length joined → r ≡ 4 * 2 ^ 32 → Answered (map_answer 0 0 (judged (merge m n))) o o r
    merged-long x q = long-clock joined mingled (queue joined) merged-laid (valid-merge valid yours)
        (each-merge small-rules valid yours small (small-within k.lies.within)) x q

-- an image that was read is not too long
pub map-short : (s : List ℕ) → (read_map s).number ≡ 0 → length s ≤ map_longest
unfolding read_map
map-short s e = (accepted (λ r. r.number) map_longest refused_map judged_map s (λ n. refl) e).short

pub op-short : (s : List ℕ) {o : ReadOp} → o ≡ read_op s → o.number ≡ 0 → length s ≤ map_longest
unfolding read_op
op-short s k z = omega (
  arith,
  (accepted (λ r. r.number) op_longest refused_op judged_op s (λ n. refl)
      (sym (ap (λ (r : ReadOp). r.number) k) ∙ z)).short,
)

-- the records of an operation that was read
pub op-records : (s : List ℕ) → (read_op s).number ≡ 0 → op_records (read_op s).op ≡ records_of s
unfolding read_op
op-records s e =
    let a = accepted (λ r. r.number) op_longest refused_op judged_op s (λ n. refl) e in
    let l = records_of s in
    let n = ap (λ r. r.number) (sym a.same) ∙ e in
    decide (eqb (scan_number 7 12 l) 0)
    (λ t. decide (op_related l)
    (λ u. let read : (judged_op l).op ≡ op_in l = rw (t, u) in
    ap (λ r. op_records r.op) a.same ∙ ap op_records read ∙ op-again l (eqb-true (scan_number 7 12 l) 0 t) u)
    (λ f. absurd (let q = rw (t, f) at n in omega arith)))
    (λ f. let q = rw f at n in absurd (eqb-false (scan_number 7 12 l) 0 f q))

-- what an operation that was read is
module _ (s : List ℕ) {o : ReadOp} (k : o ≡ read_op s) (z : o.number ≡ 0) where
  same-records : op_records o.op ≡ records_of s
  same-records = ap (λ (r : ReadOp). op_records r.op) k ∙ op-records s (sym (ap (λ (r : ReadOp). r.number) k) ∙ z)

  within-op : OpWithin o.op
  within-op = rw k (op-within s)

  pub read-update : o.op.up ≡ true → UpdateWithin o.op.update × (update_records o.op.update ≡ records_of s)
  read-update t = (within-op.update t, ap (λ b. cond b (update_records o.op.update) (removal_records o.op.removal)) (sym t) ∙ same-records)

  pub read-removal : o.op.up ≡ false → RemovalWithin o.op.removal × (removal_records o.op.removal ≡ records_of s)
  read-removal t = (within-op.removal, ap (λ b. cond b (update_records o.op.update) (removal_records o.op.removal)) (sym t) ∙ same-records)

module _ (m : Map) (op : Op) where
  pub applied-update : op.up ≡ true → apply m op ≡ update m op.update
  unfolding apply
  applied-update t = rw t

  pub applied-removal : op.up ≡ false → apply m op ≡ remove m op.removal
  unfolding apply
  applied-removal t = rw t

-- an update that was seen changes nothing
pub update-seen : (m : Map) (u : Update) → u.dot.counter ≤ counter_in (seen_by m) u.dot.actor → update m u ≡ m
unfolding update
update-seen m u h = rw (le-leb u.dot.counter (counter_in (seen_by m) u.dot.actor) h)
