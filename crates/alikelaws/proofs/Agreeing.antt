-- T2 over the calls: drives that were fed the same operations by the guard agree.
use mathlib.Core.Path.{◌≡◌, refl, ap, ap₂, sym, ◌∙◌}
use mathlib.Core.Bool.{false}
use mathlib.Core.List.Memᴰ
use mathlib.Core.List.{List, [], map}
use Prim.Native.Nat.{ℕ, ◌≤◌}
use native.Mathlib.Omega.{arith}
use lib.ListN.{length}
use Rattle.listlaws.specs.Pad.{pad}
use Rattle.listlaws.specs.Sift.{sift}
use Rattle.listlaws.specs.Fold.{fold}
use Rattle.listlaws.specs.Order.{◌∈◌}
use Rattle.listlaws.proofs.Orders.{apart}
use Rattle.listlaws.proofs.Ranks.{no-longer-by}
use Rattle.clock.specs.Dots.{is_empty}
use Rattle.clock.proofs.Within.{nil-empty}
use Rattle.entries.specs.declared.Entry.{Entry}
use Rattle.entries.specs.Model.{dots_in}
use Rattle.entries.specs.Entries.{entry_at}
use Rattle.entries.proofs.Packs.{dots-in}
use Rattle.entries.proofs.Puts.{at_every}
use Rattle.map.specs.declared.Map.{Map}
use Rattle.map.specs.declared.Op.{Op}
use Rattle.map.specs.Model.{entries_in, no_map}
use Rattle.map.specs.Valid.{Valid}
use Rattle.asking.specs.Asking.{count}
use Rattle.records.specs.Records.{records_from}
use Rattle.scan.specs.Each.{every, each_after}
use Rattle.scan.specs.Formed.{well_formed}
use Rattle.scan.specs.Limits.{within}
use Rattle.scan.specs.Numbers.{scan_number}
use Rattle.maprecords.specs.Reading.{entry_keys, waiting_count, numbers_below}
use Rattle.maprecords.specs.Related.{ascend, related, read_map}
use Rattle.acceptancelaws.proofs.Maps.{map-within}
use Rattle.answers.specs.Answer.{Answer, Answered, word_of, carried_of}
use Rattle.answers.proofs.Answers.{Same, same_answer}
use Rattle.loader.specs.Reports.{report_at, report_bytes}
use Rattle.loader.specs.Calls.{bay_count, bay_number}
use Rattle.promises.specs.Calls.{bare_answer}
use Rattle.readiness.specs.Ready.{ready}
use Rattle.anyorderlaws.specs.Calls.{image_after, Called, MapImage, OpImages}
use Rattle.anyorderlaws.specs.Calls
use Rattle.anyorderlaws.proofs.Images.{ImageOf, reads, start, done-means, image-next, image-accepted}
use Rattle.anyorderlaws.proofs.Leaves.{answers-zero, first-bytes, once-done, called-passed}
use Rattle.maplaws.specs.Among.{Exactly}
use Rattle.alikelaws.specs.Honest.{Honest}
use Rattle.alikelaws.specs.Picture.{at_key}
use Rattle.alikelaws.specs.Settings.{SameSettings}
use Rattle.alikelaws.specs.Runs.{op_of, ops_of}
use Rattle.alikelaws.specs.Agreement.{Fed, stop, call, Agree}
use Rattle.alikelaws.specs.OnMaps.{applied, Guarded, none, more}
use Rattle.alikelaws.proofs.Guards.{let_through}
use Rattle.alikelaws.proofs.Entered.{at-member}
use Rattle.alikelaws.proofs.Calls.{called-map, valid-ops, ends_as}
use Rattle.alikelaws.proofs.Converging.{converge, converge-reports}
use Rattle.alikelaws.proofs.Reports.{reports-same}

-- calls that the guard let through are calls
fed-called : {s last : List ℕ} {ops : List (List ℕ)} → Fed s ops last → Called s ops last
fed-called stop = Calls.stop
fed-called (call t g r n w c) = Calls.call r n w (fed-called c)

-- and a run of the rules that it lets through
fed-guarded : {s last : List ℕ} {m : Map} {ops : List (List ℕ)} → ImageOf s m → OpImages ops → Fed s ops last → Guarded m (ops_of ops)
unfolding image_after
fed-guarded r f stop = none
fed-guarded {m = m} r f (call {s = s} {o = o} {entry = entry} t g p n w c) =
    let i = f o (Memᴰ.head refl) in
    let same : (read_map s).map ≡ m = ap (λ q. q.map) (reads r) in
    let d = once-done s o entry (omega (arith, n)) (answers-zero p w) in
    more (rw same at (let_through (ready (read_map s).map (op_of o)) (ap (λ q. q.number) (reads r)) i.accepted t g))
    (fed-guarded (rw (first-bytes p w) (image-next r i (done-means r i d))) (λ q j. f q (Memᴰ.tail j)) c)

pub fed-image : {s last : List ℕ} {ops : List (List ℕ)} → MapImage s → OpImages ops → Fed s ops last → MapImage last
fed-image {ops = ops} h f c = let t = called-passed (fed-called c) in rw t.1 (image-accepted (ends_as ops (start h) f t.0))

-- a key with dots has an entry
found : (k : ℕ) (l : List Entry) → is_empty (dots_in (entry_at k l)) ≡ false → (e : Entry) × (e ∈ l) × (k ≡ e.key)
found k l =
    at_every (λ x. is_empty (dots_in x) ≡ false → (e : Entry) × (e ∈ l) × (k ≡ e.key)) k l (λ e i q n. (e, i, sym q))
    (λ n. apart (sym nil-empty ∙ ap is_empty (sym (dots-in k [] [])) ∙ n))

fewer : {m n : Map} → Valid m → Valid n → ((k : ℕ) → dots_in (at_key m k) ≡ dots_in (at_key n k)) → length (entries_in m) ≤ length (entries_in n)
fewer {m} {n} v w f =
    no-longer-by (λ e. e.key) v.entries.rising w.entries.rising
    (λ e i. found e.key (entries_in n)
    (ap is_empty (sym (f e.key) ∙ ap (λ x. dots_in x) (at-member v.entries.rising e.key e i refl)) ∙ (v.entries.each e i).some))

same_count : {m n : Map} → Valid m → Valid n → SameSettings m n → count m ≡ count n
unfolding count
same_count v w s = omega (arith, fewer v w s.entries, fewer w v (λ k. sym (s.entries k)))

-- the empty image is that of the empty map
pub empty-reads : read_map [] ≡ record { number = 0; map = no_map }
unfolding read_map records_from scan_number well_formed within each_after related every sift fold entry_keys waiting_count numbers_below ascend pad
empty-reads = refl

pub empty-image : MapImage []
empty-image = record { bytes = λ i. omega arith; accepted = ap (λ q. q.number) empty-reads }

-- operations of images
pub same-ops : (x y : List (List ℕ)) → ((o : List ℕ) → o ∈ x → o ∈ y) → (o : Op) → o ∈ ops_of x → o ∈ ops_of y
same-ops x y g o i = let r = Memᴰ.of_map op_of x i in Memᴰ.cast (sym r.2) (Memᴰ.map op_of (g r.0 r.1))

-- calls from the empty image: a run by the guard, which ends in what the last image reads as
pub fed-run : {ops : List (List ℕ)} {last : List ℕ} → OpImages ops → Fed [] ops last → Guarded no_map (ops_of ops)
fed-run f c = rw (ap (λ q. q.map) empty-reads) at (fed-guarded (start empty-image) f c)

pub fed-map : {ops : List (List ℕ)} {last : List ℕ} → OpImages ops → Fed [] ops last → (read_map last).map ≡ applied no_map (ops_of ops)
fed-map {ops} f c = called-map empty-image f (fed-called c) ∙ ap (λ m. applied m.map (ops_of ops)) empty-reads

-- T2
module _ {h : List (List ℕ)} (images : OpImages h) (honest : Honest (ops_of h)) {ops others : List (List ℕ)} (f : (o : List ℕ) → o ∈ ops → o ∈ h)
    (e : (o : List ℕ) → Exactly (o ∈ ops) (o ∈ others)) where
  guarded : {x : List (List ℕ)} {last : List ℕ} → ((o : List ℕ) → o ∈ x → o ∈ h) → Fed [] x last → Guarded no_map (ops_of x)
  guarded g c = fed-run (λ o i. images o (g o i)) c

  ends : {x : List (List ℕ)} {last : List ℕ} → ((o : List ℕ) → o ∈ x → o ∈ h) → Fed [] x last → (read_map last).map ≡ applied no_map (ops_of x)
  ends g c = fed-map (λ o i. images o (g o i)) c

  pub agree : {one other : List ℕ} → Fed [] ops one → Fed [] others other → Agree one other
  agree {one} {other} c d = record {
    settings = settings;
    len = λ r s p q. p ∙ ap (λ n. word_of (bare_answer n 0 0) []) numbers ∙ sym q;
    len-count = λ r s p q. p ∙ ap₂ (carried_of 0) (ap (λ n. bare_answer n 0 0) numbers)
        (same_count (map-within one).valid (map-within other).valid settings) ∙ sym q;
    bay = λ n entry x y r s p q. told (answered (λ k b. record { first = k; second = 0; own = bay_number n; bytes = report_bytes b })
        (reports n) p q);
    bays = λ entry x y r s p q. told (answered (λ k b. record { first = k; second = 0; own = 0; bytes = b })
        (reports-same (read_map one).map (read_map other).map reports 0 bay_count) p q);
  }
    where
      last_one : (read_map one).map ≡ applied no_map (ops_of ops)
      last_one = ends f c

      last-other : (read_map other).map ≡ applied no_map (ops_of others)
      last-other = ends (λ o i. f o ((e o).1 i)) d

      both : (o : Op) → Exactly (o ∈ ops_of ops) (o ∈ ops_of others)
      both o = (same-ops ops others (λ x. (e x).0) o, same-ops others ops (λ x. (e x).1) o)

      settings : SameSettings (read_map one).map (read_map other).map
      settings = rw (last_one, last-other) (converge (valid-ops h) honest (ops_of ops) (ops_of others) (same-ops ops h f) both (guarded f c)
          (guarded (λ o i. f o ((e o).1 i)) d))

      reports : (n : ℕ) → report_at (read_map one).map n ≡ report_at (read_map other).map n
      reports = rw (last_one, last-other) (converge-reports (valid-ops h) honest (ops_of ops) (ops_of others) (same-ops ops h f) both (guarded f c)
          (guarded (λ o i. f o ((e o).1 i)) d))

      accepted : {x : List (List ℕ)} {last : List ℕ} → ((o : List ℕ) → o ∈ x → o ∈ h) → Fed [] x last → (read_map last).number ≡ 0
      accepted g z = (fed-image empty-image (λ o i. images o (g o i)) z).accepted

      numbers : (read_map one).number ≡ (read_map other).number
      numbers = accepted f c ∙ sym (accepted (λ o i. f o ((e o).1 i)) d)

      answered : {B : Type 0} (make : ℕ → B → Answer) {a b : B} → a ≡ b → {entry x y : List ℕ} {r s : ℕ}
          → Answered (make (read_map one).number a) entry x r → Answered (make (read_map other).number b) entry y s → Same x y r s
      answered make q l k = same_answer (rw (numbers, q) at l) k

      told : {x y : List ℕ} {r s : ℕ} → Same x y r s → (r ≡ s) × (x ≡ y)
      told z = (z.words, z.outputs)
