-- E5 is within T2: its operations are made as T2b asks, both drives are fed them by the guard, and so they agree, though their images differ.
use mathlib.Core.Path.{◌≡◌, refl, ap, ap₂, sym, ◌∙◌}
use mathlib.Core.Logic.{◌⊎◌, inl, inr, ⊎_elim}
use mathlib.Core.List.Memᴰ
use mathlib.Core.List.{List, [], ◌∷◌, map}
use Prim.Native.Nat.{ℕ, ◌^◌, ◌≤◌, ◌<◌}
use native.Mathlib.Omega.{arith}
use lib.ListN.{length, take, get_or, replicate, length-replicate}
use Rattle.listlaws.specs.Pad.{pad}
use Rattle.listlaws.specs.Sift.{sift}
use Rattle.listlaws.specs.First.{first_in}
use Rattle.listlaws.specs.Fold.{fold}
use Rattle.listlaws.specs.Weave.{weave}
use Rattle.listlaws.specs.Order.{◌∈◌}
use Rattle.clock.specs.Dots.{is_empty, counter_in, covers, order_of, cut_dots, join_dots, add_dot}
use Rattle.clock.proofs.Examples.{one}
use Rattle.register.specs.Values.{no_value, yields, outdone, remaining, put_values, cut_values}
use Rattle.entries.specs.declared.Update.{Update}
use Rattle.entries.specs.Model.{no_entry}
use Rattle.entries.specs.Entries.{cut_entry, remove_from, remove_entries, put_entry, entry_at, put_entries}
use Rattle.removals.specs.Waits.{listed, waits, clock_before, union_keys, unite_all}
use Rattle.map.specs.declared.Map.{Map}
use Rattle.map.specs.declared.Op.{Op}
use Rattle.map.specs.Model.{no_map}
use Rattle.map.specs.Removing.{remove, afresh}
use Rattle.map.specs.Updating.{update}
use Rattle.map.specs.Applying.{apply}
use Rattle.map.specs.Judging.{over_dots, over_entries, over_values, over_waiting, over_keys, over_number}
use Rattle.readiness.specs.declared.Readiness.{Readiness}
use Rattle.readiness.specs.declared.Readiness.TheVariants.{Next, Seen}
use Rattle.readiness.specs.Ready.{first_lacking, ready_under, ready, ready_number}
use Rattle.opimage.specs.OpImage.{ReadOp}
use Rattle.opimage.specs.OpImage.{op_longest, refused_op, judged_op, read_op, op_image}
use Rattle.clockimage.proofs.RoundTrip.{accepted}
use Rattle.mapimage.specs.MapImage.{map_longest}
use Rattle.maprecords.specs.Related.{ReadMap}
use Rattle.maprecords.specs.Related.{read_map}
use Rattle.answers.specs.Answer.{Answer, first_of, number_of, word_of, out_of, Answered}
use Rattle.answers.proofs.Answers.{number-done}
use Rattle.oneimagelaws.specs.One.{GoodOp}
use Rattle.oneimagelaws.proofs.Sizes.{image-most}
use Rattle.oneimagelaws.proofs.Ops.{one-op-image}
use Rattle.promises.specs.Calls.{bare_answer, apply_answer, update_answer, rm_read_ctx_answer}
use Rattle.promises.specs.Ready.{ready_answer}
use Rattle.anyorderlaws.specs.Calls.{image_after, end}
use Rattle.anyorderlaws.proofs.Images.{ImageOf, reads}
use Rattle.anyorderlaws.proofs.Leaves.{first-bytes}
use Rattle.alikelaws.specs.Among.{UpdateIn}
use Rattle.alikelaws.specs.Runs.{ops_of}
use Rattle.alikelaws.specs.Agreement.{LetsThrough, Fed, stop, call, Agree}
use Rattle.alikelaws.specs.MadeCalls.{Drive, MadeCalls, nothing, updated, removed}
use Rattle.alikelaws.specs.OnMaps.{applied, Guarded, none, more}
use Rattle.alikelaws.proofs.EndingAlike.{ending-alike}
use Rattle.alikelaws.proofs.Played
use Rattle.alikelaws.proofs.Played.{after, writes, Plays, op-reads, played-done, played-next, empty_of, reads-after}
use Rattle.alikelaws.proofs.Examples.{ten, forty, without, goods, counterexamples}

-- a call that answers 0, of an output that is long enough
word_small : (a : Answer) (entry : List ℕ) → number_of a entry ≡ 0 → length a.bytes < 2 ^ 32 → word_of a entry < 2 ^ 32
unfolding word_of
word_small a entry k n = rw k (omega (arith, n))

lets : (x : Readiness) → (x ≡ Next) ⊎ (x ≡ Seen) → LetsThrough (word_of (bare_answer 0 0 (ready_number x)) [])
unfolding word_of number_of first_of
lets x (inl e) = inl (ap (λ y. word_of (bare_answer 0 0 (ready_number y)) []) e)
lets x (inr e) = inr (ap (λ y. word_of (bare_answer 0 0 (ready_number y)) []) e)

-- operations that the guard lets through, fed to the calls
module _ {s : List ℕ} {m : Map} (r : ImageOf s m) {o : Op} (g : GoodOp o) (z : over_number (apply m o) ≡ 0)
    (l : (ready m o ≡ Next) ⊎ (ready m o ≡ Seen)) where
  asked : ready_answer s (op_image o) ≡ bare_answer 0 0 (ready_number (ready m o))
  asked = ap₂ (λ (x : ReadMap) (y : ReadOp). bare_answer x.number y.number (ready_number (ready x.map y.op))) (reads r) (op-reads g)

  few : length (image_after s (op_image o)) ≤ map_longest
  few = let n = played-next r g z in omega (arith, ap length n.image, image-most n.good.within)

  fed-one : {ops : List (List ℕ)} {last : List ℕ} → Fed (image_after s (op_image o)) ops last → Fed s (op_image o ∷ ops) last
  unfolding image_after
  fed-one c =
      let a = apply_answer s (op_image o) in
      let entry : List ℕ = replicate map_longest 0 in
      let n : length entry ≡ map_longest = length-replicate {A = ℕ} map_longest 0 in
      let p : Answered a entry (out_of a entry) (word_of a entry) = record { packed = refl; left = refl } in
      let w = word_small a entry (played-done r g z entry (omega (arith, n))) (omega (arith, few)) in
      let t : LetsThrough (word_of (ready_answer s (op_image o)) []) = rw asked (lets (ready m o) l) in
      let next : take (word_of a entry) (out_of a entry) ≡ (apply_answer s (op_image o)).bytes = first-bytes p w in
      call {s = s} {o = op_image o} {entry = entry} refl t p n w (rw (sym next) at c)

fed : {m : Map} {s : List ℕ} {ops : List Op} → ImageOf s m → Plays m ops → Guarded m ops → Fed s (map op_image ops) (end s (map op_image ops))
unfolding fold
fed r Played.none none = stop
fed r (Played.more g z p) (more l k) = fed-one r g z l (fed (played-next r g z) p k)

-- operations that the calls make on such drives
written : (bytes : List ℕ) (a : Answer) → a ≡ writes bytes → number_of a bytes ≡ 0
written bytes a e = rw e (number-done (writes bytes) bytes refl refl refl (omega arith))

module _ {h : List (List ℕ)} (m : MadeCalls h) {map : List ℕ} (d : Drive h map) (bytes : List ℕ) (n : length bytes < 2 ^ 32) where
  made-update : (actor key x : ℕ) → ((u : Update) → UpdateIn (ops_of h) u → u.dot.actor ≡ actor → UpdateIn (ops_of d.ops) u)
      → actor < 2 ^ 16 → key < 2 ^ 32 → x < 2 ^ 64 → update_answer map actor key x 0 ≡ writes bytes → MadeCalls (bytes ∷ h)
  made-update actor key x f i k v e =
      let a = update_answer map actor key x 0 in
      let p : Answered a bytes (out_of a bytes) (word_of a bytes) = record { packed = refl; left = refl } in
      let w = word_small a bytes (written bytes a e) (omega (arith, n, ap (λ b. length b.bytes) e)) in
      let q : take (word_of a bytes) (out_of a bytes) ≡ bytes = first-bytes p w ∙ ap (λ b. b.bytes) e in
      let z : 0 < 2 ^ 16 = omega arith in
      rw q at (updated {origin = 0} m d f i k v z p w)

  made-removal : (key : ℕ) → key < 2 ^ 32 → rm_read_ctx_answer map key ≡ writes bytes → MadeCalls (bytes ∷ h)
  made-removal key k e =
      let a = rm_read_ctx_answer map key in
      let p : Answered a bytes (out_of a bytes) (word_of a bytes) = record { packed = refl; left = refl } in
      let w = word_small a bytes (written bytes a e) (omega (arith, n, ap (λ b. length b.bytes) e)) in
      let q : take (word_of a bytes) (out_of a bytes) ≡ bytes = first-bytes p w ∙ ap (λ b. b.bytes) e in
      rw q at (removed m d k p w)

short : (o : Op) → GoodOp o → length (op_image o) < 2 ^ 32
unfolding read_op
short o g =
    let a = accepted (λ (r : ReadOp). r.number) op_longest refused_op judged_op (op_image o) (λ n. refl) (one-op-image.back o g).0 in
    omega (arith, a.short)

-- A takes the removal before B's update, B after it
abbrev at-A : List Op
at-A = ten ∷ without (one 1 1) ∷ forty ∷ []

abbrev at-B : List Op
at-B = ten ∷ forty ∷ without (one 1 1) ∷ []

record BothRuns : Type 0 where
  first : Plays no_map (ten ∷ [])
  first-guarded : Guarded no_map (ten ∷ [])
  A-plays : Plays no_map at-A
  A-guarded : Guarded no_map at-A
  B-plays : Plays no_map at-B
  B-guarded : Guarded no_map at-B
  apart : applied no_map at-A ≡ applied no_map at-B → ⊥

runs : BothRuns
unfolding pad sift first_in fold weave is_empty counter_in covers order_of cut_dots join_dots add_dot yields outdone remaining put_values cut_values
    cut_entry
    listed remove_from remove_entries waits clock_before union_keys unite_all remove afresh put_entry entry_at put_entries update apply
    over_dots over_entries over_values over_waiting over_keys over_number first_lacking ready_under ready
runs = record {
  first = Played.more t refl Played.none;
  first-guarded = more (inl refl) none;
  A-plays = Played.more t refl (Played.more p refl (Played.more f refl Played.none));
  A-guarded = more (inl refl) (more (inl refl) (more (inl refl) none));
  B-plays = Played.more t refl (Played.more f refl (Played.more p refl Played.none));
  B-guarded = more (inl refl) (more (inl refl) (more (inl refl) none));
  apart = λ e.
      let z : ◌≡◌ {A = ℕ} 2 1 = ap (λ (m : Map). (get_or (get_or m.entries.items 0 no_entry).register.values 0 no_value).clock.len) e in
      omega arith;
}
  where
    t : GoodOp ten
    t = goods.ten-good

    f : GoodOp forty
    f = goods.forty-good

    p : GoodOp (without (one 1 1))
    p = goods.one-good

-- the drives where the operations are made
no-drive : Drive [] []
no-drive = record { ops = []; among = λ o i. absurd (Memᴰ.not-nil i); fed = stop }

ten-drive : {h : List (List ℕ)} → op_image ten ∈ h → Drive h (after (ten ∷ []))
ten-drive {h} i = record {
  ops = op_image ten ∷ [];
  among = λ o j. let same : o ≡ op_image ten = Memᴰ.eq_of_singleton j in Memᴰ.cast same i;
  fed = fed empty_of runs.first runs.first-guarded;
}

not-two : (u : Update) → UpdateIn (ops_of (op_image ten ∷ [])) u → u.dot.actor ≡ 2 → ⊥
not-two u i p =
    let same : i.op ≡ ten = Memᴰ.eq_of_singleton i.stands ∙ ap (λ r. r.op) (op-reads goods.ten-good) in
    let z : ◌≡◌ {A = ℕ} 1 2 = ap (λ o. o.update.dot.actor) (sym same) ∙ ap (λ x. x.dot.actor) i.is ∙ p in
    omega arith

made : MadeCalls (op_image (without (one 1 1)) ∷ op_image forty ∷ op_image ten ∷ [])
unfolding fold
made =
    made-removal
    (made-update
    (made-update nothing no-drive (op_image ten) (short ten goods.ten-good) 1 5 10 (λ u i. absurd (Memᴰ.not-nil i.stands)) (omega arith)
    (omega arith) (omega arith) counterexamples.e5.sets-ten)
    (ten-drive (Memᴰ.head refl)) (op_image forty) (short forty goods.forty-good) 2 5 40 (λ u i p. absurd (not-two u i p)) (omega arith)
    (omega arith) (omega arith) counterexamples.e5.sets-forty)
    (ten-drive (Memᴰ.tail (Memᴰ.head refl))) (op_image (without (one 1 1))) (short (without (one 1 1)) goods.one-good) 5 (omega arith)
    counterexamples.e5.removes

-- the three in any order
three : {x y z : List ℕ} {l : List (List ℕ)} → x ∈ l → y ∈ l → z ∈ l → (o : List ℕ) → o ∈ (x ∷ y ∷ z ∷ []) → o ∈ l
three {x} {y} {z} i j k o m =
    ⊎_elim (λ (q : o ≡ x). Memᴰ.cast q i)
    (λ n. ⊎_elim (λ (q : o ≡ y). Memᴰ.cast q j) (λ p. let same : o ≡ z = Memᴰ.eq_of_singleton p in Memᴰ.cast same k) (Memᴰ.cases_cons n))
    (Memᴰ.cases_cons m)

pub record E5Agrees : Type 0 where
  pub made : MadeCalls (op_image (without (one 1 1)) ∷ op_image forty ∷ op_image ten ∷ [])
  pub fed-A : Fed [] (map op_image at-A) (after at-A)
  pub fed-B : Fed [] (map op_image at-B) (after at-B)
  pub agree : Agree (after at-A) (after at-B)
  pub differ : after at-A ≡ after at-B → ⊥

-- the end theorem of this file
pub e5-agrees : E5Agrees
e5-agrees = record {
  made = made;
  fed-A = fed-A;
  fed-B = fed-B;
  agree = ending-alike.made-converge made
      (three (Memᴰ.tail (Memᴰ.tail (Memᴰ.head refl))) (Memᴰ.head refl) (Memᴰ.tail (Memᴰ.head refl)))
      (λ o. (
        three (Memᴰ.head refl) (Memᴰ.tail (Memᴰ.tail (Memᴰ.head refl))) (Memᴰ.tail (Memᴰ.head refl)) o,
        three (Memᴰ.head refl) (Memᴰ.tail (Memᴰ.tail (Memᴰ.head refl))) (Memᴰ.tail (Memᴰ.head refl)) o,
      )) fed-A fed-B;
  differ = λ e. runs.apart (ap (λ q. q.map) (sym (reads-after runs.A-plays) ∙ ap read_map e ∙ reads-after runs.B-plays));
}
  where
    fed-A : Fed [] (map op_image at-A) (after at-A)
    fed-A = fed empty_of runs.A-plays runs.A-guarded

    fed-B : Fed [] (map op_image at-B) (after at-B)
    fed-B = fed empty_of runs.B-plays runs.B-guarded
