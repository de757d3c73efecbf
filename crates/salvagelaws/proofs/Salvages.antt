-- The end theorems: of every output and word that meet the two calls' contracts.
use mathlib.Core.Path.{◌≡◌, refl, ap, sym, ◌∙◌}
use mathlib.Core.Bool.{Bool, true, false, cond}
use mathlib.Core.Logic.{⊎_elim}
use mathlib.Core.List.Memᴰ
use mathlib.Core.List.{List, [], ◌∷◌, map}
use mathlib.Core.List.Permᴰ
use Prim.Native.Nat.{ℕ, ◌+◌, ◌*◌, ◌/◌, ◌%◌, ◌^◌, ◌≤◌, ◌<◌}
use native.Mathlib.Omega.{arith}
use lib.Dec.{eqb, ltb}
use lib.Seq.{take_at}
use lib.ListN.{length, get_or, take, drop, length-append, length-map}
use borrow.Author.Tests.{eqb-true, eqb-false, eq-eqb, ltb-false, le-ltb, lt-ltb}
use Rattle.listlaws.specs.Order.{◌∈◌}
use Rattle.listlaws.specs.Sift.{those}
use Rattle.listlaws.proofs.Perms.{perm_in}
use Rattle.listlaws.proofs.Those.{those-means}
use Rattle.records.specs.declared.Record.{Record}
use Rattle.records.specs.Bytes.{Bytes}
use Rattle.records.specs.Records.{records_of, bytes_of}
use Rattle.records.proofs.Joined.{length-records}
use Rattle.records.proofs.RoundTrips.{written_read}
use Rattle.scan.specs.Numbers.{scan_number}
use Rattle.scan.proofs.Eachs.{decide}
use Rattle.entries.proofs.Packs.{entries-of}
use Rattle.map.specs.Model.{entries_in}
use Rattle.mapimage.specs.MapImage.{map_longest}
use Rattle.maprecords.specs.Reading.{entries_for, map_in}
use Rattle.maprecords.specs.Related.{related, read_map, refused_map, judged_map}
use Rattle.clockimage.proofs.RoundTrip.{accepted}
use Rattle.answers.specs.Answer.{Answer, Answered, number_of, word_of, out_of, first_of}
use Rattle.answers.proofs.Answers.{same_answer, Written}
use Rattle.sentencelaws.specs.Sentences.{MapSentences}
use Rattle.sentencelaws.proofs.Holding.{holding}
use Rattle.salvagerules.specs.Fates.{Fate, untouched, stayed}
use Rattle.salvagerules.specs.Indexes.{with_index}
use Rattle.salvagerules.specs.Report.{Told, told_from, told_of, told_bytes, step_one, steps_of}
use Rattle.salvagerules.specs.Steps.{fates_of}
use Rattle.salvagerules.specs.Calls.{long_number, salvaged_image, salvage_report, salvage_answer, report_answer, SalvagePromise, SalvageReportPromise}
use Rattle.salvagelaws.specs.Accounts.{Became, Paired, nothing, also, Accounts, Salvages, OnlyTwoRefusals, steps_by}
use Rattle.salvagelaws.proofs.Accepted.{image-accepted, image-records, salvaged-short}
use Rattle.salvagelaws.proofs.Unchanged.{fates-same, salvaged-same}
use Rattle.salvagelaws.proofs.Fated.{all-came, paired-length, written-perm, all-untold, untold-same}
use Rattle.salvagelaws.proofs.Reported.{told-means, told-holds, told-ascends, told_none, none_told}
use Rattle.salvagelaws.proofs.Reported.{length-told, bytes-none, told-few, told_back}

-- an accepted image's records
pub record Sound (s : List ℕ) : Type 0 where
  pub whole : length s % 16 ≡ 0
  pub scan : scan_number 1 6 (records_of s) ≡ 0
  pub sentences : MapSentences (records_of s)

record Judged (l : List Record) : Type 0 where
  scan : scan_number 1 6 l ≡ 0
  related : related l ≡ true
  reads : (judged_map l).map ≡ map_in l

judged : (l : List Record) → (judged_map l).number ≡ 0 → Judged l
judged l j =
    decide (eqb (scan_number 1 6 l) 0)
    (λ t. decide (related l) (λ u. record { scan = eqb-true (scan_number 1 6 l) 0 t; related = u; reads = rw (t, u) })
    (λ f. absurd (let q = rw (t, f) at j in omega arith)))
    (λ f. absurd (eqb-false (scan_number 1 6 l) 0 f (rw f at j)))

pub sound : (s : List ℕ) → (read_map s).number ≡ 0 → Sound s
unfolding read_map
sound s e =
    let a = accepted (λ r. r.number) map_longest refused_map judged_map s (λ n. refl) e in
    let j = judged (records_of s) (ap (λ r. r.number) (sym a.same) ∙ e) in
    record { whole = a.whole; scan = j.scan; sentences = holding (records_of s) j.scan j.related }

-- and the entries of its map
pub read_as : (s : List ℕ) → (read_map s).number ≡ 0 → entries_in (read_map s).map ≡ entries_for (records_of s)
unfolding read_map
read_as s e =
    let a = accepted (λ r. r.number) map_longest refused_map judged_map s (λ n. refl) e in
    let j = judged (records_of s) (ap (λ r. r.number) (sym a.same) ∙ e) in
    ap (λ r. entries_in r.map) a.same ∙ ap entries_in j.reads ∙ entries-of (entries_for (records_of s))

steps-untold : (l : List Record) (n : ℕ) → n ∈ map (λ (f : Fate). f.step) (map untouched l) → n ≡ 0
steps-untold [] n i = absurd (Memᴰ.not-nil i)
steps-untold (r ∷ l) n i = ⊎_elim (λ e. e) (λ j. steps-untold l n j) (Memᴰ.cases_cons i)

paired-has : {A B : Type 0} {R : A → B → Type 0} {l : List A} {m : List B} → Paired R l m → {y : B} → y ∈ m → (x : A) × (x ∈ l) × R x y
paired-has nothing i = absurd (Memᴰ.not-nil i)
paired-has {R = R} (also {x = x} {y = z} r p) {y} i =
    ⊎_elim (λ (e : y ≡ z). (x, Memᴰ.head refl, rw e r))
    (λ j. let (w, k, q) = paired-has p j in (w, mathlib.Core.List.Memᴰ.tail k, q)) (Memᴰ.cases_cons i)

from-none : (p n : ℕ) → ◌≡◌ {A = Told} (record { place = p; step = n }) (record { place = 0 + p; step = n })
from-none p n = ap (λ a. record { place = a; step = n }) (plus p)
  where
    plus : (q : ℕ) → q ≡ 0 + q
    plus q = omega arith

get_in : (l : List ℕ) (i : ℕ) → (get_or l i 0 ≡ 0 → ⊥) → i < length l
get_in [] i n = absurd (n refl)
get_in (x ∷ l) Prim.Native.Nat.zero n = omega arith
get_in (x ∷ l) (Prim.Native.Nat.suc i) n = let b = get_in l i n in omega arith

module _ (s : List ℕ) (b : Bytes s) where
  abbrev l : List Record
  l = records_of s

  steps-length : length (steps_of s) ≤ length s / 16 + 1
  unfolding steps_of
  steps-length =
      let a = length-append (map (λ (f : Fate). f.step) (fates_of l)) (step_one s) in
      let c = length-map (fates_of l) (λ f. f.step) in
      let d = paired-length (all-came l) in
      let e = length-records s 0 (length s / 16) in
      let f = one-most (eqb (length s % 16) 0) in
      omega arith
    where
      one-most : (t : Bool) → length {A = ℕ} (cond t [] (1 ∷ [])) ≤ 1
      one-most true = omega arith
      one-most false = omega arith

  step_small : (n : ℕ) → n ∈ steps_of s → n < 256
  unfolding steps_of
  step_small n i =
      ⊎_elim
      (λ j. let (f, m, e) = Memᴰ.of_map (λ (f : Fate). f.step) (fates_of l) j in
      let (r, k, c) = paired-has (all-came l) m in
      let small = fate-small (c) in omega arith)
      (λ j. last (eqb (length s % 16) 0) j)
      (Memᴰ.append_cases (map (λ (f : Fate). f.step) (fates_of l)) i)
    where
      fate-small : {r : Record} {f : Fate} → Became r f → f.step ≤ 5
      fate-small {r} {f} c =
          decide f.stays
          (λ t. decide (eqb f.step 0) (λ z. let e = eqb-true f.step 0 z in omega arith)
          (λ z. let e = (c.changed t (eqb-false f.step 0 z)).0 in omega arith))
          (λ t. (c.gone t).1)

      last : (t : Bool) → n ∈ cond t [] (1 ∷ []) → n < 256
      last true j = absurd (Memᴰ.not-nil j)
      last false j = ⊎_elim (λ (e : n ≡ 1). omega arith) (λ k. absurd (Memᴰ.not-nil k)) (Memᴰ.cases_cons j)

  steps-are : steps_of s ≡ steps_by (fates_of l) s
  unfolding steps_of
  steps-are = refl

  -- the report and the image of an input
  report-accounts : length s ≤ map_longest → Accounts s (salvaged_image s) (salvage_report s)
  unfolding salvage_report told_of
  report-accounts short = record {
    fates = fates_of l;
    came = all-came l;
    written = rw (image-records s b) (written-perm l);
    told = told_from 0 (steps_of s);
    reported = refl;
    reads-back = told_back (told_from 0 (steps_of s)) (λ t i. let (j, c, at, e, n) = told-means 0 (steps_of s) t i in
        let few = steps-length in
        let small = step_small (get_or (steps_of s) j 0) (Rattle.salvagelaws.proofs.Counting.get_in (steps_of s) j 0 c) in
        record { place = omega arith; step = omega arith });
    ascending = told-ascends 0 (steps_of s);
    exact = λ t i. let (j, c, at, e, n) = told-means 0 (steps_of s) t i in
        let same : t.place ≡ j = omega arith in
        (e ∙ ap (λ p. get_or (steps_of s) p 0) (sym same) ∙ ap (λ m. get_or m t.place 0) steps-are, n);
    complete = λ p n. let m = n in let q : get_or (steps_of s) p 0 ≡ 0 → ⊥ = λ z. m (ap (λ a. get_or a p 0) (sym steps-are) ∙ z) in
        rw (← steps-are) (Memᴰ.cast (from-none p (get_or (steps_of s) p 0)) (told-holds 0 (steps_of s) p (get_in (steps_of s) p q) q));
  }

  -- an accepted image
  back : (read_map s).number ≡ 0 → (salvaged_image s ≡ s) × (salvage_report s ≡ [])
  unfolding salvaged_image salvage_report told_of steps_of told_bytes
  back e =
      let h = sound s e in (
        ap bytes_of (salvaged-same l h.scan h.sentences) ∙ written_read s b h.whole,
        ap told_bytes (told_none 0 (steps_of s) (λ n i.
            ⊎_elim (λ j. steps-untold l n (rw (fates-same l h.scan h.sentences) at j))
            (λ j. absurd (Memᴰ.not-nil (rw (eq-eqb (length s % 16) 0 h.whole) at j)))
            (Memᴰ.append_cases (map (λ (f : Fate). f.step) (fates_of l)) i))),
      )

  -- an empty report
  empty : salvage_report s ≡ [] → salvaged_image s ≡ s
  unfolding salvaged_image salvage_report told_of steps_of
  empty e =
      let none = none_told 0 (steps_of s) (bytes-none (told_from 0 (steps_of s)) e) in
      let all = all-untold (all-came l) (λ f i. none f.step (Memᴰ.append_left (step_one s) (Memᴰ.map (λ (f : Fate). f.step) i))) in
      let whole = decide (eqb (length s % 16) 0) (λ t. eqb-true (length s % 16) 0 t)
      (λ f. absurd (let z = none 1 (Memᴰ.append_right (map (λ (f : Fate). f.step) (fates_of l)) (rw f (Memᴰ.head refl))) in omega arith)) in
      ap bytes_of (untold-same l all) ∙ written_read s b whole

image-short : (s : List ℕ) → length (salvaged_image s) ≤ map_longest
unfolding salvaged_image
image-short s = salvaged-short (records_of s)

-- what a call that answers 0 has handed over
pub record Handed (a : Answer) (entry exit : List ℕ) (word : ℕ) : Type 0 where
  pub number : number_of a entry ≡ 0
  pub bytes : take (word % 2 ^ 32) exit ≡ a.bytes

pub handed : (a : Answer) (entry exit : List ℕ) (word : ℕ) → Answered a entry exit word → word / 2 ^ 32 ≡ 0 → Handed a entry exit word
unfolding word_of out_of
handed a entry exit word w z =
    decide (eqb (number_of a entry) 0)
    (λ t. let n = eqb-true (number_of a entry) 0 t in
    let e : word ≡ number_of a entry * 2 ^ 32 + length a.bytes = rw t at w.packed in
    let long : word % 2 ^ 32 ≡ length a.bytes = omega (arith, e, n, z) in
    record { number = n; bytes = rw (long, w.left, t) (take_at a.bytes (drop (length a.bytes) entry) (length a.bytes) refl) })
    (λ f. absurd (eqb-false (number_of a entry) 0 f (let e = rw f at w.packed in omega arith)))

-- it was not refused for its length
short-enough : (image bytes entry : List ℕ) → number_of (record { first = long_number image; second = 0; own = 0; bytes = bytes }) entry ≡ 0
    → length image ≤ map_longest
unfolding number_of first_of
short-enough image bytes entry e =
    decide (ltb map_longest (length image)) (λ t. absurd (let q = rw t at e in omega arith)) (λ f. ltb-false map_longest (length image) f)

-- "no others": 2, then 10, then 0
numbers : (image bytes out : List ℕ)
    → OnlyTwoRefusals image bytes out (number_of (record { first = long_number image; second = 0; own = 0; bytes = bytes }) out)
unfolding number_of first_of
numbers image bytes out = record {
  too_long = λ h. rw (lt-ltb map_longest (length image) h);
  short = λ h c. rw (le-ltb map_longest (length image) h, lt-ltb (length out) (length bytes) c);
  done = λ h c. rw (le-ltb map_longest (length image) h, le-ltb (length out) (length bytes) c);
}

pub salvage-numbers : (image out : List ℕ) → OnlyTwoRefusals image (salvaged_image image) out (number_of (salvage_answer image) out)
salvage-numbers image out = numbers image (salvaged_image image) out

pub report-numbers : (image out : List ℕ) → OnlyTwoRefusals image (salvage_report image) out (number_of (report_answer image) out)
report-numbers image out = numbers image (salvage_report image) out

-- all that is promised of what is handed over
pub salvages-by : (image : List ℕ) → Bytes image → length image ≤ map_longest → Salvages image (salvaged_image image) (salvage_report image)
unfolding salvage_report told_of
salvages-by image b h = record {
  accepted = image-accepted image b;
  unchanged = back image b;
  only = λ e. let same = empty image b e in (ap (λ s. (read_map s).number) (sym same) ∙ image-accepted image b, same);
  nothing-new = λ x i.
      let m = perm_in (Permᴰ.symm (written-perm (records_of image))) x (rw (image-records image b) at i) in
      let (f, j, e) = Memᴰ.of_map (λ (f : Fate). f.item) (those stayed (fates_of (records_of image))) m in
      let (r, k, c) = paired-has (all-came (records_of image)) (those-means stayed (fates_of (records_of image)) j).0 in
      (r, k, sym e ∙ c.like ∙ ap (λ (q : Record). with_index q.index r) e);
  accounts = report-accounts image b h;
  image-length = short-image;
  report-length =
      let a = length-told (told_from 0 (steps_of image)) in
      let c = told-few 0 (steps_of image) in
      let d = steps-length image b in
      omega arith;
}
  where
    short-image : length (salvaged_image image) ≤ map_longest
    short-image = image-short image

pub salvages : (image : List ℕ) → Bytes image → (entry exit : List ℕ) (word : ℕ) → SalvagePromise image entry exit word → word / 2 ^ 32 ≡ 0
    → (other left : List ℕ) (says : ℕ) → SalvageReportPromise image other left says → says / 2 ^ 32 ≡ 0
    → Salvages image (take (word % 2 ^ 32) exit) (take (says % 2 ^ 32) left)
salvages image b entry exit word p z other left says q y =
    let h = handed (salvage_answer image) entry exit word p z in
    let g = handed (report_answer image) other left says q y in
    rw (h.bytes, g.bytes) (salvages-by image b (short-enough image (salvaged_image image) entry h.number))

-- "Salvaging what was salvaged changes nothing."
pub twice : {image out report again told : List ℕ} → Salvages image out report → Salvages out again told → (again ≡ out) × (told ≡ [])
twice s t = t.unchanged s.accepted

-- any two results that meet a contract are identical
pub record Determined : Type 0 where
  pub image : (image : List ℕ) → Written (SalvagePromise image)
  pub report : (image : List ℕ) → Written (SalvageReportPromise image)

pub determined : Determined
determined = record { image = λ image out d e r s p q. same_answer p q; report = λ image out d e r s p q. same_answer p q }
