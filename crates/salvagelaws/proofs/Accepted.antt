-- What salvage writes is an accepted image.
use mathlib.Core.Path.{◌≡◌, refl}
use mathlib.Core.Bool.{true}
use mathlib.Core.List.{List, []}
use Prim.Native.Nat.{ℕ, ◌*◌, ◌/◌, ◌%◌, ◌^◌, ◌≤◌, ◌<◌}
use native.Mathlib.Omega.{arith}
use lib.ListN.{length}
use Rattle.listlaws.specs.Order.{◌∈◌, Ascending}
use Rattle.records.specs.declared.Record.{Record}
use Rattle.records.specs.Bytes.{Bytes}
use Rattle.records.specs.Kinds.{before}
use Rattle.records.specs.Records.{records_of, bytes_of}
use Rattle.records.proofs.RoundTrips.{Fitting, length-bytes, read-written, read-all-fit, written-bytes}
use Rattle.scan.specs.Numbers.{scan_number}
use Rattle.scan.proofs.Scanning.{scan_good}
use Rattle.mapimage.specs.MapImage.{map_longest}
use Rattle.maprecords.specs.Related.{related, read_map}
use Rattle.acceptancelaws.proofs.Maps.{related-within}
use Rattle.oneimagelaws.proofs.Rewritten.{records-rewritten}
use Rattle.oneimagelaws.proofs.Sizes.{image-most}
use Rattle.sentencelaws.specs.Sentences.{MapSentences, SoundImage}
use Rattle.sentencelaws.proofs.Needing.{needing}
use Rattle.sentencelaws.proofs.Three.{map-three}
use Rattle.salvagerules.specs.Steps.{salvaged}
use Rattle.salvagerules.specs.Indexes.{new_index}
use Rattle.salvagerules.specs.Calls.{salvaged_image}
use Rattle.salvagelaws.proofs.Walks.{kept-means}
use Rattle.salvagelaws.proofs.Stages.{good_alone, above_kept, left_by_two, left_by_four, salvaged-is, four-three}
use Rattle.salvagelaws.proofs.Fourth.{four-supplied}
use Rattle.salvagelaws.proofs.Values.{below-few}
use Rattle.salvagelaws.proofs.Waiting.{index-all, index-few, indexes-few}
use Rattle.salvagelaws.proofs.Fifth.{new-value, new-dot, new-clock, new-key, new-plain}
use Rattle.salvagelaws.proofs.Fifth.{kind-most, united-in, written-ascends, written_from}
use Rattle.salvagelaws.proofs.Limited.{by_kind, key-known, written-scan}
use Rattle.salvagelaws.proofs.Sentences.{written-sentences}

-- the records that are written, of any records
module _ (l : List Record) where
  pub salvaged-ascends : Ascending before (salvaged l)
  salvaged-ascends = rw (salvaged-is l) (written-ascends (left_by_four l) (four-supplied l))

  pub salvaged-scan : scan_number 1 6 (salvaged l) ≡ 0
  salvaged-scan = rw (salvaged-is l) (written-scan (left_by_four l) (four-supplied l))

  pub salvaged-sentences : MapSentences (salvaged l)
  salvaged-sentences = rw (salvaged-is l) (written-sentences (left_by_four l) (four-supplied l))

  pub salvaged-related : related (salvaged l) ≡ true
  salvaged-related = needing (salvaged l) salvaged-scan salvaged-sentences

  -- no longer than the longest image
  pub salvaged-short : length (bytes_of (salvaged l)) ≤ map_longest
  salvaged-short =
      rw (← records-rewritten (salvaged l) salvaged-scan salvaged-related)
      (image-most (related-within (salvaged l) salvaged-scan salvaged-related))

  -- what is left of the input stood in it
  pub left-stood : {x : Record} → x ∈ left_by_four l → x ∈ l
  left-stood i = kept-means good_alone [] l (kept-means above_kept [] (left_by_two l) (four-three l i))

  module _ (fits : (x : Record) → x ∈ l → Fitting x) where
    abbrev k : List Record
    k = left_by_four l

    index-fits : (u : Record) → u ∈ k → new_index k u < 2 ^ 8
    index-fits u i =
        let h = four-supplied l in
        let z = h.scan in
        let few = indexes-few k z in
        by_kind (new_index k u < 2 ^ 8) u.kind (kind-most k z u i)
        (λ a. let b = (fits u (left-stood i)).index in omega (arith, new-plain k u a))
        (λ a. omega (arith, new-value k u a, below-few k z u.key u i u.index (a, (refl, refl))))
        (λ a. let (v, m, q) = h.valued u i a in omega (arith, new-dot k u a, below-few k z u.key v m u.index q))
        (λ a. omega (arith, new-clock k u a, index-few k u.index (index-all k z u i a)))
        (λ a. omega (arith, new-key k u a, index-few k u.index (key-known k h u i a)))

    pub salvaged-fits : (x : Record) → x ∈ salvaged l → Fitting x
    salvaged-fits x i =
        let (u, j, e) = written_from k (rw (salvaged-is l) at i) in
        let m = united-in k (four-supplied l).scan j in
        let f = fits u (left-stood m) in
        rw e (record { kind = f.kind; index = index-fits u m; actor = f.actor; key = f.key; number = f.number })

    -- the bytes are those of an image with number 0
    pub salvaged-sound : SoundImage map_longest 1 6 (bytes_of (salvaged l))
    salvaged-sound =
        let e = read-written (salvaged l) salvaged-fits in
        let g = scan_good 1 6 (salvaged l) salvaged-scan in
        let n = length-bytes (salvaged l) in
        record { short = salvaged-short; whole = rw n (multiple (length (salvaged l))); formed = rw e g.0; few = rw e g.1 }
      where
        multiple : (n : ℕ) → n * 16 % 16 ≡ 0
        multiple n = omega arith

    pub salvaged-number : (read_map (bytes_of (salvaged l))).number ≡ 0
    salvaged-number =
        (map-three (bytes_of (salvaged l)) salvaged-sound).all_hold (rw (read-written (salvaged l) salvaged-fits) salvaged-sentences)

-- of any bytes
module _ (s : List ℕ) (b : Bytes s) where
  pub records-fit : (x : Record) → x ∈ records_of s → Fitting x
  records-fit x i = read-all-fit s b (length s / 16) 0 x i

  pub image-accepted : (read_map (salvaged_image s)).number ≡ 0
  unfolding salvaged_image
  image-accepted = salvaged-number (records_of s) records-fit

  pub image-bytes : Bytes (salvaged_image s)
  unfolding salvaged_image
  image-bytes = written-bytes (salvaged (records_of s)) (salvaged-fits (records_of s) records-fit)

  pub image-records : records_of (salvaged_image s) ≡ salvaged (records_of s)
  unfolding salvaged_image
  image-records = read-written (salvaged (records_of s)) (salvaged-fits (records_of s) records-fit)
