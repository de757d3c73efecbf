-- A clock has one image.
use mathlib.Core.Path.{◌≡◌, ap, sym, ◌∙◌}
use mathlib.Core.List.{List}
use Prim.Native.Nat.{ℕ}
use Rattle.clock.specs.Dots.{dots_of, clock_of}
use Rattle.clock.proofs.Packs.{dots-of}
use Rattle.records.specs.Bytes.{Bytes}
use Rattle.records.specs.Records.{records_of, bytes_of}
use Rattle.clockimage.specs.ClockImage.{clock_records, clock_image, clock_in, read_clock}
use Rattle.clockimage.proofs.RoundTrip.{read-clock-written, clock-accepted}
use Rattle.oneimagelaws.specs.One.{OneImage, GoodClock}

pub one-clock-image : OneImage GoodClock clock_image (λ s. (read_clock s).number) (λ s. (read_clock s).clock)
one-clock-image = record {
  back = λ c g. let e = read-clock-written (dots_of c) g.lawful g.narrow g.few in
      (ap (λ r. r.number) e, ap (λ r. r.clock) e ∙ sym g.laid);
  again = written-again;
}
  where
    written-again : (s : List ℕ) → Bytes s → (read_clock s).number ≡ 0 → GoodClock (read_clock s).clock × (clock_image (read_clock s).clock ≡ s)
    written-again s b z =
        let a = clock-accepted s b z in
        let c = ap (λ r. r.clock) a.read in
        let d = dots-of (clock_in (records_of s)) c in (
          record { laid = c ∙ ap clock_of (sym d); lawful = rw d a.lawful; few = rw d a.few; narrow = rw d a.fit },
          ap (λ l. bytes_of (clock_records l)) d ∙ a.image,
        )
