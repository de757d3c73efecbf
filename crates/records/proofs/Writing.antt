-- A writer that puts the bytes of records in place, some at a time.
use mathlib.Core.Path.{◌≡◌, refl, ap, sym, ◌∙◌}
use mathlib.Core.List.{List, [], ◌∷◌, ◌++◌, append-nil, append_assoc}
use Prim.Native.Nat.{ℕ, ◌+◌, ◌*◌, ◌≤◌}
use native.Mathlib.Omega.{arith}
use lib.ListN.{length, length-append}
use Rattle.records.specs.Records.{record_bytes, bytes_of}
use Rattle.records.specs.Writing.{Wrote}
use Rattle.records.specs.declared.Record.{Record}
use Rattle.records.proofs.Placing.{placed-none, placed_on, length-placed}
use Rattle.records.proofs.RoundTrips.{length-bytes, bytes-append}

-- of the records `whole`, which go to `at`, all are written but the rest; `now` is the output, and `next` the place for the rest
pub record Writing (whole rest : List Record) (at : ℕ) (entry now : List ℕ) (next : ℕ) : Type 0 where
  pub done : List Record
  pub parts : whole ≡ done ++ rest
  pub wrote : Wrote at (bytes_of done) entry now next
  pub fits : at + length whole * 16 ≤ length entry

module _ (whole : List Record) (at : ℕ) (entry : List ℕ) where
  pub write-start : at + length whole * 16 ≤ length entry → Writing whole whole at entry entry at
  unfolding bytes_of
  write-start h = record {
    done = [];
    parts = refl;
    wrote = record { left = sym (placed-none at entry (omega arith)); ends = omega arith };
    fits = h;
  }

  -- the output keeps its length, and has room for what comes next
  pub write-room : {rest : List Record} {o : List ℕ} {next : ℕ} (more now : List Record) → Writing whole rest at entry o next → rest ≡ more ++ now
      → (next + length more * 16 ≤ length o) × (length o ≡ length entry)
  write-room more now w e =
      let n = ap length w.parts ∙ length-append w.done _ ∙ ap (λ k. length w.done + k) (ap length e ∙ length-append more now) in
      let b = length-bytes w.done in
      let h = w.fits in
      let z = w.wrote.ends in
      let kept = ap length w.wrote.left ∙ length-placed at (bytes_of w.done) entry (omega arith) in
      (omega arith, kept)

  pub write_kept : {rest : List Record} {o : List ℕ} {next : ℕ} → Writing whole rest at entry o next → length o ≡ length entry
  write_kept {rest} w = (write-room [] rest w refl).1

  pub write-on : {rest now : List Record} {o p : List ℕ} {next after : ℕ} (more : List Record) → Writing whole rest at entry o next
      → rest ≡ more ++ now
      → Wrote next (bytes_of more) o p after → Writing whole now at entry p after
  write-on {rest = rest} {now = now} {next = next} more w e x =
      let n = ap length w.parts ∙ length-append w.done rest ∙ ap (λ k. length w.done + k) (ap length e ∙ length-append more now) in
      let b = length-bytes w.done in
      let m = length-bytes more in
      let h = w.fits in
      let z = w.wrote.ends in
      let y = x.ends in
      let both = bytes-append w.done more in
      record {
        done = w.done ++ more;
        parts = w.parts ∙ ap (λ k. w.done ++ k) e ∙ sym (append_assoc w.done more now);
        wrote = record {
          left = rw both (placed_on at next (bytes_of w.done) (bytes_of more) entry w.wrote.left x.left z (omega arith));
          ends = rw (both, length-append (bytes_of w.done) (bytes_of more)) (omega arith);
        };
        fits = h;
      }

  pub write-end : {rest : List Record} {o : List ℕ} {next : ℕ} → Writing whole rest at entry o next → rest ≡ []
      → Wrote at (bytes_of whole) entry o next
  write-end w e = rw (w.parts ∙ ap (λ k. w.done ++ k) e ∙ append-nil w.done) w.wrote

-- one record
pub wrote_one : (r : Record) (at : ℕ) (entry exit : List ℕ) (next : ℕ) → Wrote at (record_bytes r) entry exit next
    → Wrote at (bytes_of (r ∷ [])) entry exit next
unfolding bytes_of
wrote_one r at entry exit next w = rw (append-nil (record_bytes r)) w

-- all that is left, written at once
module _ (whole rest : List Record) (at : ℕ) (entry : List ℕ) where
  pub last-room : {o : List ℕ} {next : ℕ} → Writing whole rest at entry o next → next + length rest * 16 ≤ length o
  last-room w = (write-room whole at entry rest [] w (sym (append-nil rest))).0

  pub write-last : {o p : List ℕ} {next after : ℕ} → Writing whole rest at entry o next → Wrote next (bytes_of rest) o p after
      → Wrote at (bytes_of whole) entry p after
  write-last w x = write-end whole at entry (write-on whole at entry {now = []} rest w (sym (append-nil rest)) x) refl
