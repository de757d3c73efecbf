-- What the two calls of salvage answer, of the bytes that they are given, and their contracts.
use Rattle.std.specs.Prelude.{cond, List, ℕ, ltb, length}
use Rattle.records.specs.Records.{records_of, bytes_of}
use Rattle.mapimage.specs.MapImage.{map_longest}
use Rattle.answers.specs.Answer.{Answer, Answered}
use Rattle.salvagerules.specs.Steps.{salvaged}
use Rattle.salvagerules.specs.Report.{told_of, told_bytes}

-- "Refusals: 2 for longer input, 10 for a short buffer; no others."
abbrev pub long_number : List ℕ → ℕ
long_number image = cond (ltb map_longest (length image)) 2 0

-- the image that is written
unfoldable pub salvaged_image : List ℕ → List ℕ
salvaged_image image = bytes_of (salvaged (records_of image))

-- the report that is written
unfoldable pub salvage_report : List ℕ → List ℕ
salvage_report image = told_bytes (told_of image)

abbrev pub salvage_answer : List ℕ → Answer
salvage_answer image = record { first = long_number image; second = 0; own = 0; bytes = salvaged_image image }

abbrev pub report_answer : List ℕ → Answer
report_answer image = record { first = long_number image; second = 0; own = 0; bytes = salvage_report image }

-- the contract of each, which the code cites and `Determined` takes
abbrev pub SalvagePromise : List ℕ → List ℕ → List ℕ → ℕ → Type 0
SalvagePromise image entry exit word = Answered (salvage_answer image) entry exit word

abbrev pub SalvageReportPromise : List ℕ → List ℕ → List ℕ → ℕ → Type 0
SalvageReportPromise image entry exit word = Answered (report_answer image) entry exit word
