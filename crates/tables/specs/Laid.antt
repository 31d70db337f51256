-- What the tables are told of a sheet: where its rows stand in the file, and what their jobs take.
use Rattle.std.specs.Prelude.{ℕ, ◌+◌, ◌≤◌, ◌<◌, ◌≡◌, List, get_or, length as size}
use Rattle.fields.specs.Limits.{head_size}
use Rattle.fields.specs.Reading.{row_at}
use Rattle.sheet.specs.Judging.{judged}
use Rattle.sheet.specs.Meaning.{row_of, length_of}
use Rattle.sheet.specs.Ready.{Ready}

-- the bytes are an accepted sheet of n rows, each row stands at its place, and each job length is the row's
pub record Laid (bytes places lengths : List ℕ) (n : ℕ) : Type 0 where
  pub ready : Ready bytes (judged bytes).sheet
  pub rows : n ≡ (judged bytes).sheet.tally.rows
  pub row : (k : ℕ) → k < n → row_of (judged bytes).sheet k ≡ row_at bytes (get_or places k 0)
  pub inside : (k : ℕ) → k < n → get_or places k 0 + head_size ≤ size bytes
  pub length : (k : ℕ) → k < n → get_or lengths k 0 ≡ length_of (judged bytes).sheet k
