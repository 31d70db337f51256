-- What is kept of a sheet while it is judged: all but its rows, and the places of these in the file.
use Rattle.std.specs.Prelude.{ℕ, ◌+◌, ◌≤◌, ◌<◌, ◌≡◌, Bool, true, false, List, [], length, get_or, set, Result}
use Rattle.fields.specs.Deciding.{pick}
use Rattle.fields.specs.Limits.{row_limit, head_size}
use Rattle.fields.specs.Reading.{row_at}
use Rattle.fields.specs.Values.{no_row}
use Rattle.fields.specs.declared.table.Kind.{Kind}
use Rattle.fields.specs.declared.table.Kind.TheVariants.{RefusedTag, LabelField, ModeField, RowField, TaskField, EndField, SkippedField}
use Rattle.fields.specs.declared.values.Row.{Row}
use Rattle.fields.specs.declared.values.Sheet.{Sheet}
use Rattle.sheet.specs.Judging.{with_field, judged}
use Rattle.sheet.specs.Meaning.{row_of}
use Rattle.sheet.specs.Ready.{Ready}
use Rattle.sheet.specs.declared.Head.{Head}
use Rattle.sheet.specs.Answer.{Judged, answered}
use Rattle.fields.specs.declared.refusal.Refusal.{Refusal}

-- all of a sheet but its rows
abbrev pub head_of : Sheet → Head
head_of sheet = record { label = sheet.label; tally = sheet.tally; modes = sheet.modes; tasks = sheet.tasks }

-- the rows of a sheet are those that stand in the file at some places, one after the other, and there is none past their count
pub record RowsAt (bytes : List ℕ) (sheet : Sheet) (places : List ℕ) : Type 0 where
  pub most : sheet.tally.rows ≤ row_limit
  pub each : (k : ℕ) → k < sheet.tally.rows → row_of sheet k ≡ row_at bytes (get_or places k 0)
  pub inside : (k : ℕ) → k < sheet.tally.rows → get_or places k 0 + head_size ≤ length bytes
  pub past : (k : ℕ) → sheet.tally.rows ≤ k → row_of sheet k ≡ no_row
  pub room : length sheet.rows ≡ row_limit

-- the bytes are judged, with their rows at some places: the head of an accepted sheet, or the refusal
pub record Outlined (bytes places : List ℕ) (outline : Result Head Refusal) : Type 0 where
  pub answer : outline ≡ answered (judged bytes).answer (head_of (judged bytes).sheet)
  pub rows : RowsAt bytes (judged bytes).sheet places

-- a sheet of a head and rows
abbrev pub sheet_from : Head → List Row → Sheet
sheet_from head rows = record { label = head.label; tally = head.tally; modes = head.modes; rows = rows; tasks = head.tasks }

-- a judged sheet without its rows
abbrev pub outline_of : Judged → Result Head Refusal
outline_of one = answered one.answer (head_of one.sheet)

-- the head with what a field adds to it, which does not hang on the rows: here there are none
abbrev pub head_with : List ℕ → Head → Kind → ℕ → ℕ → Head
head_with bytes head kind start size = head_of (with_field bytes (sheet_from head []) kind start size)

abbrev pub is_row : Kind → Bool
is_row RefusedTag = false
is_row LabelField = false
is_row ModeField = false
is_row RowField = true
is_row TaskField = false
is_row EndField = false
is_row SkippedField = false

-- the places with that of a field that is the row of a number
abbrev pub places_with : Kind → List ℕ → ℕ → ℕ → List ℕ
places_with kind places number start = pick (is_row kind) (set places number start) places

-- there are places for so many rows, and a row's head stands in the file at each
abbrev pub PlacesIn : List ℕ → List ℕ → ℕ → Type 0
PlacesIn bytes places count = (count ≤ row_limit) × ((k : ℕ) → k < count → get_or places k 0 + head_size ≤ length bytes)

-- an array has the rows at the first places, as many as counted, and zeros past them
pub record RowsFrom (bytes places : List ℕ) (count : ℕ) (rows : List Row) : Type 0 where
  pub each : (k : ℕ) → k < count → get_or rows k no_row ≡ row_at bytes (get_or places k 0)
  pub past : (k : ℕ) → count ≤ k → get_or rows k no_row ≡ no_row
  pub room : length rows ≡ row_limit

-- what a call hands down of an accepted sheet: its head, and where its rows stand
pub record Handed (bytes : List ℕ) (head : Head) (places : List ℕ) : Type 0 where
  pub ready : Ready bytes (judged bytes).sheet
  pub same : head ≡ head_of (judged bytes).sheet
  pub rows : RowsAt bytes (judged bytes).sheet places
