-- The values of a sheet's bytes by number. What is past the last one, and all of a refused sheet, is 0.
use Rattle.std.specs.Prelude.{ℕ, List, ltb, get_or}
use Rattle.fields.specs.Deciding.{pick}
use Rattle.fields.specs.Values.{no_mode, no_task}
use Rattle.sheet.specs.Judging.{judged}
use Rattle.sheet.specs.Meaning.{modes_in, tasks_in, row_of, length_of, gap_of}
use Rattle.fields.specs.declared.units.Ticks.{Ticks}
use Rattle.fields.specs.declared.values.Mode.{Mode}
use Rattle.fields.specs.declared.values.Sheet.{Sheet}
use Rattle.fields.specs.declared.values.Task.{Task}
use Rattle.contents.specs.declared.RowValues.{RowValues}

-- a mode
unfoldable pub mode_numbered : List ℕ → ℕ → Mode
mode_numbered bytes number = get_or (modes_in (judged bytes).sheet) number no_mode

-- a row, with its job length
abbrev pub row_values : Sheet → ℕ → RowValues
row_values sheet number =
    record {
      speed = (row_of sheet number).speed;
      deadline = (row_of sheet number).deadline;
      followers = (row_of sheet number).followers;
      length = record { 0 = length_of sheet number };
    }

abbrev pub no_row_values : RowValues
no_row_values = record { speed = record { 0 = 0 }; deadline = record { 0 = 0 }; followers = 0; length = record { 0 = 0 } }

unfoldable pub row_numbered : List ℕ → ℕ → RowValues
row_numbered bytes number = pick (ltb number (judged bytes).sheet.tally.rows) (row_values (judged bytes).sheet number) no_row_values

-- the gap from a row to a row, 0 also where the one may not follow the other
unfoldable pub gap_numbered : List ℕ → ℕ → ℕ → Ticks
gap_numbered bytes from to =
    pick (ltb from (judged bytes).sheet.tally.rows) (record { 0 = gap_of bytes (row_of (judged bytes).sheet from) to }) (record { 0 = 0 })

-- a fixed task
unfoldable pub task_numbered : List ℕ → ℕ → Task
task_numbered bytes number = get_or (tasks_in (judged bytes).sheet) number no_task
