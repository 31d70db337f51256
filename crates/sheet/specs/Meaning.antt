-- The graph and the fixed tasks that a judged sheet stands for.
use Rattle.std.specs.Prelude.{ℕ, ◌+◌, ◌*◌, List, [], ◌∷◌, get_or, take}
use Rattle.sets.specs.Sets.{member, below}
use Rattle.meaning.specs.Graph.{Graph}
use Rattle.meaning.specs.Fixed as fixed
use Rattle.fields.specs.Deciding.{pick}
use Rattle.fields.specs.Limits.{gap_size}
use Rattle.fields.specs.Reading.{word_at}
use Rattle.fields.specs.Values.{no_row}
use Rattle.modes.specs.Modes.{job_length}
use Rattle.fields.specs.declared.values.Mode.{Mode}
use Rattle.fields.specs.declared.values.Row.{Row}
use Rattle.fields.specs.declared.values.Task.{Task}
use Rattle.fields.specs.declared.values.Sheet.{Sheet}

-- the modes, the rows and the fixed tasks that a sheet counts
abbrev pub modes_in : Sheet → List Mode
modes_in sheet = take sheet.tally.modes sheet.modes

abbrev pub rows_in : Sheet → List Row
rows_in sheet = take sheet.tally.rows sheet.rows

abbrev pub tasks_in : Sheet → List Task
tasks_in sheet = take sheet.tally.tasks sheet.tasks

-- the row of a number
abbrev pub row_of : Sheet → ℕ → Row
row_of sheet k = get_or sheet.rows k no_row

-- the job length of a row
abbrev pub length_of : Sheet → ℕ → ℕ
length_of sheet k = (job_length (modes_in sheet) (row_of sheet k).speed).0

-- the gap from a row to a follower: gaps stand one for each row of the set, lowest first; 0 where the row is no follower
abbrev pub gap_of : List ℕ → Row → ℕ → ℕ
gap_of bytes row j =
    let gap = word_at bytes (row.gaps + gap_size * below row.followers j) in
    pick (member row.followers j) gap 0

-- the graph of a sheet
unfoldable pub graph_of : List ℕ → Sheet → Graph
graph_of bytes sheet =
    record {
      rows = sheet.tally.rows;
      length = length_of sheet;
      deadline = λ k. (row_of sheet k).deadline.0;
      gap = λ k j. gap_of bytes (row_of sheet k) j;
    }

-- a fixed task's four times as numbers
abbrev pub times_of : Task → fixed.Task
times_of task = record { length = task.length.0; period = task.period.0; deadline = task.deadline.0; jitter = task.jitter.0 }

-- each of them
unfoldable pub each_task : List Task → List fixed.Task
each_task [] = []
each_task (task ∷ tasks) = times_of task ∷ each_task tasks

-- the fixed tasks of a sheet
unfoldable pub tasks_of : Sheet → List fixed.Task
tasks_of sheet = each_task (tasks_in sheet)
