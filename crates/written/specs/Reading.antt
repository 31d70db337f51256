-- The values of a file that is accepted.
use Rattle.std.specs.Prelude.{ℕ, zero, suc, ◌+◌, List, [], ◌∷◌, ◌++◌, map, take, drop}
use Rattle.fields.specs.Limits.{gap_size}
use Rattle.fields.specs.Reading.{word_at}
use Rattle.rules.specs.Rules.{follower_count}
use Rattle.sheet.specs.Judging.{judged}
use Rattle.sheet.specs.Meaning.{modes_in, rows_in, tasks_in}
use Rattle.fields.specs.declared.values.Row.{Row}
use Rattle.fields.specs.declared.values.Sheet.{Sheet}
use Rattle.written.specs.Values.{Values}

-- numbers that stand one behind the other from a place on
unfoldable pub words_at : List ℕ → ℕ → ℕ → List ℕ
words_at bytes at zero = []
words_at bytes at (suc count) = word_at bytes at ∷ words_at bytes (at + gap_size) count

-- the gaps of a row, and those of rows one behind the other
abbrev pub gaps_of : List ℕ → Row → List ℕ
gaps_of bytes row = words_at bytes row.gaps (follower_count row.followers)

unfoldable pub all_gaps : List ℕ → List Row → List ℕ
all_gaps bytes [] = []
all_gaps bytes (row ∷ rows) = gaps_of bytes row ++ all_gaps bytes rows

-- the bytes of the label
abbrev pub label_in : List ℕ → Sheet → List ℕ
label_in bytes sheet = take sheet.label.size (drop sheet.label.start bytes)

-- the values of a sheet that was read from these bytes
unfoldable pub values_in : List ℕ → Sheet → Values
values_in bytes sheet =
    record {
      label = label_in bytes sheet;
      boundaries = map (λ mode. mode.boundary.0) (modes_in sheet);
      lengths = map (λ mode. mode.length.0) (modes_in sheet);
      fallbacks = map (λ mode. mode.fallback.0) (modes_in sheet);
      speeds = map (λ row. row.speed.0) (rows_in sheet);
      deadlines = map (λ row. row.deadline.0) (rows_in sheet);
      sets = map (λ row. row.followers) (rows_in sheet);
      gaps = all_gaps bytes (rows_in sheet);
      task_lengths = map (λ task. task.length.0) (tasks_in sheet);
      task_periods = map (λ task. task.period.0) (tasks_in sheet);
      task_deadlines = map (λ task. task.deadline.0) (tasks_in sheet);
      task_jitters = map (λ task. task.jitter.0) (tasks_in sheet);
    }

unfoldable pub values_of : List ℕ → Values
values_of bytes = values_in bytes (judged bytes).sheet
