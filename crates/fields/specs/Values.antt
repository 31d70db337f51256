-- The values of a sheet of which nothing is read yet, and how many bytes a mode or a fixed task takes.
use Rattle.std.specs.Prelude.{ℕ, ◌+◌, eqb, replicate}
use Rattle.fields.specs.Deciding.{pick}
use Rattle.fields.specs.Limits.{mode_limit, row_limit, task_limit, mode_size, fallback_size, task_size, jitter_size}
use Rattle.fields.specs.declared.values.Mode.{Mode}
use Rattle.fields.specs.declared.values.Row.{Row}
use Rattle.fields.specs.declared.values.Task.{Task}
use Rattle.fields.specs.declared.values.Sheet.{Sheet}

-- a mode, a row and a task of zeros, which the arrays hold past their count
abbrev pub no_mode : Mode
no_mode = record { boundary = record { 0 = 0 }; length = record { 0 = 0 }; fallback = record { 0 = 0 } }

abbrev pub no_row : Row
no_row = record { speed = record { 0 = 0 }; deadline = record { 0 = 0 }; followers = 0; gaps = 0 }

abbrev pub no_task : Task
no_task = record { length = record { 0 = 0 }; period = record { 0 = 0 }; deadline = record { 0 = 0 }; jitter = record { 0 = 0 } }

-- a sheet of which nothing is read yet
unfoldable pub empty_sheet : Sheet
empty_sheet =
    record {
      label = record { start = 0; size = 0 };
      tally =
          record {
            last = 0;
            modes = 0;
            rows = 0;
            tasks = 0;
            top = record { 0 = 0 };
            fallback = record { 0 = 0 };
            fastest = record { 0 = 0 };
          };
      modes = replicate mode_limit no_mode;
      rows = replicate row_limit no_row;
      tasks = replicate task_limit no_task;
    }

-- how many bytes the shorter form of a mode has: a fall-back only where it is not the boundary
unfoldable pub short_size : Mode → ℕ
short_size mode = pick (eqb mode.fallback.0 mode.boundary.0) mode_size (mode_size + fallback_size)

-- and of a fixed task: a jitter only where it is not 0
unfoldable pub short_task_size : Task → ℕ
short_task_size task = pick (eqb task.jitter.0 0) task_size (task_size + jitter_size)
