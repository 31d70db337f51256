-- The values that lent columns hold, and the fields that those of each kind make.
use Rattle.std.specs.Prelude.{List}
use Rattle.written.specs.Values.{Values, Entry, mode_entries, row_entries, task_entries, values_from}
use Rattle.written.specs.declared.Columns.{Columns}
use Rattle.written.specs.declared.ModeColumns.{ModeColumns}
use Rattle.written.specs.declared.RowColumns.{RowColumns}
use Rattle.written.specs.declared.TaskColumns.{TaskColumns}

-- a mode for each boundary, job length and fall-back
abbrev pub modes_lent : ModeColumns → List Entry
modes_lent modes = mode_entries modes.boundaries.now modes.lengths.now modes.fallbacks.now

-- a row for each speed, deadline and follower set, with its gaps
abbrev pub rows_lent : RowColumns → List Entry
rows_lent rows = row_entries rows.speeds.now rows.deadlines.now rows.sets.now rows.gaps.now

-- a fixed task for each length, period, deadline and jitter
abbrev pub tasks_lent : TaskColumns → List Entry
tasks_lent tasks = task_entries tasks.lengths.now tasks.periods.now tasks.deadlines.now tasks.jitters.now

-- all values
abbrev pub values_lent : Columns → Values
values_lent columns =
    let modes = columns.modes in
    let rows = columns.rows in
    let tasks = columns.tasks in
    values_from columns.label.now
    modes.boundaries.now modes.lengths.now modes.fallbacks.now
    rows.speeds.now rows.deadlines.now rows.sets.now rows.gaps.now
    tasks.lengths.now tasks.periods.now tasks.deadlines.now tasks.jitters.now
