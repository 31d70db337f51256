-- The values of a sheet with one field more.
use Rattle.std.specs.Prelude.{ℕ, set}
use Rattle.rules.specs.Counting.{count_label, count_mode, count_row, count_task}
use Rattle.fields.specs.declared.values.Mode.{Mode}
use Rattle.fields.specs.declared.values.Row.{Row}
use Rattle.fields.specs.declared.values.Task.{Task}
use Rattle.fields.specs.declared.values.Sheet.{Sheet}

-- the sheet with its label: a part of the file
abbrev pub with_label : Sheet → ℕ → ℕ → Sheet
with_label sheet start size =
    record {
      label = record { start = start; size = size };
      tally = count_label sheet.tally;
      modes = sheet.modes;
      rows = sheet.rows;
      tasks = sheet.tasks;
    }

-- the sheet with one mode more
abbrev pub with_mode : Sheet → Mode → Sheet
with_mode sheet mode =
    record {
      label = sheet.label;
      tally = count_mode sheet.tally mode;
      modes = set sheet.modes sheet.tally.modes mode;
      rows = sheet.rows;
      tasks = sheet.tasks;
    }

-- the sheet with one row more
abbrev pub with_row : Sheet → Row → Sheet
with_row sheet row =
    record {
      label = sheet.label;
      tally = count_row sheet.tally row.speed;
      modes = sheet.modes;
      rows = set sheet.rows sheet.tally.rows row;
      tasks = sheet.tasks;
    }

-- the sheet with one fixed task more
abbrev pub with_task : Sheet → Task → Sheet
with_task sheet task =
    record {
      label = sheet.label;
      tally = count_task sheet.tally;
      modes = sheet.modes;
      rows = sheet.rows;
      tasks = set sheet.tasks sheet.tally.tasks task;
    }
