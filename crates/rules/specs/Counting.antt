-- What a field that breaks no rule adds to the tally.
use Rattle.std.specs.Prelude.{◌+◌}
use Rattle.fields.specs.declared.units.Rpm.{Rpm}
use Rattle.fields.specs.declared.values.Mode.{Mode}
use Rattle.fields.specs.declared.values.Tally.{Tally}

-- the label is read
abbrev pub count_label : Tally → Tally
count_label tally =
    record {
      last = 1;
      modes = tally.modes;
      rows = tally.rows;
      tasks = tally.tasks;
      top = tally.top;
      fallback = tally.fallback;
      fastest = tally.fastest;
    }

-- one mode more, with its boundary and fall-back
abbrev pub count_mode : Tally → Mode → Tally
count_mode tally mode =
    record {
      last = 2;
      modes = tally.modes + 1;
      rows = tally.rows;
      tasks = tally.tasks;
      top = mode.boundary;
      fallback = mode.fallback;
      fastest = tally.fastest;
    }

-- one row more, with its speed
abbrev pub count_row : Tally → Rpm → Tally
count_row tally speed =
    record {
      last = 3;
      modes = tally.modes;
      rows = tally.rows + 1;
      tasks = tally.tasks;
      top = tally.top;
      fallback = tally.fallback;
      fastest = speed;
    }

-- one fixed task more
abbrev pub count_task : Tally → Tally
count_task tally =
    record {
      last = 4;
      modes = tally.modes;
      rows = tally.rows;
      tasks = tally.tasks + 1;
      top = tally.top;
      fallback = tally.fallback;
      fastest = tally.fastest;
    }
