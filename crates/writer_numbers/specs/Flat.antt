-- An answer of `write`, and a sheet's values by number, as the structs that C is given.
use Rattle.std.specs.Prelude.{ℕ, Result, Ok, Err}
use Rattle.fields.specs.Refusals.{rule_number}
use Rattle.fields.specs.declared.refusal.Refusal.{Refusal}
use Rattle.fields.specs.declared.values.Mode.{Mode}
use Rattle.fields.specs.declared.values.Task.{Task}
use Rattle.contents.specs.declared.RowValues.{RowValues}
use Rattle.writer_numbers.specs.declared.WriteForC.{WriteForC}
use Rattle.writer_numbers.specs.declared.ModeForC.{ModeForC}
use Rattle.writer_numbers.specs.declared.RowForC.{RowForC}
use Rattle.writer_numbers.specs.declared.TaskForC.{TaskForC}

-- how many bytes were written, or why none was
abbrev pub flat_written : Result ℕ Refusal → WriteForC
flat_written (Ok size) = record { number = 0; place = 0; size = size }
flat_written (Err refusal) = record { number = rule_number refusal.reason; place = refusal.place; size = 0 }

-- a mode, a row and a fixed task as numbers
abbrev pub flat_mode : Mode → ModeForC
flat_mode mode = record { boundary = mode.boundary.0; length = mode.length.0; fallback = mode.fallback.0 }

abbrev pub flat_row : RowValues → RowForC
flat_row row = record { speed = row.speed.0; deadline = row.deadline.0; followers = row.followers; length = row.length.0 }

abbrev pub flat_task : Task → TaskForC
flat_task task = record { length = task.length.0; period = task.period.0; deadline = task.deadline.0; jitter = task.jitter.0 }
