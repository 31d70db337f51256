-- A row of a sheet as `Rows` has it: with its job length, by its number.
use Rattle.std.specs.Prelude.{ℕ, get_or}
use Rattle.fields.specs.Reading.{row_at}
use Rattle.fields.specs.declared.values.Row.{Row}
use Rattle.tables.specs.declared.rows.Rows.{Rows}

-- the row of a number
abbrev pub row_in : Rows → ℕ → Row
row_in rows number = row_at rows.bytes.now (get_or rows.places.now number 0)

-- and its job length
abbrev pub work_in : Rows → ℕ → ℕ
work_in rows number = get_or rows.lengths number 0
