-- A row of a sheet as `Rows` has it: what holds of it is what holds of the sheet's row.
use mathlib.Core.Path.{sym}
use Prim.Native.Nat.{ℕ, ◌≤◌, ◌<◌}
use native.Mathlib.Omega.{arith}
use Rattle.sheet.specs.Judging.{judged}
use Rattle.sheet.specs.Meaning.{graph_of}
use Rattle.sheet.specs.Proper.{ProperRow}
use Rattle.tables.specs.Seen.{row_in, work_in}
use Rattle.tables.specs.declared.rows.Rows.{Rows}

module _ (rows : Rows) (number : ℕ) (counted : number < rows.count) where
  -- the sheet has the row
  in_sheet : number < (judged rows.bytes.now).sheet.tally.rows
  in_sheet = omega (arith, rows.laid.rows)

  -- its values are those of an accepted sheet
  pub seen_proper : ProperRow rows.bytes.now rows.count (row_in rows number)
  seen_proper = rw (sym (rows.laid.row number counted), rows.laid.rows) (rows.laid.ready.proper.each_row number in_sheet)

  -- its job length is some work
  pub seen_work : 1 ≤ work_in rows number
  unfolding graph_of
  seen_work = rw (rows.laid.length number counted) (rows.laid.ready.sound.length_positive number in_sheet)
