-- The cell by amount: no row reaches back into its own line, so the lines before are enough.
use native.Mathlib.Omega.{arith}
use Rattle.tables.proofs.Seen.{seen_proper, seen_work}
use Rattle.filling.proofs.SheetCells.{length_some, time_right}
use Rattle.filling.proofs.ByAmountFillable.cell.Goals as goal

pub least_cell-requires-clause-proper_row : goal.least_cell-requires-clause-proper_row
least_cell-requires-clause-proper_row c = rw c.row-row.ensures (seen_proper c.args.rows.now c.args.k c.requires.counted)

pub least_cell-requires-clause-some_work : goal.least_cell-requires-clause-some_work
least_cell-requires-clause-some_work c = seen_work c.args.rows.now c.args.k c.requires.counted

pub returns : goal.returns
returns c =
    let some = length_some c.args.rows.now c.args.k c.requires.counted in
    rw (c.least_cell.ensures, c.row-row.ensures) (time_right c.args.rows.now _ c.requires.counted _ _ _ c.requires.has_lines (omega (arith, some)))
