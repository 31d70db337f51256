-- The cell by interval: no row reaches back into its own line, so the lines before are enough.
use native.Mathlib.Omega.{arith}
use Rattle.tables.proofs.Seen.{seen_proper}
use Rattle.filling.proofs.SheetCells.{deadline_some, cell_right, cell_fits}
use Rattle.filling.proofs.ByIntervalFillable.cell.Goals as goal

pub cell-requires-clause-proper_row : goal.cell-requires-clause-proper_row
cell-requires-clause-proper_row c = rw c.row-row.ensures (seen_proper c.args.rows.now c.args.k c.requires.counted)

pub cell-requires-clause-fits : goal.cell-requires-clause-fits
cell-requires-clause-fits c =
    let some = deadline_some c.args.rows.now c.args.k c.requires.counted in
    rw c.row-row.ensures (cell_fits c.args.rows.now _ c.requires.counted _ _ _ c.requires.has_lines (omega (arith, some)) c.requires.in_range)

pub returns : goal.returns
returns c =
    let some = deadline_some c.args.rows.now c.args.k c.requires.counted in
    rw (c.cell.ensures, c.row-row.ensures) (cell_right c.args.rows.now _ c.requires.counted _ _ _ c.requires.has_lines (omega (arith, some)))
