-- A block by interval: the row's deadline is a block at least, so the lines before the block are enough for each of its lines.
use native.Mathlib.Omega.{arith}
use Rattle.tables.proofs.Seen.{seen_proper}
use Rattle.filling.proofs.SheetCells.{cell_right, cell_fits}
use Rattle.filling.proofs.ByIntervalFillable.block.Goals as goal

pub block_cells-requires-clause-proper_row : goal.block_cells-requires-clause-proper_row
block_cells-requires-clause-proper_row c = rw c.row-row.ensures (seen_proper c.args.rows.now c.args.k c.requires.counted)

pub block_cells-requires-clause-fits : goal.block_cells-requires-clause-fits
block_cells-requires-clause-fits c i h =
    rw c.row-row.ensures (cell_fits c.args.rows.now _ c.requires.counted _ _ _ c.requires.has_lines (omega (arith, c.requires.reaches_back)) (omega arith))

pub returns : goal.returns
returns c i h =
    rw (c.block_cells.ensures i h, c.row-row.ensures) (cell_right c.args.rows.now _ c.requires.counted _ _ _ c.requires.has_lines (omega (arith, c.requires.reaches_back)))
