-- A block by amount: the job length is a block at least, so the lines before the block are enough for each of its lines.
use native.Mathlib.Omega.{arith}
use Rattle.tables.proofs.Seen.{seen_proper}
use Rattle.filling.proofs.SheetCells.{reach_is, time_right}
use Rattle.filling.proofs.ByAmountFillable.block.Goals as goal

pub block_times-requires-clause-proper_row : goal.block_times-requires-clause-proper_row
block_times-requires-clause-proper_row c = rw c.row-row.ensures (seen_proper c.args.rows.now c.args.k c.requires.counted)

pub block_times-requires-clause-long_enough : goal.block_times-requires-clause-long_enough
block_times-requires-clause-long_enough c =
    omega (arith, c.requires.reaches_back, reach_is c.args.rows.now _ c.requires.counted (λ _ work. work))

pub returns : goal.returns
returns c i h =
    rw (c.block_times.ensures i h, c.row-row.ensures) (time_right c.args.rows.now _ c.requires.counted _ _ _ c.requires.has_lines (omega (arith, c.requires.reaches_back)))
