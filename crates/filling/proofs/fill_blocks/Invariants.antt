use Prim.Native.Nat.{◌*◌}
use Rattle.meaning.specs.Cells.{Filled}
use Rattle.beginning.specs.Beginning.{graph}
use Rattle.blocks.specs.Blocks.{block_size}
use Rattle.filling.proofs.fill_blocks.Given as goal

abbrev pub invariant-loop-block : goal.invariant-loop-block
invariant-loop-block g l = Filled l.rows.count (g.T.Table.right (graph l.rows.bytes.now)) l.initial.cells l.cells (l.rows.count * (l.block * block_size))
