-- `fill_block` meets its contract. The lines before are right, and in the block the rows passed.
use native.Mathlib.Omega.{arith}
use Rattle.filling.proofs.Columns.{blocked_more, blocked_done}
use Rattle.filling.proofs.fill_block.Goals as goal

pub loop-k-preserved : goal.loop-k-preserved
loop-k-preserved g c =
    blocked_more _ _ _ _ _ _ c.loop-k.invariant _ _ c.loop-k-test.true c.block-column.ensures c.put_column.ensures

pub returns : goal.returns
returns g c = blocked_done _ _ _ _ _ _ c.loop-k.invariant (omega (arith, c.loop-k-test.false))
