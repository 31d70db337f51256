-- `put_column` meets its contract. The cells passed are put.
use native.Mathlib.Omega.{arith}
use Rattle.filling.proofs.Columns.{put_more}
use Rattle.filling.proofs.put_column.Goals as goal

pub loop-i-preserved : goal.loop-i-preserved
loop-i-preserved c = put_more _ _ _ _ _ _ _ c.requires.counted (grind arith) c.loop-i.invariant
