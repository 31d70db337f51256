-- `blocked_lines` meets its contract. No row passed reaches back by less than a block.
use native.Mathlib.Omega.{arith}
use borrow.Author.Count.{below_more}
use Rattle.filling.proofs.SheetCells.{reach_is}
use Rattle.filling.proofs.blocked_lines.Goals as goal

pub loop-k-preserved : goal.loop-k-preserved
loop-k-preserved g c =
    let is = reach_is c.args.rows.now c.loop-k.k c.loop-k-test.true g.T.Fillable.reach in
    let reach = rw c.row.ensures at c.reach.ensures in
    below_more _ _ c.loop-k.invariant (omega (arith, is, reach, c.if-reach-lt-BLOCK.false))
