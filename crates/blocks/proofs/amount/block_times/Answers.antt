-- `block_times` meets its contract: where one job is not enough for the first line, nor for any other, the rest is a follower's to do.
use native.Mathlib.Omega.{arith}
use Rattle.blocks.proofs.Leaving.{left_done}
use Rattle.blocks.proofs.amount.block_times.Goals as goal

pub returns : goal.returns
returns c = λ i h.
    left_done _ _ _ c.requires.proper_row (omega arith) _ _ c.args.line _ i _
    (rw (c.new-followers.ensures.bytes, c.new-followers.ensures.count, c.new-followers.ensures.rest, c.new-followers.ensures.place) at c.soonest_in_block.ensures i h)
    (omega (arith, c.if-line-back.false))
