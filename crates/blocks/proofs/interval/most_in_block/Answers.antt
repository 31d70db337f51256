-- `most_in_block` meets its contract. What is left of the walk and the most so far in each line go together.
use native.Mathlib.Omega.{arith}
use Rattle.tables.specs.Adding.{most_added}
use Rattle.tables.proofs.Followers.{walked_row, walked_gap}
use Rattle.blocks.proofs.Walking.{each_none, first_walked, each_all, each_more}
use Rattle.blocks.proofs.interval.most_in_block.Goals as goal

pub loop-row-init : goal.loop-row-init
loop-row-init c = each_none _ _ _ (omega (arith, c.ranges.followers))

pub raised-more-requires-clause-row_lt_n : goal.raised-more-requires-clause-row_lt_n
raised-more-requires-clause-row_lt_n c = walked_row (first_walked c.loop-row.invariant) c.in-Some.ensures

pub loop-row-preserved : goal.loop-row-preserved
loop-row-preserved c =
    let gap = walked_gap (first_walked c.loop-row.invariant) c.in-Some.ensures in
    each_more c.loop-row.invariant c.in-Some.ensures (λ i h. rw (c.raised-more.ensures i h, gap))

pub returns : goal.returns
unfolding most_added
returns c = each_all c.loop-row.invariant c.in_default.ensures
