-- `most_added` meets its contract. What is left of the walk and the most so far go together.
use native.Mathlib.Omega.{arith}
use Rattle.tables.specs.Adding.{most_added}
use Rattle.tables.proofs.Followers.{walked_none, walked_all, walked_gap, walked_more, lowest_row, taken_past}
use Rattle.tables.proofs.interval.most_added.Goals as goal

pub loop-row-init : goal.loop-row-init
loop-row-init c = walked_none _ _ _ (omega (arith, c.ranges.followers))

pub added-requires-clause-row_lt_n : goal.added-requires-clause-row_lt_n
added-requires-clause-row_lt_n c = lowest_row c.loop-row.invariant c.in-Some.ensures

pub pass-requires : goal.pass-requires
pass-requires c = c.in-Some.ensures.some

pub loop-row-preserved : goal.loop-row-preserved
loop-row-preserved c =
    let taken = taken_past c.in-Some.ensures c.pass.ensures in
    let gap = walked_gap c.loop-row.invariant taken in
    walked_more c.loop-row.invariant taken (rw (c.max-most.ensures, c.added.ensures, gap))

pub returns : goal.returns
unfolding most_added
returns c = walked_all c.loop-row.invariant c.in_default.ensures
