-- `soonest_in_block` meets its contract. What is left of the walk and the soonest so far in each line go together.
use native.Mathlib.Omega.{arith}
use Rattle.tables.specs.Amounts.{soonest_via}
use Rattle.tables.proofs.Followers.{walked_row, walked_gap}
use Rattle.blocks.proofs.Lanes.{lane_room, lane_cell}
use Rattle.blocks.proofs.Walking.{each_none, first_walked, each_all, each_more}
use Rattle.blocks.proofs.amount.soonest_in_block.Goals as goal

pub loop-row-init : goal.loop-row-init
loop-row-init c = each_none _ _ _ (omega (arith, c.ranges.followers))

pub sooner_by-sooner-requires : goal.sooner_by-sooner-requires
sooner_by-sooner-requires c = lane_room c.args.followers.count c.args.line _ _ (walked_row (first_walked c.loop-row.invariant) c.in-Some.ensures) c.requires.room

pub loop-row-preserved : goal.loop-row-preserved
loop-row-preserved c =
    let gap = walked_gap (first_walked c.loop-row.invariant) c.in-Some.ensures in
    each_more c.loop-row.invariant c.in-Some.ensures (λ i h. rw (c.sooner_by-sooner.ensures i h, gap, lane_cell c.args.followers.count c.args.cells.now c.args.line c.in-Some.row i))

pub returns : goal.returns
unfolding soonest_via
returns c = each_all c.loop-row.invariant c.in_default.ensures
