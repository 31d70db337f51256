use Prim.Native.Nat.{◌+◌}
use Rattle.meaning.specs.Demand.{no_time}
use Rattle.tables.specs.Amounts.{sooner_via}
use Rattle.blocks.proofs.Walking.{EachWalked}
use Rattle.blocks.proofs.amount.soonest_in_block.Given as goal

abbrev pub invariant-loop-row : goal.invariant-loop-row
invariant-loop-row l =
    EachWalked (λ i. sooner_via l.followers.bytes.now l.cells l.followers.rest l.followers.place l.followers.count (l.line + i)) no_time l.followers l.left l.soonest

abbrev pub decreases-loop-row : goal.decreases-loop-row
decreases-loop-row l = l.left.rest
