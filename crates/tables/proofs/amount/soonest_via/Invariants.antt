use Rattle.tables.proofs.Followers.{Walked}
use Rattle.tables.specs.Amounts.{sooner_via}
use Rattle.meaning.specs.Computed.{time_or_none}
use Rattle.meaning.specs.Demand.{no_time}
use Rattle.tables.proofs.amount.soonest_via.Given as goal

abbrev pub invariant-loop-row : goal.invariant-loop-row
invariant-loop-row l =
    Walked (sooner_via l.followers.bytes.now l.cells l.followers.rest l.followers.place l.followers.count l.line) no_time l.followers l.left (time_or_none l.soonest)

abbrev pub decreases-loop-row : goal.decreases-loop-row
decreases-loop-row l = l.left.rest
