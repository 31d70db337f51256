-- Each turn goes on to a later interval, at most one past the horizon.
use Rattle.std.proofs.Common.{◌+◌, ◌-◌, ◌≤◌}
use Rattle.printing.proofs.print_rises.Given as goal

abbrev pub invariant-loop-interval : goal.invariant-loop-interval
invariant-loop-interval g l = l.interval ≤ l.horizon + 1

abbrev pub decreases-loop-interval : goal.decreases-loop-interval
decreases-loop-interval g l = l.horizon + 1 - l.interval
