use Prim.Native.Nat.{◌+◌, ◌*◌, ◌≤◌}
use Rattle.overruns.specs.Releases.{counted_tasks}
use Rattle.meaning.specs.Demand.{longest_time}
use Rattle.meaning.specs.Fixed.{fixed_sum}
use lib.ListN.{take}
use mathlib.Core.Path.{◌≡◌}
use Rattle.overruns.proofs.tasks.FixedTasks.demand_at.Given as goal

abbrev pub invariant-loop-number : goal.invariant-loop-number
invariant-loop-number l = record {
  so_far : l.sum ≡ fixed_sum (take l.number (counted_tasks l.self.tasks l.self.count)) l.t;
  few : l.sum ≤ l.number * (longest_time * (longest_time + 1));
}
