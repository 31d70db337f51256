use Rattle.explain.proofs.TaskDemands.{demands_up_to}
use Rattle.overruns.specs.Releases.{counted_tasks}
use mathlib.Core.Path.{◌≡◌}
use Rattle.explain.proofs.demands.demands_at.Given as goal

abbrev pub invariant-loop-number : goal.invariant-loop-number
invariant-loop-number l = l.demands ≡ demands_up_to (counted_tasks l.tasks.tasks l.tasks.count) l.t l.number
