-- `overrun_at` meets its contract: both demands together fit.
use Prim.Native.Nat.{◌^◌, ◌<◌}
use native.Mathlib.Omega.{arith}
use Rattle.overruns.proofs.ProperTasks.{tasks_fit}
use Rattle.explain.proofs.answering.overrun_at.Goals as goal

pub overflow_add-result : goal.overflow_add-result
overflow_add-result c =
    let few : c.args.fixed < 2 ^ 48 = rw c.requires.fixed_demand (tasks_fit _ _ c.args.tasks.now.proper _ c.requires.in_range) in
    omega (arith, few, c.demand_of-engine.type_inv)
