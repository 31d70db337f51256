-- `demands_at` meets its contract. The tasks passed have their demands in the array.
use mathlib.Core.Path.{◌≡◌, ◌∙◌}
use native.Mathlib.Omega.{arith}
use Rattle.explain.proofs.TaskDemands.{demand_more, demands_whole}
use Rattle.explain.proofs.demands.demands_at.Goals as goal

pub loop-number-preserved : goal.loop-number-preserved
loop-number-preserved c =
    let l = c.loop-number in
    demand_more _ _ c.args.tasks.now.proper c.args.t _ l.number _ c.loop-number-test.true l.invariant (rw c.task.ensures at c.fixed_of.ensures.0)

pub returns : goal.returns
returns c =
    let tasks = c.args.tasks.now in
    let all : c.loop-number.number ≡ tasks.count = omega arith in
    c.loop-number.invariant ∙ demands_whole _ _ tasks.proper c.args.t _ all
