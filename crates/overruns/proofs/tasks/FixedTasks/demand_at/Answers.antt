-- `demand_at` meets its contract. The sum so far is that of the tasks passed.
use mathlib.Core.Path.{◌≡◌, refl, ◌∙◌}
use native.Mathlib.Omega.{arith}
use Rattle.meaning.specs.Fixed.{fixed_sum}
use Rattle.overruns.proofs.ProperTasks.{sum_more, sum_all}
use Rattle.overruns.proofs.tasks.FixedTasks.demand_at.Goals as goal

pub loop-number-init : goal.loop-number-init
unfolding fixed_sum
loop-number-init c = record { so_far = refl; few = omega arith }

pub loop-number-preserved : goal.loop-number-preserved
loop-number-preserved c =
    let l = c.loop-number in
    let next = sum_more _ _ c.args.self.now.proper l.number c.args.t c.loop-number-test.true in
    let asked = rw c.task.ensures at c.fixed_of-sum.ensures.0 in
    record { so_far = omega (arith, next, asked, l.invariant.so_far); few = omega (arith, c.fixed_of-sum.ensures.1) }

pub returns : goal.returns
returns c =
    let self = c.args.self.now in
    let all : c.loop-number.number ≡ self.count = omega arith in
    rw all at c.loop-number.invariant.so_far ∙ sum_all _ _ self.proper c.args.t
