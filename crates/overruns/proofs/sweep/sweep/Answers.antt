-- `sweep` meets its contract. Fixed demand runs along with the intervals, and none of those passed is overrun.
use Prim.Native.Nat.{◌+◌, ◌^◌, ◌<◌}
use native.Mathlib.Omega.{arith}
use Rattle.overruns.proofs.Releases.{counted_waiting}
use Rattle.overruns.proofs.Sweeping.{Sweeping, sweeping_start, fixed_few, sweeping_on, sweeping_overrun, sweeping_holds}
use Rattle.overruns.proofs.sweep.sweep.Given.{Over}
use Rattle.overruns.proofs.sweep.sweep.Goals.{After-advance-fixed, Else-overrun_at}
use Rattle.overruns.proofs.sweep.sweep.Goals as goal

pub loop-t-init : goal.loop-t-init
loop-t-init g c = sweeping_start _ _ _ c.args.tasks.now.proper _ (counted_waiting _ _ c.args.tasks.now.proper _ c.new-dues.ensures.waiting)

-- fixed demand at the interval
small : (g : Over) (c : After-advance-fixed g) → c.loop-t.fixed + c.advance-fixed.result < 2 ^ 48
small g c = fixed_few _ _ _ c.args.tasks.now.proper c.args.horizon _ _ _ c.loop-t.invariant _ _ c.advance-fixed.ensures.advanced (omega (arith, c.requires.in_range, c.loop-t-test.true))

pub overflow_add-fixed : goal.overflow_add-fixed
overflow_add-fixed g c = omega (arith, small g c)

pub overrun_at-requires-clause-fixed_bound : goal.overrun_at-requires-clause-fixed_bound
overrun_at-requires-clause-fixed_bound g c = small g (goal.at.overrun_at-requires-clause-fixed_bound g c).After-advance-fixed

pub returns-then-overrun_at : goal.returns-then-overrun_at
returns-then-overrun_at g c = λ graph sound is lines.
    sweeping_overrun _ _ _ c.args.tasks.now.proper _ _ _ _ c.loop-t.invariant _ _ c.advance-fixed.ensures.advanced c.loop-t-test.true
    (rw (← c.overrun_at.ensures) c.if-overrun_at.true) graph (g.met.T.Sweepable.is_test graph sound _ is _ _ _ c.requires.in_range lines)

-- it is not overrun
passed : (g : Over) (c : Else-overrun_at g)
    → Sweeping (g.T.Sweepable.overrun_at c.args.n c.args.cells.now) c.args.tasks.now.tasks c.args.tasks.now.count c.advance-fixed.new.self.next (c.loop-t.fixed + c.advance-fixed.result) (c.loop-t.t + 1)
passed g c =
    sweeping_on _ _ _ c.args.tasks.now.proper c.args.horizon _ _ _ c.loop-t.invariant _ _ c.advance-fixed.ensures.advanced
    (rw (← c.overrun_at.ensures) c.if-overrun_at.false)

pub loop-t-preserved : goal.loop-t-preserved
loop-t-preserved g c = passed g (goal.at.loop-t-preserved g c).Else-overrun_at

pub returns-else-overrun_at : goal.returns-else-overrun_at
returns-else-overrun_at g c = λ graph sound is lines.
    sweeping_holds _ _ _ c.args.tasks.now.proper _ _ _ _ (passed g (goal.at.returns-else-overrun_at g c).Else-overrun_at) (omega arith) graph
    (g.met.T.Sweepable.is_test graph sound _ is _ _ _ c.requires.in_range lines)
