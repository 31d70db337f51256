use Rattle.overruns.proofs.Sweeping.{Sweeping}
use Rattle.overruns.proofs.sweep.sweep.Given as goal

abbrev pub invariant-loop-t : goal.invariant-loop-t
invariant-loop-t g l = Sweeping (g.T.Sweepable.overrun_at l.n l.cells) l.tasks.tasks l.tasks.count l.dues.next l.fixed l.t
