use Rattle.overruns.proofs.Releases.{AdvancingInPlace}
use Rattle.overruns.proofs.running.Dues.advance.Given as goal

abbrev pub invariant-loop-number : goal.invariant-loop-number
invariant-loop-number l = AdvancingInPlace l.tasks l.initial.self.next l.self.next l.t l.number l.work
