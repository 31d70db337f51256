use Rattle.witness.proofs.Leading.{Sought}
use Rattle.witness.proofs.next_row.Given as goal

abbrev pub invariant-loop-next : goal.invariant-loop-next
invariant-loop-next l = Sought l.cells l.n l.left l.want l.initial.followers l.followers

abbrev pub decreases-loop-next : goal.decreases-loop-next
decreases-loop-next l = l.followers.rest
