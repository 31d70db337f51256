use Rattle.explain.proofs.Narrowing.{LookingOver}
use Rattle.explain.proofs.looking.look_over.Given as goal

abbrev pub invariant-loop-t : goal.invariant-loop-t
invariant-loop-t l = LookingOver l.n l.cells l.tasks.tasks l.tasks.count l.horizon l.dues.next l.fixed l.least l.at l.t
