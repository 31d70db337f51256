use Rattle.filling.specs.Reaching.{Put}
use Rattle.filling.proofs.put_column.Given as goal

abbrev pub invariant-loop-i : goal.invariant-loop-i
invariant-loop-i l = Put l.n l.line l.k l.column l.initial.cells l.cells l.i
