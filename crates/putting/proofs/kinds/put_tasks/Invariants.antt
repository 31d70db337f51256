use Rattle.written.specs.Lent.{tasks_lent}
use Rattle.putting.proofs.Standing.{Standing}
use Rattle.putting.proofs.UnbrokenColumns.{tasks_left}
use Rattle.putting.proofs.kinds.put_tasks.Given as goal

abbrev pub invariant-loop-number : goal.invariant-loop-number
invariant-loop-number l = Standing (tasks_lent l.tasks) (tasks_left l.tasks l.number) l.at l.initial.out l.out
