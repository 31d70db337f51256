use Rattle.written.specs.Lent.{tasks_lent}
use Rattle.written.proofs.EntriesFrom.{tasks_from}
use Rattle.columns.proofs.Onward.{Onward}
use Rattle.columns.proofs.tasks.judge_tasks.Given as goal

abbrev pub invariant-loop-at : goal.invariant-loop-at
invariant-loop-at l =
    let tasks = l.tasks in
    Onward l.initial.so_far (tasks_lent tasks) l.so_far (tasks_from tasks.lengths.now tasks.periods.now tasks.deadlines.now tasks.jitters.now l.at)
