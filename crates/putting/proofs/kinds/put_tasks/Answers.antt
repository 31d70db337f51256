-- `put_tasks` meets its contract: each turn writes the fixed task of its number behind those before it.
use Rattle.putting.proofs.Standing.{next_room, next_standing, all_standing}
use Rattle.putting.proofs.UnbrokenColumns.{task_there, task_first, tasks_over}
use Rattle.putting.proofs.kinds.put_tasks.Goals as goal

pub bounds-tasks-number-in-loop-number : goal.bounds-tasks-number-in-loop-number
bounds-tasks-number-in-loop-number c = (task_there c.args.tasks _ c.loop-number.invariant.unbroken c.loop-number-test.true).0

pub bounds-tasks-number-in-loop-number-2 : goal.bounds-tasks-number-in-loop-number-2
bounds-tasks-number-in-loop-number-2 c = (task_there c.args.tasks _ c.loop-number.invariant.unbroken c.loop-number-test.true).1

pub bounds-tasks-number-in-loop-number-3 : goal.bounds-tasks-number-in-loop-number-3
bounds-tasks-number-in-loop-number-3 c = (task_there c.args.tasks _ c.loop-number.invariant.unbroken c.loop-number-test.true).2

pub put_task-at-requires : goal.put_task-at-requires
put_task-at-requires c =
    let l = c.loop-number in
    next_room l.invariant (task_first c.args.tasks _ l.invariant.unbroken c.loop-number-test.true) l.auto.out c.requires.room

pub loop-number-preserved : goal.loop-number-preserved
loop-number-preserved c =
    let l = c.loop-number in
    let call = c.put_task-at in
    next_standing l.invariant (task_first c.args.tasks _ l.invariant.unbroken c.loop-number-test.true) call.result call.new.out call.ensures.size call.ensures.put

pub returns : goal.returns
returns c =
    let all = all_standing c.loop-number.invariant (tasks_over c.args.tasks _ c.loop-number.invariant.unbroken c.loop-number-test.false) in
    record { size = all.far; put = all.put }
