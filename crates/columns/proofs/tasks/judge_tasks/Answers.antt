-- `judge_tasks` meets its contract. The fixed tasks that are left decide as all of them do.
use native.Mathlib.Omega.{arith}
use mathlib.Core.Path.{◌∙◌, sym}
use Rattle.std.proofs.lemmas.Result.{err_from_is_err_and}
use Rattle.written.specs.Judging.{count_entry}
use Rattle.written.proofs.EntriesFrom.{tasks_next, tasks_end, tasks_part}
use Rattle.written.proofs.EntriesKept.{entry_kept, task_says}
use Rattle.columns.proofs.Onward.{onward_next, onward_stop, onward_end}
use Rattle.columns.proofs.tasks.judge_tasks.Goals as goal
use Rattle.columns.proofs.tasks.judge_tasks.Goals.{then-tasks-count-via-then-tasks-count, then-tasks-count-via-else-tasks-count+then-tasks-count-2, then-tasks-count-via-else-tasks-count+else-tasks-count-2+then-tasks-count-3}

pub returns-in_err-judge_one_task : goal.returns-in_err-judge_one_task
returns-in_err-judge_one_task c =
    let l = c.loop-at in
    let t = c.args.tasks in
    let next = tasks_next t.lengths.now t.periods.now t.deadlines.now t.jitters.now l.at (omega arith) (omega arith) (omega arith) (omega arith) in
    let told = err_from_is_err_and c.from_residual.result c.from_residual.ensures.1 in
    rw (told.1, told.2) (onward_stop _ _ _ _ _ (rw next at l.invariant) _ c.in_err-judge_one_task.ensures)

pub count_task-so_far-requires : goal.count_task-so_far-requires
count_task-so_far-requires c = task_says _ _ (entry_kept _ _ (sym c.in_ok-judge_one_task.ensures))

pub loop-at-preserved : goal.loop-at-preserved
unfolding count_entry
loop-at-preserved c =
    let l = c.loop-at in
    let t = c.args.tasks in
    let next = tasks_next t.lengths.now t.periods.now t.deadlines.now t.jitters.now l.at (omega arith) (omega arith) (omega arith) (omega arith) in
    rw c.count_task-so_far.ensures (onward_next _ _ _ _ _ (rw next at l.invariant) c.in_ok-judge_one_task.ensures)

pub returns-then-tasks-count : goal.returns-then-tasks-count
returns-then-tasks-count c =
    let l = c.loop-at in
    let t = c.args.tasks in
    let parted =
    tasks_part t.lengths.now t.periods.now t.deadlines.now t.jitters.now l.at (λ one other third last. omega arith)
    (λ one other third last. elim c.then-tasks-count.branch [
      | then-tasks-count-via-then-tasks-count w ↦ omega arith
      | then-tasks-count-via-else-tasks-count+then-tasks-count-2 w ↦ omega arith
      | then-tasks-count-via-else-tasks-count+else-tasks-count-2+then-tasks-count-3 w ↦ omega arith
    ]) in
    c.cut.ensures ∙ sym (rw parted at l.invariant)

pub returns : goal.returns
returns c =
    let l = c.loop-at in
    let t = c.args.tasks in
    let over = tasks_end t.lengths.now t.periods.now t.deadlines.now t.jitters.now l.at (omega arith) (omega arith) (omega arith) (omega arith) in
    onward_end _ _ _ (rw over at l.invariant)
