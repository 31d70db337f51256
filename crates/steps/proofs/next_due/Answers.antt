-- `next_due` meets its contract: it answers with the interval at which the task's next job falls due.
use Prim.Native.Nat.{◌+◌, ◌-◌}
use mathlib.Core.Path.{◌≡◌}
use native.Mathlib.Omega.{arith}
use Rattle.sheet.specs.Meaning.{times_of}
use Rattle.overruns.proofs.Releases.{due_first}
use Rattle.steps.proofs.Releases.{due_after_lem, next_rise_is_due}
use Rattle.steps.proofs.next_due.Goals.{After-first_due-first}
use Rattle.steps.proofs.next_due.Goals as goal

-- the first job falls due its jitter before its deadline
first_job : (c : After-first_due-first) → c.first_due-first.result + c.args.task.jitter.0 ≡ c.args.task.deadline.0
first_job c = omega (arith, c.first_due-first.ensures, c.requires.proper_task.jitter)

pub returns-then-from-first : goal.returns-then-from-first
returns-then-from-first c =
    let task = times_of c.args.task in
    let e = first_job (goal.at.returns-then-from-first c).After-first_due-first in
    let due = due_first task (c.args.from - 1) c.first_due-first.result e (omega (arith, c.if-from-first.true, c.requires.from_inside)) in
    rw c.min.ensures (next_rise_is_due task c.requires.proper_task.length.0 c.requires.proper_task.period.0 c.args.from c.requires.from_inside.0 _ due c.args.horizon c.requires.from_inside.1)

pub returns : goal.returns
returns c =
    let task = times_of c.args.task in
    let e = first_job (goal.at.returns c).After-first_due-first in
    let due = due_after_lem task c.requires.proper_task.period.0 c.first_due-first.result c.args.from e c.if-from-first.false in
    rw c.min-2.ensures (next_rise_is_due task c.requires.proper_task.length.0 c.requires.proper_task.period.0 c.args.from c.requires.from_inside.0 _ due c.args.horizon c.requires.from_inside.1)
