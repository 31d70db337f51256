-- `due_work` meets its contract.
use native.Mathlib.Omega.{arith}
use Rattle.blocks.proofs.Raising.{due_late, due_sum}
use Rattle.blocks.proofs.interval.due_work.Goals as goal

pub returns-then-s-deadline : goal.returns-then-s-deadline
returns-then-s-deadline c = due_late _ _ _ _ (omega (arith, c.if-s-deadline.true))

pub overflow_add-result : goal.overflow_add-result
overflow_add-result c =
    let a = c.args in
    omega (arith, due_sum a.deadline a.work a.s a.most c.if-s-deadline.false, c.requires)

pub returns : goal.returns
returns c = due_sum _ _ _ _ c.if-s-deadline.false
