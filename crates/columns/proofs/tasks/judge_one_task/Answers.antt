-- `judge_one_task` meets its contract: the first rules, then those of the fixed task's numbers.
use Rattle.std.proofs.lemmas.Result.{err_from_is_err_and}
use Rattle.fields.proofs.Deciding.{pass, stop}
use Rattle.written.specs.Judging.{entry_rules}
use Rattle.columns.proofs.tasks.judge_one_task.Goals as goal

pub returns-in_err-judge_field : goal.returns-in_err-judge_field
unfolding entry_rules
returns-in_err-judge_field c =
    let told = err_from_is_err_and c.from_residual.result c.from_residual.ensures.1 in
    rw (told.1, told.2, ← c.short_size-size.ensures) (stop _ _ _ c.in_err-judge_field.ensures)

pub returns : goal.returns
unfolding entry_rules
returns c = rw (← c.short_size-size.ensures) (pass _ _ _ c.in_ok-judge_field.ensures c.judge_task.ensures)
