-- `judge_field` meets its contract: the first rules, then those behind.
use Rattle.std.proofs.lemmas.Result.{err_from_is_err_and}
use Rattle.fields.proofs.Deciding.{pass, stop}
use Rattle.sheet.proofs.judging.judge_field.Goals as goal

pub returns-in_err-judge_head : goal.returns-in_err-judge_head
returns-in_err-judge_head c =
    let told = err_from_is_err_and c.from_residual.result c.from_residual.ensures.1 in
    rw (told.1, told.2) (stop _ _ _ c.in_err-judge_head.ensures)

pub returns : goal.returns
returns c = pass _ _ _ c.in_ok-judge_head.ensures c.judge_content.ensures
