-- `judge_end` meets its contract: the first rules, then that of the follower sets.
use Rattle.std.proofs.lemmas.Result.{err_from_is_err_and}
use Rattle.fields.proofs.Deciding.{judging, pass, stop}
use Rattle.fields.specs.Deciding.{first_broken}
use Rattle.written.specs.Judging.{end_rules}
use Rattle.columns.proofs.judge_end.Goals as goal

pub returns-in_err-judge_field : goal.returns-in_err-judge_field
unfolding end_rules
returns-in_err-judge_field c =
    let told = err_from_is_err_and c.from_residual.result c.from_residual.ensures.1 in
    rw (told.1, told.2) (stop _ _ _ c.in_err-judge_field.ensures)

pub returns-then-unknown_among : goal.returns-then-unknown_among
unfolding end_rules first_broken
returns-then-unknown_among c = pass _ _ _ c.in_ok-judge_field.ensures (search judging)

pub returns : goal.returns
unfolding end_rules first_broken
returns c = pass _ _ _ c.in_ok-judge_field.ensures (search judging)
