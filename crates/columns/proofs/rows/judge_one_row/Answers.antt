-- `judge_one_row` meets its contract: the first rules, then those of the row's numbers and gaps.
use Rattle.std.proofs.lemmas.Result.{err_from_is_err_and}
use Rattle.fields.proofs.Deciding.{stop, pass}
use Rattle.rules.specs.Rules.{row_rules}
use Rattle.written.specs.Judging.{entry_rules}
use Rattle.columns.proofs.rows.judge_one_row.Goals as goal

pub returns-in_err-judge_field : goal.returns-in_err-judge_field
unfolding entry_rules
returns-in_err-judge_field c =
    let told = err_from_is_err_and c.from_residual.result c.from_residual.ensures.1 in
    rw (told.1, told.2, ← c.unlike_set-unlike.ensures) (stop _ _ _ c.in_err-judge_field.ensures)

pub returns : goal.returns
unfolding entry_rules row_rules
returns c =
    rw (← c.unlike_set-unlike.ensures, ← c.one_shorter-zero_gap.ensures, ← c.one_shorter-short_gap.ensures)
    (pass _ _ _ c.in_ok-judge_field.ensures c.judge_row.ensures)
