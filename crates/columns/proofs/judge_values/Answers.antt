-- `judge_values` meets its contract: the label, the modes, the rows, the fixed tasks and the end field are judged in this order.
use mathlib.Core.List.{◌++◌}
use mathlib.Core.Path.{◌≡◌, ◌∙◌, refl, sym}
use Rattle.std.specs.Prelude.{Ok}
use Rattle.std.proofs.lemmas.Result.{err_from_is_err_and}
use Rattle.fields.specs.Deciding.{first_broken}
use Rattle.fields.specs.Values.{empty_sheet}
use Rattle.written.specs.Judging.{no_tally, entry_rules, count_entry}
use Rattle.written.specs.Lent.{values_lent, modes_lent, rows_lent, tasks_lent}
use Rattle.written.specs.Values.{LabelEntry, entries}
use Rattle.written.specs.declared.Columns.{Columns}
use Rattle.columns.proofs.Onward.{Onward, onward_next, onward_stop}
use Rattle.columns.proofs.Stretches.{stretch_stop, stretch_next, values_stop, values_end}
use Rattle.columns.proofs.judge_values.Goals as goal

-- behind a label that breaks no rule the modes are to be judged, then the rows, then the fixed tasks
behind_label : (columns : Columns) → let values = values_lent columns in
    Ok tt ≡ first_broken (entry_rules no_tally (LabelEntry values.label))
    → Onward no_tally (entries values) (count_entry no_tally (LabelEntry values.label)) (modes_lent columns.modes ++ (rows_lent columns.rows ++ tasks_lent columns.tasks))
unfolding entries
behind_label columns none = onward_next no_tally (entries (values_lent columns)) no_tally _ _ refl none

pub returns-in_err-judge_label : goal.returns-in_err-judge_label
unfolding entries empty_sheet
returns-in_err-judge_label c =
    let values = values_lent c.args.columns in
    let told = err_from_is_err_and c.from_residual.result c.from_residual.ensures.1 in
    rw (told.1, told.2) (values_stop values _ (onward_stop no_tally (entries values) no_tally _ _ refl _ c.in_err-judge_label.ensures))

pub returns-in_err-tally : goal.returns-in_err-tally
unfolding count_entry empty_sheet
returns-in_err-tally c =
    let columns = c.args.columns in
    let label = rw (← c.count_label-tally.ensures) at (behind_label columns c.in_ok-judge_label.ensures) in
    let told = err_from_is_err_and c.from_residual-in_err-tally.result c.from_residual-in_err-tally.ensures.1 in
    rw (told.1, told.2) (values_stop (values_lent columns) _ (stretch_stop _ _ _ _ _ label _ c.in_err-tally.ensures))

pub returns-in_err-tally-2 : goal.returns-in_err-tally-2
unfolding count_entry empty_sheet
returns-in_err-tally-2 c =
    let columns = c.args.columns in
    let label = rw (← c.count_label-tally.ensures) at (behind_label columns c.in_ok-judge_label.ensures) in
    let modes = stretch_next _ _ _ _ _ label _ c.in_ok-tally.ensures in
    let told = err_from_is_err_and c.from_residual-in_err-tally-2.result c.from_residual-in_err-tally-2.ensures.1 in
    rw (told.1, told.2) (values_stop (values_lent columns) _ (stretch_stop _ _ _ _ _ modes _ c.in_err-tally-2.ensures))

pub returns-in_err-tally-3 : goal.returns-in_err-tally-3
unfolding count_entry empty_sheet
returns-in_err-tally-3 c =
    let columns = c.args.columns in
    let label = rw (← c.count_label-tally.ensures) at (behind_label columns c.in_ok-judge_label.ensures) in
    let modes = stretch_next _ _ _ _ _ label _ c.in_ok-tally.ensures in
    let rows = stretch_next _ _ _ _ _ modes _ c.in_ok-tally-2.ensures in
    let told = err_from_is_err_and c.from_residual-in_err-tally-3.result c.from_residual-in_err-tally-3.ensures.1 in
    rw (told.1, told.2) (values_stop (values_lent columns) _ (c.in_err-tally-3.ensures ∙ sym rows))

pub returns : goal.returns
unfolding count_entry empty_sheet
returns c =
    let columns = c.args.columns in
    let label = rw (← c.count_label-tally.ensures) at (behind_label columns c.in_ok-judge_label.ensures) in
    let modes = stretch_next _ _ _ _ _ label _ c.in_ok-tally.ensures in
    let rows = stretch_next _ _ _ _ _ modes _ c.in_ok-tally-2.ensures in
    values_end (values_lent columns) _ _ (c.in_ok-tally-3.ensures ∙ sym rows) c.judge_end.ensures
