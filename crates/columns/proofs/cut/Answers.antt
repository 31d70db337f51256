-- `cut` meets its contract: a field without content has only the first rules.
use Rattle.std.proofs.lemmas.Result.{err_from_is_err_and}
use Rattle.fields.specs.Fields.{tag_of}
use Rattle.written.specs.Judging.{entry_rules, count_entry}
use Rattle.written.specs.Values.{CutEntry}
use mathlib.Core.List.{[], ◌∷◌}
use mathlib.Core.Path.{refl}
use Rattle.columns.proofs.Onward.{onward_next, onward_stop, onward_end}
use Rattle.columns.proofs.cut.Goals as goal

pub returns-in_err-judge_field : goal.returns-in_err-judge_field
unfolding entry_rules
returns-in_err-judge_field c =
    let a = c.args in
    let told = err_from_is_err_and c.from_residual.result c.from_residual.ensures.1 in
    rw (told.1, told.2) (onward_stop a.tally (CutEntry (tag_of a.kind) ∷ []) a.tally (CutEntry (tag_of a.kind)) [] refl _ c.in_err-judge_field.ensures)

pub returns : goal.returns
unfolding entry_rules count_entry
returns c =
    let a = c.args in
    onward_end _ _ _ (onward_next a.tally (CutEntry (tag_of a.kind) ∷ []) a.tally (CutEntry (tag_of a.kind)) [] refl c.in_ok-judge_field.ensures)
