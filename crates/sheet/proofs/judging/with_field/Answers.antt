-- `with_field` meets its contract: each arm adds what its kind adds.
use Rattle.sheet.proofs.Numbered.{first_kept, mode_fits, row_fits, task_fits}
use Rattle.sheet.specs.Judging.{with_field}
use Rattle.sheet.specs.Outline.{head_of, sheet_from}
use Rattle.sheet.specs.Values.{with_mode, with_row, with_task}
use mathlib.Core.List.{[]}
use mathlib.Core.Path.{◌∙◌, refl, ap}
use native.Mathlib.Omega.{arith}
use Rattle.sheet.proofs.judging.with_field.Goals as goal

pub mode_at-requires : goal.mode_at-requires
mode_at-requires c = omega (arith, mode_fits _ _ _ _ _ c.in-ModeField.is (first_kept _ _ _ _ _ c.requires.rules_kept))

pub with_mode-requires : goal.with_mode-requires
with_mode-requires c = (mode_fits _ _ _ _ _ c.in-ModeField.is (first_kept _ _ _ _ _ c.requires.rules_kept)).1

pub row_at-requires : goal.row_at-requires
row_at-requires c = omega (arith, row_fits _ _ _ _ _ c.in-RowField.is (first_kept _ _ _ _ _ c.requires.rules_kept))

pub with_row-requires : goal.with_row-requires
with_row-requires c = (row_fits _ _ _ _ _ c.in-RowField.is (first_kept _ _ _ _ _ c.requires.rules_kept)).2

pub task_at-requires : goal.task_at-requires
task_at-requires c = omega (arith, task_fits _ _ _ _ _ c.in-TaskField.is (first_kept _ _ _ _ _ c.requires.rules_kept))

pub with_task-requires : goal.with_task-requires
with_task-requires c = (task_fits _ _ _ _ _ c.in-TaskField.is (first_kept _ _ _ _ _ c.requires.rules_kept)).1

pub returns-in-RefusedTag : goal.returns-in-RefusedTag
unfolding with_field
returns-in-RefusedTag c = rw c.in-RefusedTag.is refl

pub returns-in-LabelField : goal.returns-in-LabelField
unfolding with_field
returns-in-LabelField c = rw c.in-LabelField.is c.with_label.ensures

pub returns-in-ModeField : goal.returns-in-ModeField
unfolding with_field
returns-in-ModeField c = rw c.in-ModeField.is (c.with_mode.ensures ∙ ap (λ v. head_of (with_mode (sheet_from c.args.head []) v)) c.mode_at.ensures)

pub returns-in-RowField : goal.returns-in-RowField
unfolding with_field
returns-in-RowField c = rw c.in-RowField.is (c.with_row.ensures ∙ ap (λ v. head_of (with_row (sheet_from c.args.head []) v)) c.row_at.ensures)

pub returns-in-TaskField : goal.returns-in-TaskField
unfolding with_field
returns-in-TaskField c = rw c.in-TaskField.is (c.with_task.ensures ∙ ap (λ v. head_of (with_task (sheet_from c.args.head []) v)) c.task_at.ensures)

pub returns-in-EndField : goal.returns-in-EndField
unfolding with_field
returns-in-EndField c = rw c.in-EndField.is refl

pub returns-in-SkippedField : goal.returns-in-SkippedField
unfolding with_field
returns-in-SkippedField c = rw c.in-SkippedField.is refl
