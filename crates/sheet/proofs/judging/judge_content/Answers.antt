-- `judge_content` meets its contract: each arm has the rules of its kind.
use Rattle.sheet.proofs.Numbered.{head_kept, mode_fits, row_fits, task_fits}
use Rattle.fields.specs.Deciding.{first_broken}
use Rattle.sheet.specs.Judging.{own_rules}
use mathlib.Core.Path.{refl}
use native.Mathlib.Omega.{arith}
use Rattle.sheet.proofs.judging.judge_content.Goals as goal

pub mode_at-requires : goal.mode_at-requires
mode_at-requires c = omega (arith, mode_fits _ _ _ _ _ c.in-ModeField.is (head_kept _ _ _ _ _ c.requires.head_kept))

pub row_at-requires : goal.row_at-requires
row_at-requires c = omega (arith, row_fits _ _ _ _ _ c.in-RowField.is (head_kept _ _ _ _ _ c.requires.head_kept))

pub judge_row_in_file-requires : goal.judge_row_in_file-requires
judge_row_in_file-requires c = rw c.row_at.ensures (omega (arith, row_fits _ _ _ _ _ c.in-RowField.is (head_kept _ _ _ _ _ c.requires.head_kept)))

pub task_at-requires : goal.task_at-requires
task_at-requires c = omega (arith, task_fits _ _ _ _ _ c.in-TaskField.is (head_kept _ _ _ _ _ c.requires.head_kept))

pub returns-in-RefusedTag : goal.returns-in-RefusedTag
unfolding own_rules first_broken
returns-in-RefusedTag c = rw c.in-RefusedTag.is refl

pub returns-in-LabelField : goal.returns-in-LabelField
unfolding own_rules
returns-in-LabelField c = rw c.in-LabelField.is c.judge_text.ensures

pub returns-in-ModeField : goal.returns-in-ModeField
unfolding own_rules
returns-in-ModeField c = rw (c.in-ModeField.is, ← c.mode_at.ensures) c.judge_mode.ensures

pub returns-in-RowField : goal.returns-in-RowField
unfolding own_rules
returns-in-RowField c = rw (c.in-RowField.is, ← c.row_at.ensures) c.judge_row_in_file.ensures

pub returns-in-TaskField : goal.returns-in-TaskField
unfolding own_rules
returns-in-TaskField c = rw (c.in-TaskField.is, ← c.task_at.ensures) c.judge_task.ensures

pub returns-in-EndField : goal.returns-in-EndField
unfolding own_rules first_broken
returns-in-EndField c = rw c.in-EndField.is refl

pub returns-in-SkippedField : goal.returns-in-SkippedField
unfolding own_rules first_broken
returns-in-SkippedField c = rw c.in-SkippedField.is refl
