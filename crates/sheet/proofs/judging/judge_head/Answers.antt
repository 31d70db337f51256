-- `judge_head` meets its contract: each arm has the rules of its kind, and the tag is the kind's.
use Rattle.fields.specs.Deciding.{pick, first_broken}
use Rattle.sheet.specs.Judging.{head_rules}
use mathlib.Core.Path.{refl}
use Rattle.sheet.proofs.judging.judge_head.Goals as goal

pub returns-in-RefusedTag : goal.returns-in-RefusedTag
unfolding head_rules first_broken pick
returns-in-RefusedTag c = rw c.in-RefusedTag.is refl

pub returns-in-LabelField : goal.returns-in-LabelField
unfolding head_rules
returns-in-LabelField c = rw c.in-LabelField.is (rw c.in-LabelField.is at c.judge_field.ensures)

pub returns-in-ModeField : goal.returns-in-ModeField
unfolding head_rules
returns-in-ModeField c = rw c.in-ModeField.is (rw c.in-ModeField.is at c.judge_field-in-ModeField.ensures)

pub returns-in-RowField : goal.returns-in-RowField
unfolding head_rules
returns-in-RowField c =
    let row = c.before.before.before in
    rw (row.in-RowField.is, ← c.long_at.ensures, ← c.unlike_set-unlike.ensures) (rw row.in-RowField.is at c.judge_field-in-RowField.ensures)

pub returns-in-TaskField : goal.returns-in-TaskField
unfolding head_rules
returns-in-TaskField c = rw c.in-TaskField.is (rw c.in-TaskField.is at c.judge_field-in-TaskField.ensures)

pub returns-in-EndField : goal.returns-in-EndField
unfolding head_rules
returns-in-EndField c = rw c.in-EndField.is (rw c.in-EndField.is at c.judge_field-in-EndField.ensures)

pub returns-in-SkippedField : goal.returns-in-SkippedField
unfolding head_rules first_broken
returns-in-SkippedField c = rw c.in-SkippedField.is refl
