-- The public calls leave no choice: two answers that a call's contract allows for the same arguments are equal.
use Rattle.fields.proofs.Determined.{Determines, one_value}
use Rattle.contents.proofs.mode_numbered.Kinds as mode
use Rattle.contents.proofs.mode_numbered.Reads as mode-reads
use Rattle.contents.proofs.row_numbered.Kinds as row
use Rattle.contents.proofs.row_numbered.Reads as row_reads
use Rattle.contents.proofs.gap_numbered.Kinds as gap
use Rattle.contents.proofs.gap_numbered.Reads as gap-reads
use Rattle.contents.proofs.task_numbered.Kinds as task
use Rattle.contents.proofs.task_numbered.Reads as task-reads

pub mode_one : Determines 1 mode.ps mode.r mode-reads.Learnt (λ κs x. x)
mode_one = one_value 1 mode.ps mode.r (λ κs x. x) _

pub row_one : Determines 1 row.ps row.r row_reads.Learnt (λ κs x. x)
row_one = one_value 1 row.ps row.r (λ κs x. x) _

pub gap_one : Determines 1 gap.ps gap.r gap-reads.Learnt (λ κs x. x)
gap_one = one_value 1 gap.ps gap.r (λ κs x. x) _

pub task_one : Determines 1 task.ps task.r task-reads.Learnt (λ κs x. x)
task_one = one_value 1 task.ps task.r (λ κs x. x) _
