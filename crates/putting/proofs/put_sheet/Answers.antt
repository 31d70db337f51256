-- `put_sheet` meets its contract: each field stands behind the others, and the entries of no kind break a rule.
use Rattle.std.proofs.Common.{[], refl}
use Rattle.written.specs.Lent.{modes_lent, rows_lent, tasks_lent}
use Rattle.written.specs.Values.{LabelEntry}
use Rattle.written.specs.Written.{field, field_of, fields_of}
use Rattle.putting.proofs.Behind.{Front, front_behind}
use Rattle.putting.proofs.Whole.{whole, parts}
use Rattle.putting.proofs.put_sheet.Goals as goal

pub put_label-at-requires-clause-short : goal.put_label-at-requires-clause-short
put_label-at-requires-clause-short c = (parts c.args.columns c.requires.kept).0

pub put_modes-at-requires-clause-unbroken : goal.put_modes-at-requires-clause-unbroken
put_modes-at-requires-clause-unbroken c = (parts c.args.columns c.requires.kept).1

pub put_rows-at-requires-clause-unbroken : goal.put_rows-at-requires-clause-unbroken
put_rows-at-requires-clause-unbroken c = (parts c.args.columns c.requires.kept).2

pub put_tasks-at-requires-clause-unbroken : goal.put_tasks-at-requires-clause-unbroken
put_tasks-at-requires-clause-unbroken c = (parts c.args.columns c.requires.kept).3

pub returns : goal.returns
returns c =
    let columns = c.args.columns in
    let label : Front (field_of (LabelEntry columns.label.now)) _ c.args.out.now _ = record { far = c.put_label-at.ensures.size; put = c.put_label-at.ensures.put } in
    let modes = front_behind (fields_of (modes_lent columns.modes)) _ label c.put_modes-at.ensures.size c.put_modes-at.ensures.put in
    let rows = front_behind (fields_of (rows_lent columns.rows)) _ modes c.put_rows-at.ensures.size c.put_rows-at.ensures.put in
    let tasks = front_behind (fields_of (tasks_lent columns.tasks)) _ rows c.put_tasks-at.ensures.size c.put_tasks-at.ensures.put in
    rw (whole columns) (front_behind (field 5 []) c.put_head.new.out {size = 3} tasks refl c.put_head.ensures).put
