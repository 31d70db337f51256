-- `row_numbered` meets its contract: a row that the sheet counts stands in the file at the place that is kept of it.
use native.Mathlib.Omega.{arith}
use mathlib.Core.Path.{sym, ◌∙◌}
use Rattle.sheet.proofs.Answering.{outlined_head}
use Rattle.contents.proofs.Told.{row_counted, row_told, row_past, row_none}
use Rattle.contents.proofs.row_numbered.Goals as goal

pub returns-in_default : goal.returns-in_default
returns-in_default c = row_none _ _ _ c.in_default.ensures _

pub returns-then-head-number : goal.returns-then-head-number
returns-then-head-number c = row_past _ _ (outlined_head _ _ _ c.in-Ok.ensures).1 _ (omega arith)

pub returns : goal.returns
returns c =
    let o = c.in-Ok.ensures in
    let is = (outlined_head _ _ _ o).1 in
    let counted = row_counted _ _ is c.args.number (omega arith) in
    row_told _ _ is _ _ _ (c.row_at-row.ensures ∙ sym (o.rows.each _ counted)) c.job_length.ensures (omega arith)
