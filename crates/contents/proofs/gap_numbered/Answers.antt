-- `gap_numbered` meets its contract: a row that the sheet counts stands in the file at the place that is kept of it.
use native.Mathlib.Omega.{arith}
use mathlib.Core.Path.{sym, ◌∙◌}
use Rattle.sheet.proofs.Answering.{outlined_head}
use Rattle.contents.proofs.Told.{row_counted, gap_told, gap_past, gap_none}
use Rattle.contents.proofs.gap_numbered.Goals as goal

pub returns-in_default : goal.returns-in_default
returns-in_default c = gap_none _ _ _ c.in_default.ensures _ _

pub returns-then-head-from : goal.returns-then-head-from
returns-then-head-from c = gap_past _ _ (outlined_head _ _ _ c.in-Ok.ensures).1 _ _ (omega arith)

pub returns : goal.returns
returns c =
    let o = c.in-Ok.ensures in
    let is = (outlined_head _ _ _ o).1 in
    let counted = row_counted _ _ is c.args.from (omega arith) in
    gap_told _ _ is _ _ _ _ (c.row_at.ensures ∙ sym (o.rows.each _ counted)) c.gap_in.ensures (omega arith)
