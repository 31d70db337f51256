-- A refused sheet has no rows.
use mathlib.Core.Path.{sym, ap}
use Rattle.fields.specs.Values.{empty_sheet}
use Rattle.fields.specs.declared.values.Sheet.{Sheet}
use Rattle.sheet.proofs.Judgements.{judged_sheet, judged_empty}
use Rattle.telling.proofs.curve.rows_of.Goals as goal

pub returns-in-Ok : goal.returns-in-Ok
returns-in-Ok c = ap (λ (sheet : Sheet). sheet.tally.rows) (judged_sheet c.args.bytes.now c.in-Ok.sheet c.in-Ok.ensures).1

pub returns-in-Err : goal.returns-in-Err
unfolding empty_sheet
returns-in-Err c = sym (ap (λ (sheet : Sheet). sheet.tally.rows) (judged_empty c.args.bytes.now _ c.in-Err.ensures))
