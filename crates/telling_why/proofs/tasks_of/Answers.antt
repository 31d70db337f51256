-- An accepted sheet has no more fixed tasks than the limit, and a refused one has none.
use mathlib.Core.Path.{sym, ap}
use native.Mathlib.Omega.{arith}
use Rattle.fields.specs.Values.{empty_sheet}
use Rattle.fields.specs.declared.values.Sheet.{Sheet}
use Rattle.sheet.proofs.Counts.{tasks_within}
use Rattle.sheet.proofs.Judgements.{judged_sheet, judged_empty}
use Rattle.telling_why.proofs.tasks_of.Goals as goal

pub returns-in-Ok-clause-tasks : goal.returns-in-Ok-clause-tasks
returns-in-Ok-clause-tasks c = ap (λ (sheet : Sheet). sheet.tally.tasks) (judged_sheet c.args.bytes.now c.in-Ok.sheet c.in-Ok.ensures).1

pub returns-in-Ok-clause-at_most : goal.returns-in-Ok-clause-at_most
returns-in-Ok-clause-at_most c =
    rw (judged_sheet c.args.bytes.now c.in-Ok.sheet c.in-Ok.ensures).1 (tasks_within _ (λ i. omega (arith, c.type_inv.bytes i)))

pub returns-in-Err-clause-tasks : goal.returns-in-Err-clause-tasks
unfolding empty_sheet
returns-in-Err-clause-tasks c = sym (ap (λ (sheet : Sheet). sheet.tally.tasks) (judged_empty c.args.bytes.now _ c.in-Err.ensures))
