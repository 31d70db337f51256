-- `next` meets its contract. Where work is left, the row is one of the sheet's.
use native.Mathlib.Omega.{arith}
use Rattle.witness.proofs.Witnesses.{rest_done}
use Rattle.witness.proofs.Steps.{step_row, step_few, step_last, step_found, step_more}
use Rattle.witness.proofs.next.Goals as goal

pub returns-then-stand-eq0 : goal.returns-then-stand-eq0
returns-then-stand-eq0 c = rest_done _ _ c.if-stand-eq0.true

pub offset_bounds-rows-row : goal.offset_bounds-rows-row
offset_bounds-rows-row c =
    let few = step_few c.args.rows.now c.args.cells.now c.args.stand.now c.requires.has_lines c.requires.stands (omega arith) in
    omega (arith, few)

pub bounds-rows-row : goal.bounds-rows-row
bounds-rows-row c = step_few c.args.rows.now c.args.cells.now c.args.stand.now c.requires.has_lines c.requires.stands (omega arith)

pub onward-requires-clause-counted : goal.onward-requires-clause-counted
onward-requires-clause-counted c = step_row c.args.rows.now c.args.cells.now c.args.stand.now c.requires.has_lines c.requires.stands (omega arith)

pub onward-requires-clause-goes_on : goal.onward-requires-clause-goes_on
onward-requires-clause-goes_on c = step_found c.args.rows.now c.args.cells.now c.args.stand.now c.requires.has_lines c.requires.stands (omega arith) c.if-rows-row.true

pub returns-then-rows-row : goal.returns-then-rows-row
returns-then-rows-row c =
    rw c.onward.ensures (step_more c.args.rows.now c.args.cells.now c.args.stand.now c.requires.has_lines c.requires.stands (omega arith) c.if-rows-row.true)

pub returns-else-rows-row : goal.returns-else-rows-row
returns-else-rows-row c = step_last c.args.rows.now c.args.cells.now c.args.stand.now c.requires.has_lines c.requires.stands (omega arith) c.if-rows-row.false
