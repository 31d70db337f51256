use Rattle.sheet.specs.Outline.{RowsFrom}
use Rattle.sheet.proofs.rows.rows_at.Given as goal

abbrev pub invariant-loop-number : goal.invariant-loop-number
invariant-loop-number l = RowsFrom l.bytes l.places l.number l.rows
