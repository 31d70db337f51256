-- `rows_at` meets its contract: before the first row there are zeros.
use Rattle.sheet.proofs.RowPlaces.{rows_none}
use Rattle.sheet.proofs.rows.rows_at.Goals as goal

pub loop-number-init : goal.loop-number-init
loop-number-init c = rows_none _ _
