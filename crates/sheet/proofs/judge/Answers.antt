-- `judge` meets its contract: the rows at the places that are kept are the judged sheet's.
use Rattle.sheet.proofs.Answering.{outlined_head}
use Rattle.sheet.proofs.Outlining.{rows_from_lem}
use Rattle.sheet.proofs.RowPlaces.{rows_one}
use mathlib.Core.Path.{refl}
use Rattle.sheet.proofs.judge.Goals as goal

pub returns : goal.returns
returns c =
    let o = c.in_ok-head.ensures in
    let accepted = outlined_head _ _ _ o in
    let rows = rows_one _ _ _ _ _ (rw accepted.1 at c.rows_at-rows.ensures) (rows_from_lem _ _ _ o.rows) in
    rw (accepted.0, accepted.1, rows) refl
