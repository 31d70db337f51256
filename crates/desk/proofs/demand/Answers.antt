-- `demand` meets its contract: it refuses as it begins, or answers as `demand_in` does.
use Rattle.std.proofs.lemmas.Result.{err_from_is_err_and}
use Rattle.beginning.proofs.Beginnings.{begun_refused}
use Rattle.beginning.proofs.GoingOn.{begun_same, goes_answering, interval_handed}
use Rattle.desk.specs.Calls.{DemandCall}
use mathlib.Core.Path.{refl}
use Rattle.desk.proofs.demand.Goals as goal

pub demand_in-requires : goal.demand_in-requires
demand_in-requires c =
    let handed = interval_handed _ _ _ _ c.in_ok-sheet.ensures in
    record { in_range = handed.0; room = handed.1 }

pub returns-in_err-sheet : goal.returns-in_err-sheet
unfolding DemandCall
returns-in_err-sheet c =
    let told = err_from_is_err_and c.from_residual.result c.from_residual.ensures.1 in
    rw (told.1, told.2) (begun_refused _ _ _ c.in_err-sheet.ensures _ _ (refl, refl, refl))

pub returns : goal.returns
unfolding DemandCall
returns c = goes_answering _ _ _ c.in_ok-sheet.ensures _ _ (rw (begun_same _ _ _ c.in_ok-sheet.ensures) at c.demand_in.ensures)
