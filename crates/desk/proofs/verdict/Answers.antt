-- `verdict` meets its contract: it refuses as it begins, or answers as `verdict_in` does.
use Rattle.std.proofs.lemmas.Result.{err_from_is_err_and}
use Rattle.beginning.proofs.Beginnings.{begun_refused}
use Rattle.beginning.proofs.GoingOn.{begun_same, goes_answering, interval_handed}
use Rattle.desk.specs.Calls.{VerdictCall}
use mathlib.Core.Path.{refl, ap}
use Rattle.std.specs.Prelude.{Ok}
use Rattle.desk.proofs.verdict.Goals as goal

pub verdict_in-requires : goal.verdict_in-requires
verdict_in-requires g c =
    let handed = interval_handed _ _ _ _ c.in_ok-sheet.ensures in
    record { in_range = handed.0; room = handed.1 }

pub returns-in_err-sheet : goal.returns-in_err-sheet
unfolding VerdictCall
returns-in_err-sheet g c =
    let told = err_from_is_err_and c.from_residual.result c.from_residual.ensures.1 in
    rw (told.1, told.2) (begun_refused _ _ _ c.in_err-sheet.ensures _ _ (refl, refl))

pub returns : goal.returns
unfolding VerdictCall
returns g c =
    let told = rw (begun_same _ _ _ c.in_ok-sheet.ensures) at c.verdict_in.ensures in
    goes_answering _ _ _ c.in_ok-sheet.ensures _ _
    (told.0, (told.1.0, told.1.1, ap Ok told.1.2))
