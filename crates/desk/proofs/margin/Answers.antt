-- `margin` meets its contract: it refuses as it begins, or answers as `margin_in` does.
use Rattle.std.specs.Prelude.{Ok}
use Rattle.std.proofs.lemmas.Result.{err_from_is_err_and}
use Rattle.beginning.proofs.Beginnings.{begun_refused}
use Rattle.beginning.proofs.GoingOn.{begun_same, goes_answering, interval_handed}
use Rattle.desk.specs.Calls.{MarginCall}
use mathlib.Core.Path.{◌≡◌, refl, ap}
use mir.Facts.{to_z-of_z}
use mir.Syntax.{w64}
use mir.Val.{to_z, of_z}
use Rattle.desk.proofs.margin.Goals as goal

pub margin_in-requires : goal.margin_in-requires
margin_in-requires c =
    let handed = interval_handed _ _ _ _ c.in_ok-sheet.ensures in
    record { in_range = handed.0; room = handed.1 }

pub returns-in_err-sheet : goal.returns-in_err-sheet
unfolding MarginCall
returns-in_err-sheet c =
    let told = err_from_is_err_and c.from_residual.result c.from_residual.ensures.1 in
    rw (told.1, told.2) (begun_refused _ _ _ c.in_err-sheet.ensures _ _ (refl, refl))

pub returns : goal.returns
unfolding MarginCall
returns c =
    let told = rw (begun_same _ _ _ c.in_ok-sheet.ensures) at c.margin_in.ensures in
    let kept : to_z w64 (of_z w64 c.margin_in.result) ≡ c.margin_in.result = to_z-of_z {w = w64} {z = c.margin_in.result} (record { sfits = c.margin_in.type_inv }) in
    goes_answering _ _ _ c.in_ok-sheet.ensures _ _ (told.0, (c.margin_in.result, told.1, ap Ok kept))
