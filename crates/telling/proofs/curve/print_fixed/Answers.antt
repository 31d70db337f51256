-- The values of an accepted sheet are proper.
use native.Mathlib.Omega.{arith}
use Rattle.overruns.proofs.ProperTasks.{sheet_tasks}
use Rattle.sheet.proofs.Accepted.{accepted_proper}
use Rattle.sheet.proofs.Judgements.{judged_sheet}
use Rattle.telling.proofs.curve.print_fixed.Goals as goal

pub new-tasks-requires : goal.new-tasks-requires
new-tasks-requires g c =
    let bytes = c.args.bytes.now in
    let found = judged_sheet bytes c.in-Ok.sheet c.in-Ok.ensures in
    rw found.1 (sheet_tasks bytes _ (accepted_proper bytes (λ i. omega (arith, c.type_inv.bytes i)) found.0))
