-- `verdict_in` meets its contract: all lines are filled, and the sweep over them gives the verdict.
use Prim.Native.Nat.{◌+◌, ◌*◌, ◌≤◌}
use lib.ListN.{length}
use mathlib.Core.Path.{refl}
use Rattle.std.specs.Prelude.{Some, None}
use Rattle.meaning.specs.Cells.{Filled}
use Rattle.beginning.specs.Beginning.{graph}
use Rattle.desk.proofs.Telling.{room_told, verdict_told}
use Rattle.desk.proofs.answering.verdict_in.Given.{Over}
use Rattle.desk.proofs.answering.verdict_in.Goals.{After-fill}
use Rattle.desk.proofs.answering.verdict_in.Goals as goal

-- there is room for the lines, and they are filled
room : (g : Over) (c : After-fill g) → c.args.sheet.now.head.tally.rows * (c.args.horizon + 1) ≤ length c.args.cells.now
room g c = room_told c.args.sheet.now (c.args.horizon + 1) c.args.cells.now c.requires.room

filled : (g : Over) (c : After-fill g)
    → Filled c.args.sheet.now.head.tally.rows (g.T.Table.right (graph c.args.sheet.now.bytes.now)) c.args.cells.now c.fill.new.cells (c.args.sheet.now.head.tally.rows * (c.args.horizon + 1))
filled g c = rw (c.rows-rows.ensures.bytes, c.rows-rows.ensures.count) at c.fill.ensures

pub returns-in_err-overrun : goal.returns-in_err-overrun
returns-in_err-overrun g c =
    let at = (goal.at.returns-in_err-overrun g c).After-fill in
    rw c.from_residual.ensures (verdict_told c.args.sheet.now g.T.Table.right _ _ _ (room g at) (filled g at) None
    (rw (c.rows-rows.ensures.count, c.new-tasks.ensures.0, c.new-tasks.ensures.1) at c.in_err-overrun.ensures) _ refl)

pub returns : goal.returns
returns g c =
    let at = (goal.at.returns g c).After-fill in
    verdict_told c.args.sheet.now g.T.Table.right _ _ _ (room g at) (filled g at) (Some c.in_ok-overrun.overrun)
    (rw (c.rows-rows.ensures.count, c.new-tasks.ensures.0, c.new-tasks.ensures.1) at c.in_ok-overrun.ensures) _ refl
