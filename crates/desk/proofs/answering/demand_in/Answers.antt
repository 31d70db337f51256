-- `demand_in` meets its contract: what it reads off the filled lines is the demand and its witness.
use Prim.Native.Nat.{◌+◌, ◌*◌, ◌≤◌}
use lib.ListN.{length}
use Rattle.std.specs.Prelude.{Ok, Err}
use Rattle.std.proofs.lemmas.Result.{err_from_is_err_and}
use Rattle.meaning.specs.Cells.{ByInterval, Filled}
use Rattle.beginning.specs.Beginning.{graph}
use Rattle.desk.proofs.Telling.{room_told, demand_shown}
use Rattle.desk.proofs.answering.demand_in.Goals.{After-fill}
use Rattle.desk.proofs.answering.demand_in.Goals as goal

-- there is room for the lines, and they are filled
room : (c : After-fill) → c.args.sheet.now.head.tally.rows * (c.args.t + 1) ≤ length c.args.cells.now
room c = room_told c.args.sheet.now (c.args.t + 1) c.args.cells.now c.requires.room

filled : (c : After-fill) → Filled c.args.sheet.now.head.tally.rows (ByInterval (graph c.args.sheet.now.bytes.now)) c.args.cells.now c.fill.new.cells (c.args.sheet.now.head.tally.rows * (c.args.t + 1))
filled c = rw (c.rows-rows.ensures.bytes, c.rows-rows.ensures.count) at c.fill.ensures

pub returns-in_err-count : goal.returns-in_err-count
returns-in_err-count c =
    let at = (goal.at.returns-in_err-count c).After-fill in
    let told = err_from_is_err_and c.from_residual.result c.from_residual.ensures.1 in
    rw (told.1, told.2) (demand_shown c.args.sheet.now _ _ _ (room at) (filled at) _ _ _ (Err c.in_err-count.field-0.0)
    (rw c.rows-rows.ensures.count at c.demand_of-amount.ensures) (rw c.rows-rows.ensures.bytes at c.in_err-count.ensures))

pub returns : goal.returns
returns c =
    let at = (goal.at.returns c).After-fill in
    demand_shown c.args.sheet.now _ _ _ (room at) (filled at) _ _ _ (Ok c.in_ok-count.count)
    (rw c.rows-rows.ensures.count at c.demand_of-amount.ensures) (rw c.rows-rows.ensures.bytes at c.in_ok-count.ensures)
