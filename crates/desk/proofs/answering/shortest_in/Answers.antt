-- `shortest_in` meets its contract: what it reads off the last filled line is the shortest interval, and no time is refused.
use Prim.Native.Nat.{◌*◌, ◌≤◌}
use lib.ListN.{length}
use Rattle.meaning.specs.Cells.{ByAmount, Filled}
use Rattle.beginning.specs.Beginning.{graph}
use Rattle.desk.proofs.Telling.{room_told, shortest_answers, gives_none, gives_time}
use Rattle.desk.proofs.answering.shortest_in.Goals.{After-fill}
use Rattle.desk.proofs.answering.shortest_in.Goals as goal

-- there is room for the lines, and they are filled
room : (c : After-fill) → c.args.sheet.now.head.tally.rows * c.args.amount ≤ length c.args.cells.now
room c = room_told c.args.sheet.now c.args.amount c.args.cells.now c.requires.room

filled : (c : After-fill) → Filled c.args.sheet.now.head.tally.rows (ByAmount (graph c.args.sheet.now.bytes.now)) c.args.cells.now c.fill.new.cells (c.args.sheet.now.head.tally.rows * c.args.amount)
filled c = rw (c.rows-rows.ensures.bytes, c.rows-rows.ensures.count) at c.fill.ensures

pub returns-then-time : goal.returns-then-time
returns-then-time c =
    let at = (goal.at.returns-then-time c).After-fill in
    rw c.from.ensures (shortest_answers c.args.sheet.now _ c.requires.some _ _ (room at) (filled at)
    _ _ (rw c.rows-rows.ensures.count at c.shortest_of-time.ensures) (gives_none _ c.if-time.true))

pub returns : goal.returns
returns c =
    let at = (goal.at.returns c).After-fill in
    shortest_answers c.args.sheet.now _ c.requires.some _ _ (room at) (filled at)
    _ _ (rw c.rows-rows.ensures.count at c.shortest_of-time.ensures) (gives_time _ c.if-time.false)
