-- `margin_in` meets its contract: what it reads off the filled lines is the demand, and the two demands together fit well.
use Prim.Native.Nat.{◌^◌, ◌+◌, ◌<◌, ◌*◌, ◌≤◌}
use Rattle.beginning.specs.Beginning.{graph}
use Rattle.desk.proofs.Telling.{room_told, margin_told, difference_kept}
use Rattle.overruns.proofs.ProperTasks.{tasks_fit}
use Rattle.meaning.specs.Cells.{ByInterval, Filled}
use lib.ListN.{length}
use lib.IntN.{ℤ}
use mathlib.Core.Path.{◌∙◌, ap}
use mir.Syntax.{w64}
use mir.Val.{to_z, of_z}
use native.Mathlib.Omega.{arith}
use Rattle.desk.proofs.answering.margin_in.Goals.{After-fill}
use Rattle.desk.proofs.answering.margin_in.Goals as goal

-- there is room for the lines, and they are filled
room : (c : After-fill) → c.args.sheet.now.head.tally.rows * (c.args.t + 1) ≤ length c.args.cells.now
room c = room_told c.args.sheet.now (c.args.t + 1) c.args.cells.now c.requires.room

filled : (c : After-fill) → Filled c.args.sheet.now.head.tally.rows (ByInterval (graph c.args.sheet.now.bytes.now)) c.args.cells.now c.fill.new.cells (c.args.sheet.now.head.tally.rows * (c.args.t + 1))
filled c = rw (c.rows-rows.ensures.bytes, c.rows-rows.ensures.count) at c.fill.ensures

pub overflow_add-engine : goal.overflow_add-engine
overflow_add-engine c =
    let small : c.demand_at-fixed.result < 2 ^ 48 = rw c.demand_at-fixed.ensures (tasks_fit _ _ c.new.result.proper _ c.requires.in_range) in
    omega (arith, small)

pub less-requires : goal.less-requires
less-requires c =
    let small : c.demand_at-fixed.result < 2 ^ 48 = rw c.demand_at-fixed.ensures (tasks_fit _ _ c.new.result.proper _ c.requires.in_range) in
    (omega arith, omega (arith, small))

pub returns : goal.returns
returns c =
    let at = (goal.at.returns c).After-fill in
    let small : c.demand_at-fixed.result < 2 ^ 48 = rw c.demand_at-fixed.ensures (tasks_fit _ _ c.new.result.proper _ c.requires.in_range) in
    let interval_fits : c.args.t < 2 ^ 63 = omega arith in
    let demands_fit : c.demand_of-engine.result + c.demand_at-fixed.result < 2 ^ 63 = omega (arith, small) in
    margin_told c.args.sheet.now _ _ _ (room at) (filled at) _ _ _
    (rw c.rows-rows.ensures.count at c.demand_of-engine.ensures) (rw (c.new.ensures.0, c.new.ensures.1) at c.demand_at-fixed.ensures)
    (ap (λ (z : ℤ). to_z w64 (of_z w64 z)) c.less.ensures ∙ difference_kept _ _ interval_fits demands_fit)
