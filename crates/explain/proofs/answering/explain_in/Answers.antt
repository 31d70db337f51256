-- `explain_in` meets its contract: all lines are filled, and what one pass over them finds is what the call promises.
use Prim.Native.Nat.{ℕ, ◌+◌, ◌*◌}
use mathlib.Core.Path.{refl}
use native.Mathlib.Omega.{arith}
use Rattle.std.proofs.lemmas.Result.{err_from_is_err_and}
use Rattle.meaning.specs.Cells.{ByInterval, Filled}
use Rattle.tables.specs.Lines.{HasLines}
use Rattle.tables.proofs.Lines.{filled_lines}
use Rattle.overruns.specs.Releases.{counted_tasks}
use Rattle.beginning.specs.Beginning.{graph}
use Rattle.desk.proofs.Telling.{room_told, rows_told}
use Rattle.explain.specs.Looking.{Shows, IsTightest}
use Rattle.explain.specs.declared.looking.Tightest.{Tightest}
use Rattle.explain.specs.declared.looking.Tightest.TheVariants.{Nothing, Margin, Overrun}
use Rattle.explain.proofs.Telling.{fewer_lines, more_than_interval, short_told, fails_told, none_told, margin_told, overrun_told}
use Rattle.explain.proofs.answering.explain_in.Goals.{After-fill}
use Rattle.explain.proofs.answering.explain_in.Goals as goal

-- the lines are filled
filled : (c : After-fill) → Filled c.args.sheet.now.head.tally.rows (ByInterval (graph c.args.sheet.now.bytes.now)) c.args.cells.now c.fill.new.cells (c.args.sheet.now.head.tally.rows * (c.args.horizon + 1))
filled c = rw (c.rows-rows.ensures.bytes, c.rows-rows.ensures.count) at c.fill.ensures

-- they are the table by interval
table : (c : After-fill) → HasLines c.args.sheet.now.head.tally.rows (ByInterval (graph c.args.sheet.now.bytes.now)) c.fill.new.cells (c.args.horizon + 1)
table c = filled_lines _ _ _ _ _ (room_told c.args.sheet.now (c.args.horizon + 1) _ c.requires.room) (filled c)

-- what one pass over them finds is so
shows : (c : After-fill) (found : Tightest)
    → IsTightest c.rows-rows.result.count c.new-tasks.result.tasks c.new-tasks.result.count c.fill.new.cells c.args.horizon found
    → Shows (graph c.args.sheet.now.bytes.now) (counted_tasks c.args.sheet.now.head.tasks c.args.sheet.now.head.tally.tasks) c.args.horizon found
shows c found tightest =
    rw (c.rows-rows.ensures.count, c.new-tasks.ensures.0, c.new-tasks.ensures.1) at tightest
    (graph c.args.sheet.now.bytes.now) c.args.sheet.now.handed.ready.sound (rows_told c.args.sheet.now) (table c)

-- and up to an overrun that it finds the lines are there too
there : (c : After-fill) (t fixed : ℕ) → Shows (graph c.args.sheet.now.bytes.now) (counted_tasks c.args.sheet.now.head.tasks c.args.sheet.now.head.tally.tasks) c.args.horizon (Overrun t fixed)
    → HasLines c.args.sheet.now.head.tally.rows (ByInterval (graph c.args.sheet.now.bytes.now)) c.fill.new.cells (t + 1)
there c t fixed shown = fewer_lines _ _ _ (c.args.horizon + 1) (t + 1) (omega (arith, shown.0.1)) (table c)

pub show_witness-requires : goal.show_witness-requires
show_witness-requires c =
    let filling = (goal.at.show_witness-requires c).After-fill in
    let shown = shows filling (Overrun c.in-Overrun.interval c.in-Overrun.fixed) c.in-Overrun.ensures in
    record {
      in_range = omega (arith, c.requires.in_range, shown.0.1);
      has_lines = rw (c.rows-rows.ensures.bytes, c.rows-rows.ensures.count) (there filling _ _ shown);
    }

pub overrun_at-requires : goal.overrun_at-requires
overrun_at-requires c =
    let filling = (goal.at.overrun_at-requires c).After-fill in
    let shown = shows filling (Overrun c.in-Overrun.interval c.in-Overrun.fixed) c.in-Overrun.ensures in
    let lines = there filling _ _ shown in
    record {
      in_range = omega (arith, c.requires.in_range, shown.0.1);
      room = rw c.rows-rows.ensures.count lines.room;
      fixed_demand = rw (c.new-tasks.ensures.0, c.new-tasks.ensures.1) shown.1;
      overrun = rw c.rows-rows.ensures.count (more_than_interval c.args.sheet.now _ _ _ lines shown.1 shown.0.2);
    }

pub returns-in-Nothing : goal.returns-in-Nothing
returns-in-Nothing c =
    let filling = (goal.at.returns-in-Nothing c).After-fill in
    none_told c.args.sheet.now _ _ _ _ (filled filling) _ (shows filling Nothing c.in-Nothing.ensures) refl

pub returns-in-Margin : goal.returns-in-Margin
returns-in-Margin c =
    let filling = (goal.at.returns-in-Margin c).After-fill in
    margin_told c.args.sheet.now _ _ _ _ (filled filling) _ _ _ (shows filling (Margin c.in-Margin.margin c.in-Margin.interval) c.in-Margin.ensures) refl

pub returns-in_err-count-in-Overrun : goal.returns-in_err-count-in-Overrun
returns-in_err-count-in-Overrun c =
    let filling = (goal.at.returns-in_err-count-in-Overrun c).After-fill in
    let shown = shows filling (Overrun c.in-Overrun.interval c.in-Overrun.fixed) c.in-Overrun.ensures in
    let told = err_from_is_err_and c.from_residual.result c.from_residual.ensures.1 in
    rw (told.1, told.2)
    (overrun_told c.args.sheet.now _ _ _ _ (filled filling) _ _ _ _ shown
    (short_told c.args.sheet.now _ _ _ (there filling _ _ shown) shown.1 shown.0.2 _ _ _
    (rw c.rows-rows.ensures.bytes at c.in_err-count-in-Overrun.ensures)))

pub returns-in_ok-count-in-Overrun : goal.returns-in_ok-count-in-Overrun
returns-in_ok-count-in-Overrun c =
    let filling = (goal.at.returns-in_ok-count-in-Overrun c).After-fill in
    let shown = shows filling (Overrun c.in-Overrun.interval c.in-Overrun.fixed) c.in-Overrun.ensures in
    overrun_told c.args.sheet.now _ _ _ _ (filled filling) _ _ _ _ shown
    (fails_told c.args.sheet.now _ _ _ (there filling _ _ shown) shown.1 shown.0.2 _ _ c.in_ok-count-in-Overrun.count _
    (rw c.rows-rows.ensures.bytes at c.in_ok-count-in-Overrun.ensures)
    (rw (c.rows-rows.ensures.count, c.new-tasks.ensures.0, c.new-tasks.ensures.1) at c.overrun_at.ensures))
