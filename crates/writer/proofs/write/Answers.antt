-- `write` meets its contract: values that keep the rules have the size that is asked for and are put where it fits.
use native.Mathlib.Omega.{arith}
use mathlib.Core.Path.{sym, ap}
use Rattle.std.specs.Prelude.{Ok}
use Rattle.std.proofs.lemmas.Result.{err_from_is_err_and}
use Rattle.written.specs.Lent.{values_lent}
use Rattle.written.proofs.EntriesKept.{kept_written}
use Rattle.written.proofs.Sizes.{modes_most, bands_most, jitters_most, rows_most, tasks_most, label_most, gaps_most, sets_narrow}
use Rattle.writer.proofs.Answering.{sized, refuses_values, refuses_room, gives_sheet}
use Rattle.writer.proofs.write.Goals as goal

pub returns-in_err-judge_values : goal.returns-in_err-judge_values
returns-in_err-judge_values c =
    let a = c.args in
    let told = err_from_is_err_and c.from_residual.result c.from_residual.ensures.1 in
    rw (told.1, told.2) (refuses_values (values_lent a.columns) a.output.now _ c.in_err-judge_values.ensures)

pub size_of-size-requires : goal.size_of-size-requires
size_of-size-requires c =
    let values = values_lent c.args.columns in
    let none = sym c.in_ok-judge_values.ensures in
    let few = bands_most values none in
    let late = jitters_most values none in
    (label_most values none, modes_most values none, omega (arith, few, c.bands.ensures), rows_most values none, gaps_most values none, tasks_most values none, omega (arith, late, c.jittered.ensures))

pub returns-then-output-size : goal.returns-then-output-size
returns-then-output-size c =
    let a = c.args in
    let values = values_lent a.columns in
    let many = sized values _ _ _ c.in_ok-judge_values.ensures c.bands.ensures c.jittered.ensures c.size_of-size.ensures in
    rw c.from.ensures (refuses_room values a.output.now c.in_ok-judge_values.ensures (omega (arith, many, c.if-output-size.true)))

pub put_sheet-requires : goal.put_sheet-requires
put_sheet-requires c =
    let values = values_lent c.args.columns in
    let none = sym c.in_ok-judge_values.ensures in
    let many = sized values _ _ _ c.in_ok-judge_values.ensures c.bands.ensures c.jittered.ensures c.size_of-size.ensures in
    record {
      room = omega (arith, many, c.if-output-size.false);
      kept = kept_written values none;
      narrow = sets_narrow values none;
    }

pub returns : goal.returns
returns c =
    let a = c.args in
    let values = values_lent a.columns in
    let many = sized values _ _ _ c.in_ok-judge_values.ensures c.bands.ensures c.jittered.ensures c.size_of-size.ensures in
    gives_sheet values a.output.now c.in_ok-judge_values.ensures (Ok c.size_of-size.result) c.put_sheet.new.out (omega (arith, many, c.if-output-size.false)) (ap Ok many) c.put_sheet.ensures
