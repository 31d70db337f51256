use Rattle.written.specs.Lent.{rows_lent}
use Rattle.written.proofs.EntriesFrom.{rows_from}
use Rattle.columns.proofs.Onward.{Onward}
use Rattle.columns.proofs.rows.judge_rows.Given as goal

abbrev pub invariant-loop-at : goal.invariant-loop-at
invariant-loop-at l =
    let rows = l.rows in
    Onward l.initial.so_far (rows_lent rows) l.so_far (rows_from rows.speeds.now rows.deadlines.now rows.sets.now l.left l.at 0)
