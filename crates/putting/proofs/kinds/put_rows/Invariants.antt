use Rattle.std.proofs.Common.{◌≤◌, length}
use Rattle.written.specs.Lent.{rows_lent}
use Rattle.putting.proofs.Standing.{Standing}
use Rattle.putting.proofs.UnbrokenColumns.{rows_left}
use Rattle.putting.proofs.kinds.put_rows.Given as goal

abbrev pub invariant-loop-number : goal.invariant-loop-number
invariant-loop-number l =
    record { inside : l.from ≤ length l.rows.gaps.now; standing : Standing (rows_lent l.rows) (rows_left l.rows l.number l.from) l.at l.initial.out l.out }
