use Prim.Native.Nat.{◌+◌}
use Rattle.meaning.specs.Cells.{amount_of}
use Rattle.meaning.specs.Computed.{cell_for, least_at}
use Rattle.sheet.specs.Meaning.{gap_of}
use Rattle.tables.proofs.Storing.{Stored}
use Rattle.blocks.specs.Blocks.{block_size}
use Rattle.blocks.proofs.amount.first_times.Given as goal

abbrev pub invariant-loop-i : goal.invariant-loop-i
invariant-loop-i l = Stored (λ m. least_at l.n l.work l.row.deadline.0 (gap_of l.bytes l.row) (cell_for l.n l.cells) (amount_of (l.line + m))) block_size l.column l.i
