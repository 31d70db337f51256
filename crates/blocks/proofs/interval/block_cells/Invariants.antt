use Prim.Native.Nat.{◌+◌}
use lib.ListN.{get_or}
use Rattle.tables.proofs.Storing.{Stored}
use Rattle.blocks.specs.Blocks.{block_size, due_work}
use Rattle.blocks.proofs.interval.block_cells.Given as goal

abbrev pub invariant-loop-i : goal.invariant-loop-i
invariant-loop-i l = Stored (λ m. due_work l.deadline l.work (l.s + m) (get_or l.most m 0)) block_size l.column l.i
