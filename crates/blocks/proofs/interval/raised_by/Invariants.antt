use Prim.Native.Nat.{◌+◌, ◌*◌, max}
use lib.ListN.{get_or}
use mathlib.Core.Path.{◌≡◌}
use Rattle.tables.proofs.Storing.{Stored}
use Rattle.blocks.specs.Blocks.{block_size}
use Rattle.blocks.proofs.interval.raised_by.Given as goal

abbrev pub invariant-loop-i : goal.invariant-loop-i
invariant-loop-i l = (l.from ≡ l.first + l.i * l.n) × Stored (λ m. max (get_or l.most m 0) (get_or l.cells (l.first + m * l.n) 0)) block_size l.more l.i
