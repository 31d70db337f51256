use Prim.Native.Nat.{◌+◌, ◌*◌, min}
use lib.ListN.{get_or}
use mathlib.Core.Path.{◌≡◌}
use Rattle.meaning.specs.Computed.{time_or_none}
use Rattle.tables.proofs.Storing.{Stored}
use Rattle.blocks.specs.Blocks.{block_size}
use Rattle.blocks.proofs.amount.sooner_by.Given as goal

abbrev pub invariant-loop-i : goal.invariant-loop-i
invariant-loop-i l =
    (l.from ≡ l.first + l.i * l.n) × Stored (λ m. min (get_or l.soonest m 0) (time_or_none (l.gap.0 + get_or l.cells (l.first + m * l.n) 0))) block_size l.sooner l.i
