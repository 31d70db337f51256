use Prim.Native.Nat.{ℕ, ◌≤◌, ◌<◌}
use Rattle.blocks.specs.Blocks.{block_size}
use Rattle.filling.specs.Reaching.{row_reach}
use Rattle.filling.proofs.blocked_lines.Given as goal

abbrev pub invariant-loop-k : goal.invariant-loop-k
invariant-loop-k g l = (j : ℕ) → j < l.k → block_size ≤ row_reach g.T.Fillable.reach l.rows.bytes.now j
