use Prim.Native.Nat.{◌+◌, ◌*◌}
use Rattle.meaning.specs.Cells.{Filled}
use Rattle.beginning.specs.Beginning.{graph}
use Rattle.filling.proofs.fill_line.Given as goal

abbrev pub invariant-loop-k : goal.invariant-loop-k
invariant-loop-k g l = Filled l.rows.count (g.T.Table.right (graph l.rows.bytes.now)) l.initial.cells l.cells (l.line * l.rows.count + l.k)
