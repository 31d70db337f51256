use Prim.Native.Nat.{◌*◌}
use Rattle.meaning.specs.Cells.{Filled}
use Rattle.beginning.specs.Beginning.{graph}
use Rattle.filling.proofs.fill_lines.Given as goal

abbrev pub invariant-loop-line : goal.invariant-loop-line
invariant-loop-line g l = Filled l.rows.count (g.T.Table.right (graph l.rows.bytes.now)) l.initial.cells l.cells (l.rows.count * l.line)
