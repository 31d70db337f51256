use Rattle.beginning.specs.Beginning.{graph}
use Rattle.filling.proofs.Columns.{Blocked}
use Rattle.filling.proofs.fill_block.Given as goal

abbrev pub invariant-loop-k : goal.invariant-loop-k
invariant-loop-k g l = Blocked l.rows.count (g.T.Table.right (graph l.rows.bytes.now)) l.initial.cells l.cells l.line l.k
