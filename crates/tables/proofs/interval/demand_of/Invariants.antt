use mathlib.Core.Path.{◌≡◌}
use Rattle.meaning.specs.Computed.{cell_at, max_below}
use Rattle.tables.proofs.interval.demand_of.Given as goal

abbrev pub invariant-loop-cell : goal.invariant-loop-cell
invariant-loop-cell l = l.most ≡ max_below l.cell-index (cell_at l.n l.cells l.t)
