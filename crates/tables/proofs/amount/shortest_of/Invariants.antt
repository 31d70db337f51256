use Rattle.meaning.specs.Computed.{cell_for, min_below}
use Rattle.meaning.specs.Demand.{no_time}
use mathlib.Core.Path.{◌≡◌}
use Rattle.tables.proofs.amount.shortest_of.Given as goal

abbrev pub invariant-loop-cell : goal.invariant-loop-cell
invariant-loop-cell l = l.least ≡ min_below l.cell-index no_time (cell_for l.n l.cells l.amount)
