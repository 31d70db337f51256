-- What a verdict leaves in its cells, by what its table's cells are right for: for the inner functions that make both verdicts.
use Rattle.std.specs.Prelude.{ℕ, List}
use Rattle.meaning.specs.Graph.{Graph}
use Rattle.meaning.specs.Cells.{Filled}
use Rattle.beginning.specs.Beginning.{graph, rows, room_for}

-- the first lines of the table are filled and nothing else has changed
abbrev pub filled_by : (Graph → ℕ → ℕ → ℕ → Type 0) → List ℕ → ℕ → List ℕ → List ℕ → Type 0
filled_by Right bytes lines old new = Filled (rows bytes) (Right (graph bytes)) old new (room_for bytes lines)
