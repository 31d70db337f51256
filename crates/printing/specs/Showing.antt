-- What is asked of cells that are printed as the curve of a sheet.
use Rattle.std.specs.Prelude.{ℕ, ◌+◌, ◌*◌, ◌≤◌, List, length}
use Rattle.meaning.specs.Demand.{longest_time, IsDemand}
use Rattle.tables.specs.Lines.{demand_in}
use Rattle.beginning.specs.Beginning.{graph}

-- cells show the curve of a sheet up to a horizon: the largest of each line is the demand at its interval
pub record ShowsCurve (bytes : List ℕ) (rows horizon : ℕ) (cells : List ℕ) : Type 0 where
  pub in_range : horizon ≤ longest_time
  pub room : rows * (horizon + 1) ≤ length cells
  pub demands : (t : ℕ) → t ≤ horizon → IsDemand (graph bytes) t (demand_in rows cells t)
