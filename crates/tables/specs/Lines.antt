-- An area of cells that holds lines of a table, whatever stands behind them.
use Rattle.std.specs.Prelude.{ℕ, ◌*◌, ◌≤◌, ◌<◌, List, length}
use Rattle.meaning.specs.Computed.{cell_at, max_below}

-- its first lines, of n cells each, are right, as `Right line k v` says of the value v of row k in a line
pub record HasLines (n : ℕ) (Right : ℕ → ℕ → ℕ → Type 0) (cells : List ℕ) (lines : ℕ) : Type 0 where
  pub room : n * lines ≤ length cells
  pub right : (line k : ℕ) → line < lines → k < n → Right line k (cell_at n cells line k)

-- demand at an interval as the cells by interval have it: the largest of its line
abbrev pub demand_in : ℕ → List ℕ → ℕ → ℕ
demand_in rows cells interval = max_below rows (cell_at rows cells interval)
