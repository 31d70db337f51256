-- The engine task as a graph: its rows, what a job at each of them takes, and how soon the next job may come.
use Rattle.std.specs.Prelude.{ℕ, ◌≤◌, ◌<◌}

-- rows count from 0; a job at row j comes `gap k j` after one at row k, where a gap of 0 says that it may not follow
pub record Graph : Type 0 where
  pub rows : ℕ
  pub length : ℕ → ℕ
  pub deadline : ℕ → ℕ
  pub gap : ℕ → ℕ → ℕ

-- no row has a length or a deadline of 0, and what follows a row comes no sooner than that row's deadline
pub record Sound (g : Graph) : Type 0 where
  pub length_positive : (k : ℕ) → k < g.rows → 1 ≤ g.length k
  pub deadline_positive : (k : ℕ) → k < g.rows → 1 ≤ g.deadline k
  pub gap_at_least_deadline : (k j : ℕ) → k < g.rows → j < g.rows → 0 < g.gap k j → g.deadline k ≤ g.gap k j
