-- The test of an interval by the lines of a table: whether fixed demand and demand together are more than it.
use Rattle.std.specs.Prelude.{◌≡◌, Bool, true, false, ◌||◌, List, ℕ, ◌+◌, ◌-◌, ◌≤◌, leb, ltb}
use Rattle.meaning.specs.Graph.{Graph, Sound}
use Rattle.meaning.specs.Demand.{longest_time, no_time}
use Rattle.meaning.specs.Computed.{cell_at, cell_for, max_below, min_below}
use Rattle.meaning.specs.Fixed.{Task, fixed_sum}
use Rattle.meaning.specs.Verdict.{Meets, Overruns}
use Rattle.tables.specs.Lines.{HasLines}

-- an overrun at t by the cells by interval: the largest of its line and fixed demand are more than t
abbrev pub over_at : ℕ → List ℕ → ℕ → ℕ → Bool
over_at n cells t fixed = ltb t (max_below n (cell_at n cells t) + fixed)

-- an overrun at t by the cells by amount: fixed demand alone is more than t, or what it leaves and one more is reached by t
abbrev pub reached_at : ℕ → List ℕ → ℕ → ℕ → Bool
reached_at n cells t fixed =
    let reached = leb (min_below n no_time (cell_for n cells (t - fixed + 1))) t in
    ltb t fixed || reached

-- a test with fixed demand says of every interval up to the horizon whether it is overrun
abbrev pub Decides : Graph → List Task → ℕ → (ℕ → ℕ → Bool) → Type 0
Decides g tasks horizon over =
    (t : ℕ) → t ≤ horizon
    → (over t (fixed_sum tasks t) ≡ true → Overruns g tasks t) × (over t (fixed_sum tasks t) ≡ false → Meets g tasks t)

-- and so it does for whatever sound graph of n rows, if the cells hold the lines of its table up to the horizon
abbrev pub IsTest : (Graph → ℕ → ℕ → ℕ → Type 0) → (ℕ → List ℕ → ℕ → ℕ → Bool) → Type 0
IsTest Right over =
    (g : Graph) → Sound g → (n : ℕ) → g.rows ≡ n → (tasks : List Task) (cells : List ℕ) (horizon : ℕ) → horizon ≤ longest_time
    → HasLines n (Right g) cells (horizon + 1) → Decides g tasks horizon (over n cells)
