-- The margin at an interval, and the verdict up to a horizon.
use Rattle.std.specs.Prelude.{◌≡◌, List, ℕ, ◌≤◌, ◌<◌, ℤ, pos, ◌-ℤ◌, ◌≤ℤ◌, ◌<ℤ◌}
use Rattle.meaning.specs.Graph.{Graph}
use Rattle.meaning.specs.Demand.{IsDemand}
use Rattle.meaning.specs.Fixed.{Task, fixed_sum}

-- the margin at t: what is left of t after the engine's demand and the fixed demand, below 0 where they are more
abbrev pub IsMargin : Graph → List Task → ℕ → ℤ → Type 0
IsMargin g tasks t m = (d : ℕ) × IsDemand g t d × (m ≡ pos t -ℤ pos d -ℤ pos (fixed_sum tasks t))

-- the margin at t is at least 0
abbrev pub Meets : Graph → List Task → ℕ → Type 0
Meets g tasks t = (m : ℤ) × IsMargin g tasks t m × (pos 0 ≤ℤ m)

-- the margin at t is below 0
abbrev pub Overruns : Graph → List Task → ℕ → Type 0
Overruns g tasks t = (m : ℤ) × IsMargin g tasks t m × (m <ℤ pos 0)

-- a verdict: all is well, or the interval that is overrun
pub data Verdict : Type 0 where
  holds : Verdict
  overrun : ℕ → Verdict

-- the verdict up to H: it holds where every interval from 1 to H is met, and else it names the first of them that is overrun
abbrev pub IsVerdict : Graph → List Task → ℕ → Verdict → Type 0
IsVerdict g tasks H holds = (t : ℕ) → 1 ≤ t → t ≤ H → Meets g tasks t
IsVerdict g tasks H (overrun t) = (1 ≤ t) × (t ≤ H) × Overruns g tasks t × ((u : ℕ) → 1 ≤ u → u < t → Meets g tasks u)
