-- What a sweep over the intervals up to a horizon answers.
use Rattle.std.specs.Prelude.{◌≡◌, List, ℕ, ◌+◌, Option, Some, None}
use Rattle.meaning.specs.Graph.{Graph, Sound}
use Rattle.meaning.specs.Verdict.{Verdict, holds, overrun, IsVerdict}
use Rattle.fields.specs.declared.values.Task.{Task}
use Rattle.tables.specs.Lines.{HasLines}
use Rattle.overruns.specs.Releases.{counted_tasks}

-- the verdict that an answer stands for: the first overrun, or none
abbrev pub verdict_of : Option ℕ → Verdict
verdict_of None = holds
verdict_of (Some t) = overrun t

-- whatever sound graph of n rows it is, if the cells hold the lines of its table up to the horizon, the answer is the verdict
abbrev pub IsSwept : (Graph → ℕ → ℕ → ℕ → Type 0) → ℕ → List Task → ℕ → List ℕ → ℕ → Option ℕ → Type 0
IsSwept Right n tasks count cells horizon answer =
    (g : Graph) → Sound g → g.rows ≡ n → HasLines n (Right g) cells (horizon + 1) → IsVerdict g (counted_tasks tasks count) horizon (verdict_of answer)
