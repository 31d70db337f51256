-- What is found where a call refuses nothing more: for the inner functions, whose callers make the answer of it.
use Rattle.std.specs.Prelude.{ℕ, ◌+◌, ◌≡◌, List, ℤ, Option}
use Rattle.meaning.specs.Verdict.{Verdict, IsMargin, IsVerdict}
use Rattle.beginning.specs.Beginning.{graph, tasks, FilledByInterval}
use Rattle.desk.specs.Calls.{first_overrun}

-- the margin at t
abbrev pub MarginFound : List ℕ → ℕ → List ℕ → ℤ → List ℕ → Type 0
MarginFound bytes t cells m cells' =
    FilledByInterval bytes (t + 1) cells cells' × IsMargin (graph bytes) (tasks bytes) t m

-- the first overrun up to a horizon, or none; `FilledBy` says which table the cells then hold
abbrev pub VerdictFound : (List ℕ → ℕ → List ℕ → List ℕ → Type 0) → List ℕ → ℕ → List ℕ → Option ℕ → List ℕ → Type 0
VerdictFound FilledBy bytes horizon cells found cells' =
    FilledBy bytes (horizon + 1) cells cells'
    × ((v : Verdict) × IsVerdict (graph bytes) (tasks bytes) horizon v × (found ≡ first_overrun v))
