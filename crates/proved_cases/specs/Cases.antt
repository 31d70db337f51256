-- The table of cases, and what it says of each: the sheet is accepted and the value is the one that the definitions give.
use Rattle.std.specs.Prelude.{ℕ, ◌≡◌, List, [], ◌∷◌, ℤ, pos, negsuc, Result}
use Rattle.meaning.specs.Demand.{IsDemand, IsWitness, IsShortest}
use Rattle.meaning.specs.Verdict.{IsMargin}
use Rattle.sheet.specs.Judging.{judged}
use Rattle.sheet.specs.Answer.{Accepted}
use Rattle.desk.specs.Answers.{shortest_numbers}
use Rattle.beginning.specs.Beginning.{graph, tasks}
use Rattle.desk.specs.Calls.{ShortestCall}
use Rattle.desk.specs.Agreement.{WithRoom}
use Rattle.fields.specs.declared.refusal.Refusal.{Refusal}
use Rattle.proved_cases.specs.Sheets.{sheet_a, sheet_a_with_task, sheet_b, sheet_hangs_on, sheet_late_release}

-- a value of a sheet: its demand at an interval, with or without the witness, its shortest interval for an amount, its margin; or the number by which `shortest` refuses an amount
pub data Case : Type 0 where
  demand : List ℕ → ℕ → ℕ → Case
  witness : List ℕ → ℕ → ℕ → List ℕ → Case
  shortest : List ℕ → ℕ → ℕ → Case
  refused : List ℕ → ℕ → ℕ → Case
  margin : List ℕ → ℕ → ℤ → Case

abbrev pub Accepts : List ℕ → Type 0
Accepts bytes = (judged bytes).answer ≡ Accepted

-- what a case says
abbrev pub Holds : Case → Type 0
Holds (demand bytes t d) = Accepts bytes × IsDemand (graph bytes) t d
Holds (witness bytes t d rows) = Accepts bytes × IsDemand (graph bytes) t d × IsWitness (graph bytes) t rows
Holds (shortest bytes b time) = Accepts bytes × IsShortest (graph bytes) b time
Holds (refused bytes b number) =
    Accepts bytes
    × ((answer : Result ℕ Refusal) → WithRoom bytes b (ShortestCall bytes b) answer → (shortest_numbers answer).number ≡ number)
Holds (margin bytes t m) = Accepts bytes × IsMargin (graph bytes) (tasks bytes) t m

-- every case of a table holds
abbrev pub All : List Case → Type 0
All [] = Unit {0}
All (c ∷ cases) = Holds c × All cases

unfoldable pub cases : List Case
cases =
    witness sheet_a 0 0 []
    ∷ witness sheet_a 2 0 []
    ∷ witness sheet_a 3 3 (1 ∷ [])
    ∷ witness sheet_a 6 5 (0 ∷ [])
    ∷ witness sheet_a 7 6 (1 ∷ 1 ∷ [])
    ∷ witness sheet_a 9 8 (0 ∷ 1 ∷ [])
    ∷ demand sheet_a 11 9
    ∷ witness sheet_a 13 11 (0 ∷ 1 ∷ 1 ∷ [])
    ∷ shortest sheet_a 1 3
    ∷ shortest sheet_a 7 9
    ∷ shortest sheet_a 10 13
    ∷ margin sheet_a_with_task 4 (negsuc 0)
    ∷ margin sheet_a_with_task 3 (pos 0)
    ∷ witness sheet_b 5 4 (0 ∷ [])
    ∷ refused sheet_b 5 14
    ∷ witness sheet_hangs_on 14 10 (1 ∷ 2 ∷ [])
    ∷ shortest sheet_hangs_on 8 14
    ∷ margin sheet_hangs_on 14 (negsuc 0)
    ∷ margin sheet_late_release 7 (pos 7)
    ∷ margin sheet_late_release 8 (pos 4)
    ∷ margin sheet_late_release 10 (negsuc 0)
    ∷ []
