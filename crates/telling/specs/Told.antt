-- What may be printed of an answer: the numbers that the meaning gives, or a refusal of the sheet or of the number asked with, and never one for want of room.
use Rattle.std.specs.Prelude.{ℕ, suc, ◌≤◌, ◌≡◌, ◌⊎◌, List, ℤ, pos, negsuc, length, take, Option, Some, None, Result, Ok, Err}
use Rattle.meaning.specs.Demand.{longest_time, no_time, IsDemand, IsWitness, IsShortest}
use Rattle.meaning.specs.Verdict.{Verdict, holds, overrun, IsMargin, IsVerdict}
use Rattle.sheet.specs.Judging.{judged}
use Rattle.sheet.specs.Answer as sheet-case
use Rattle.beginning.specs.Beginning.{graph, tasks, rows, bad_amount}
use Rattle.desk.specs.declared.Attained.{Attained}
use Rattle.fields.specs.declared.refusal.Reason.TheVariants.{NeverReached}
use Rattle.fields.specs.declared.refusal.Refusal.{Refusal}
use Rattle.printing.specs.Showing.{ShowsCurve}
use Rattle.telling.specs.declared.at.Signed.{Signed}
use Rattle.telling.specs.declared.at.Signed.TheVariants.{Spare, Missing}
use Rattle.printing.specs.Refusals.{bad_interval, RefusedBy}

-- the sheet is accepted, cells show its curve up to a horizon, and v is the verdict
abbrev pub CurveOf : List ℕ → ℕ → List ℕ → Verdict → Type 0
CurveOf bytes horizon cells v =
    ((judged bytes).answer ≡ sheet-case.Accepted) × ShowsCurve bytes (rows bytes) horizon cells × IsVerdict (graph bytes) (tasks bytes) horizon v

-- the curve up to a horizon with its verdict
abbrev pub CurveTold : List ℕ → ℕ → List ℕ → Result (Option ℕ) Refusal → Type 0
CurveTold bytes horizon cells (Ok None) = CurveOf bytes horizon cells holds
CurveTold bytes horizon cells (Ok (Some interval)) = CurveOf bytes horizon cells (overrun interval)
CurveTold bytes horizon cells (Err refusal) = RefusedBy bytes (bad_interval horizon) refusal

-- the demand at t, with the rows of its witness at the front of the area
abbrev pub DemandTold : List ℕ → ℕ → List ℕ → Result Attained Refusal → Type 0
DemandTold bytes t area (Ok attained) =
    IsDemand (graph bytes) t attained.amount × IsWitness (graph bytes) t (take attained.count area) × (attained.count ≤ length area)
DemandTold bytes t area (Err refusal) = RefusedBy bytes (bad_interval t) refusal

-- the margin at t
abbrev pub MarginTold : List ℕ → ℕ → Result ℤ Refusal → Type 0
MarginTold bytes t (Ok margin) = IsMargin (graph bytes) (tasks bytes) t margin
MarginTold bytes t (Err refusal) = RefusedBy bytes (bad_interval t) refusal

-- the sign and the size of a margin
abbrev pub sign_of : ℤ → Signed
sign_of (pos n) = Spare n
sign_of (negsuc n) = Missing (suc n)

-- the shortest interval for b; 14 is told as none
abbrev pub ShortestTold : List ℕ → ℕ → Result ℕ Refusal → Type 0
ShortestTold bytes b (Ok time) = IsShortest (graph bytes) b time × (time ≤ longest_time)
ShortestTold bytes b (Err refusal) =
    RefusedBy bytes (bad_amount b) refusal ⊎ ((refusal.reason ≡ NeverReached) × IsShortest (graph bytes) b no_time)
