-- What it means that the calls of a sheet agree: demand and shortest interval are one curve, read by interval and by amount, and there is one verdict.
use Rattle.std.specs.Prelude.{ℕ, ◌+◌, ◌≤◌, ◌≡◌, ◌⊎◌, ◌↔◌, List, length, Option, Result, Ok, Err}
use Rattle.meaning.specs.Demand.{longest_time, IsDemand, Enough}
use Rattle.beginning.specs.Beginning.{graph, room_for}
use Rattle.desk.specs.Calls.{DemandCall, ShortestCall, VerdictByIntervalCall, VerdictByAmountCall}
use Rattle.fields.specs.Refusals.{refused}
use Rattle.fields.specs.declared.refusal.Reason.TheVariants.{NeverReached}
use Rattle.fields.specs.declared.refusal.Refusal.{Refusal}

-- an answer that a call allows where the cells lent are enough for a number of lines, whatever they hold
abbrev pub WithRoom : {A : Type 0} → List ℕ → ℕ → (List ℕ → A → List ℕ → Type 0) → A → Type 0
WithRoom bytes lines Call answer = (cells : List ℕ) × (cells' : List ℕ) × (room_for bytes lines ≤ length cells) × Call cells answer cells'

-- d is the demand at t: by its definition, or as `demand` answers it
abbrev pub DemandEitherWay : List ℕ → ℕ → ℕ → Type 0
DemandEitherWay bytes t d =
    IsDemand (graph bytes) t d
    ⊎ ((count : ℕ) × (cells : List ℕ) × (area : List ℕ) × (cells' : List ℕ) × (area' : List ℕ)
    × DemandCall bytes t cells area (Ok (record { amount = d; count = count })) cells' area')

-- an answer of `shortest` tells a time of at most t; a refusal tells no time
abbrev pub TellsBy : ℕ → Result ℕ Refusal → Type 0
TellsBy t (Ok time) = time ≤ t
TellsBy t (Err refusal) = ⊥

-- the three sentences, each with its statement below it; wherever a call is asked, it is lent cells enough
pub record CallsAgree (bytes : List ℕ) : Type 0 where
  -- For every interval t from 0 to 65,535 and every amount b from 1 to 65,536, the shortest interval for b is at most t exactly when the demand at t is at least b; refusal 14 is no interval.
  pub one_curve : (t b d : ℕ) (answer : Result ℕ Refusal) → t ≤ longest_time → 1 ≤ b → b ≤ longest_time + 1
      → WithRoom bytes b (ShortestCall bytes b) answer → DemandEitherWay bytes t d
      → TellsBy t answer ↔ (b ≤ d)
  -- For every such amount, `shortest` refuses by 14 exactly when no allowed sequence has the amount by 65,535.
  pub no_interval : (b : ℕ) (answer : Result ℕ Refusal) → 1 ≤ b → b ≤ longest_time + 1
      → WithRoom bytes b (ShortestCall bytes b) answer
      → (answer ≡ refused NeverReached 0) ↔ ((w : List ℕ) → Enough (graph bytes) b w → ⊥)
  -- At every horizon from 0 to 65,535 both verdicts are the same.
  pub one_verdict : (horizon : ℕ) (x y : Result (Option ℕ) Refusal) → horizon ≤ longest_time
      → WithRoom bytes (horizon + 1) (VerdictByIntervalCall bytes horizon) x → WithRoom bytes (horizon + 1) (VerdictByAmountCall bytes horizon) y
      → x ≡ y
