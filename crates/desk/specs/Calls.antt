-- What each call promises: the answer, every lent cell and every byte of the witness area, for any bytes and any numbers.
use Rattle.std.specs.Prelude.{ℕ, ◌+◌, ◌≡◌, List, eqb, length, ℤ, Option, Some, None, Result, Ok}
use Rattle.meaning.specs.Demand.{no_time, IsDemand, IsWitness, IsShortest}
use Rattle.meaning.specs.Verdict.{Verdict, holds, overrun, IsMargin, IsVerdict}
use Rattle.fields.specs.Deciding.{pick}
use Rattle.fields.specs.Refusals.{refused}
use Rattle.fields.specs.declared.refusal.Reason.{Reason}
use Rattle.fields.specs.declared.refusal.Reason.TheVariants.{ShortArea, NeverReached}
use Rattle.fields.specs.declared.refusal.Refusal.{Refusal}
use Rattle.sheet.specs.Judging.{judged}
use Rattle.beginning.specs.Beginning.{graph, tasks, FilledByInterval, FilledByAmount, interval_rules, amount_rules, Begins}
use Rattle.beginning.specs.Showing.{WitnessShown}
use Rattle.desk.specs.declared.Attained.{Attained}

-- a refused demand changes no lent cell or byte
abbrev pub DemandRefuses : List ℕ → List ℕ → Result Attained Refusal → List ℕ → List ℕ → Reason → ℕ → Type 0
DemandRefuses cells area answer cells' area' reason place =
    (answer ≡ refused reason place) × (cells' ≡ cells) × (area' ≡ area)

-- the amount and the witness as answered, or rule 13 is broken
abbrev pub DemandGives : List ℕ → Result Attained Refusal → List ℕ → ℕ → List ℕ → Type 0
DemandGives area answer area' amount witness =
    WitnessShown witness area (Ok (record { amount = amount; count = length witness })) (refused ShortArea 0) answer area'

-- demand at t
abbrev pub DemandAnswers : List ℕ → ℕ → List ℕ → List ℕ → Result Attained Refusal → List ℕ → List ℕ → Type 0
DemandAnswers bytes t cells area answer cells' area' =
    FilledByInterval bytes (t + 1) cells cells'
    × ((amount : ℕ) × (witness : List ℕ) × IsDemand (graph bytes) t amount × IsWitness (graph bytes) t witness
    × DemandGives area answer area' amount witness)

unfoldable pub DemandCall : List ℕ → ℕ → List ℕ → List ℕ → Result Attained Refusal → List ℕ → List ℕ → Type 0
DemandCall bytes t cells area answer cells' area' =
    Begins (judged bytes).answer (interval_rules bytes t (length cells))
    (DemandRefuses cells area answer cells' area') (DemandAnswers bytes t cells area answer cells' area')

abbrev pub MarginRefuses : List ℕ → Result ℤ Refusal → List ℕ → Reason → ℕ → Type 0
MarginRefuses cells answer cells' reason place = (answer ≡ refused reason place) × (cells' ≡ cells)

-- margin at t
abbrev pub MarginAnswers : List ℕ → ℕ → List ℕ → Result ℤ Refusal → List ℕ → Type 0
MarginAnswers bytes t cells answer cells' =
    FilledByInterval bytes (t + 1) cells cells'
    × ((m : ℤ) × IsMargin (graph bytes) (tasks bytes) t m × (answer ≡ Ok m))

unfoldable pub MarginCall : List ℕ → ℕ → List ℕ → Result ℤ Refusal → List ℕ → Type 0
MarginCall bytes t cells answer cells' =
    Begins (judged bytes).answer (interval_rules bytes t (length cells))
    (MarginRefuses cells answer cells') (MarginAnswers bytes t cells answer cells')

abbrev pub ShortestRefuses : List ℕ → Result ℕ Refusal → List ℕ → Reason → ℕ → Type 0
ShortestRefuses cells answer cells' reason place = (answer ≡ refused reason place) × (cells' ≡ cells)

-- the time as answered, or rule 14 is broken where no sequence reaches the amount
abbrev pub ShortestGives : Result ℕ Refusal → ℕ → Type 0
ShortestGives answer time = pick (eqb time no_time) (answer ≡ refused NeverReached 0) (answer ≡ Ok time)

-- the shortest interval for b
abbrev pub ShortestAnswers : List ℕ → ℕ → List ℕ → Result ℕ Refusal → List ℕ → Type 0
ShortestAnswers bytes b cells answer cells' =
    FilledByAmount bytes b cells cells'
    × ((time : ℕ) × IsShortest (graph bytes) b time × ShortestGives answer time)

unfoldable pub ShortestCall : List ℕ → ℕ → List ℕ → Result ℕ Refusal → List ℕ → Type 0
ShortestCall bytes b cells answer cells' =
    Begins (judged bytes).answer (amount_rules bytes b (length cells))
    (ShortestRefuses cells answer cells') (ShortestAnswers bytes b cells answer cells')

-- a verdict as it is answered: the first interval that is overrun, or none
abbrev pub first_overrun : Verdict → Option ℕ
first_overrun holds = None
first_overrun (overrun t) = Some t

abbrev pub VerdictRefuses : List ℕ → Result (Option ℕ) Refusal → List ℕ → Reason → ℕ → Type 0
VerdictRefuses cells answer cells' reason place = (answer ≡ refused reason place) × (cells' ≡ cells)

-- the verdict up to a horizon; `FilledBy` says which table the cells then hold, all of it, also where an early interval is overrun
abbrev pub VerdictAnswers : (List ℕ → ℕ → List ℕ → List ℕ → Type 0) → List ℕ → ℕ → List ℕ → Result (Option ℕ) Refusal → List ℕ → Type 0
VerdictAnswers FilledBy bytes horizon cells answer cells' =
    FilledBy bytes (horizon + 1) cells cells'
    × ((v : Verdict) × IsVerdict (graph bytes) (tasks bytes) horizon v × (answer ≡ Ok (first_overrun v)))

unfoldable pub VerdictCall : (List ℕ → ℕ → List ℕ → List ℕ → Type 0) → List ℕ → ℕ → List ℕ → Result (Option ℕ) Refusal → List ℕ → Type 0
VerdictCall FilledBy bytes horizon cells answer cells' =
    Begins (judged bytes).answer (interval_rules bytes horizon (length cells))
    (VerdictRefuses cells answer cells') (VerdictAnswers FilledBy bytes horizon cells answer cells')

abbrev pub VerdictByIntervalCall : List ℕ → ℕ → List ℕ → Result (Option ℕ) Refusal → List ℕ → Type 0
VerdictByIntervalCall = VerdictCall FilledByInterval

abbrev pub VerdictByAmountCall : List ℕ → ℕ → List ℕ → Result (Option ℕ) Refusal → List ℕ → Type 0
VerdictByAmountCall = VerdictCall FilledByAmount
