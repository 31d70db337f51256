-- What `explain` promises: the answer, the demands of the fixed tasks, every lent cell and every byte of the witness area, for any bytes and any horizon.
use Rattle.std.specs.Prelude.{ℕ, ◌+◌, ◌≡◌, List, ◌++◌, eqb, pos, length, drop, replicate, Result, Ok}
use Rattle.meaning.specs.Demand.{IsDemand, IsWitness}
use Rattle.meaning.specs.Fixed.{Task, fixed_sum}
use Rattle.meaning.specs.Verdict.{Verdict, holds, overrun, IsVerdict}
use Rattle.fields.specs.Deciding.{pick}
use Rattle.fields.specs.Limits.{task_limit}
use Rattle.sheet.specs.Judging.{judged}
use Rattle.beginning.specs.Beginning.{graph, tasks, FilledByInterval, interval_rules, Begins}
use Rattle.beginning.specs.Showing.{WitnessShown}
use Rattle.explain.specs.Reasons.{Sums, excess_of, IsSmallestMargin, each_demand}
use Rattle.explain.specs.declared.Cause.{Cause}
use Rattle.explain.specs.declared.Explained.{Explained}
use Rattle.explain.specs.declared.Explained.TheVariants.{Holds, NoInterval, Fails}
use Rattle.explain.specs.declared.Overrun.{Overrun}
use Rattle.fields.specs.Refusals.{refused}
use Rattle.fields.specs.declared.refusal.Reason.{Reason}
use Rattle.fields.specs.declared.refusal.Reason.TheVariants.{ShortArea}
use Rattle.fields.specs.declared.refusal.Refusal.{Refusal}

-- a 0 for each of the most tasks that a sheet can have
abbrev pub no_demands : List ℕ
no_demands = replicate task_limit 0

-- the demands of the tasks at t in front of it, in file order: 0 past the last task
abbrev pub all_demands : List Task → ℕ → List ℕ
all_demands all t =
    let each : List ℕ = each_demand all t in
    each ++ drop (length each) no_demands

-- the overrun at t, with the demands of the tasks there
abbrev pub failing : List Task → ℕ → Cause → ℕ → ℕ → Overrun
failing all t cause engine count =
    record {
      interval = t;
      cause = cause;
      engine = engine;
      demands = all_demands all t;
      excess = excess_of t engine (fixed_sum all t);
      count = count;
    }

-- the refusals 1 to 12 change no lent cell or byte
abbrev pub ExplainRefuses : List ℕ → List ℕ → Result Explained Refusal → List ℕ → List ℕ → Reason → ℕ → Type 0
ExplainRefuses cells area explained cells' area' reason place =
    (explained ≡ refused reason place) × (cells' ≡ cells) × (area' ≡ area)

-- it fails at t: the cause (`IsCause`, with its parts), the numbers and the witness there, or rule 13 is broken
abbrev pub FailsAt : List ℕ → ℕ → List ℕ → Result Explained Refusal → List ℕ → Type 0
FailsAt bytes t area explained area' =
    (cause : Cause) × (engine : ℕ) × (witness : List ℕ)
    × IsDemand (graph bytes) t engine × IsWitness (graph bytes) t witness × Sums cause t engine (fixed_sum (tasks bytes) t)
    × WitnessShown witness area (Ok (Fails (failing (tasks bytes) t cause engine (length witness)))) (refused ShortArea 0) explained area'

-- it holds: the smallest margin with its earliest interval; where the horizon is 0 there is neither
abbrev pub HoldsTo : List ℕ → ℕ → Result Explained Refusal → Type 0
HoldsTo bytes horizon explained =
    pick (eqb horizon 0)
    (explained ≡ Ok NoInterval)
    ((t : ℕ) × (margin : ℕ) × IsSmallestMargin (graph bytes) (tasks bytes) horizon t (pos margin) × (explained ≡ Ok (Holds margin t)))

-- why the verdict is what it is; where it holds, the area is untouched
abbrev pub Explains : List ℕ → ℕ → List ℕ → Verdict → Result Explained Refusal → List ℕ → Type 0
Explains bytes horizon area holds explained area' = HoldsTo bytes horizon explained × (area' ≡ area)
Explains bytes horizon area (overrun t) explained area' = FailsAt bytes t area explained area'

-- the cells are all filled, also behind an overrun, as the verdict by interval leaves them
abbrev pub ExplainAnswers : List ℕ → ℕ → List ℕ → List ℕ → Result Explained Refusal → List ℕ → List ℕ → Type 0
ExplainAnswers bytes horizon cells area explained cells' area' =
    FilledByInterval bytes (horizon + 1) cells cells'
    × ((v : Verdict) × IsVerdict (graph bytes) (tasks bytes) horizon v × Explains bytes horizon area v explained area')

unfoldable pub ExplainCall : List ℕ → ℕ → List ℕ → List ℕ → Result Explained Refusal → List ℕ → List ℕ → Type 0
ExplainCall bytes horizon cells area explained cells' area' =
    Begins (judged bytes).answer (interval_rules bytes horizon (length cells))
    (ExplainRefuses cells area explained cells' area') (ExplainAnswers bytes horizon cells area explained cells' area')
