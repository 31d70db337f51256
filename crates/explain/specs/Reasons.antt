-- Why a verdict is what it is: the cause of an overrun, what each fixed task asks for there, and the smallest margin where nothing is overrun.
use Rattle.std.specs.Prelude.{ℕ, ◌+◌, ◌-◌, ◌≤◌, ◌<◌, List, map, ℤ, ◌≤ℤ◌}
use Rattle.meaning.specs.Graph.{Graph}
use Rattle.meaning.specs.Demand.{IsDemand}
use Rattle.meaning.specs.Fixed.{Task, fixed_of, fixed_sum}
use Rattle.meaning.specs.Verdict.{IsMargin}
use Rattle.explain.specs.declared.Cause.{Cause}
use Rattle.explain.specs.declared.Cause.TheVariants.{Engine, Fixed, Together}

-- the engine task alone exceeds the interval t, whatever the fixed tasks ask for
abbrev pub EngineAlone : ℕ → ℕ → ℕ → Type 0
EngineAlone t engine fixed = t < engine

-- the fixed tasks alone exceed it, and the engine task alone does not
abbrev pub FixedAlone : ℕ → ℕ → ℕ → Type 0
FixedAlone t engine fixed = (engine ≤ t) × (t < fixed)

-- neither of them exceeds it alone, and together they do
abbrev pub OnlyTogether : ℕ → ℕ → ℕ → Type 0
OnlyTogether t engine fixed = (engine ≤ t) × (fixed ≤ t) × (t < engine + fixed)

-- the sums of each cause, for an interval, the engine's demand and fixed demand
abbrev pub Sums : Cause → ℕ → ℕ → ℕ → Type 0
Sums Engine = EngineAlone
Sums Fixed = FixedAlone
Sums Together = OnlyTogether

-- the cause at t: the one whose sums hold, with the engine's demand there
abbrev pub IsCause : Graph → List Task → ℕ → Cause → Type 0
IsCause g tasks t cause = (engine : ℕ) × IsDemand g t engine × Sums cause t engine (fixed_sum tasks t)

-- the excess: both demands together less the interval
abbrev pub excess_of : ℕ → ℕ → ℕ → ℕ
excess_of t engine fixed = engine + fixed - t

-- m is the smallest margin of the intervals from 1 to H, and t is the earliest of those that have it
pub record IsSmallestMargin (g : Graph) (tasks : List Task) (H t : ℕ) (m : ℤ) : Type 0 where
  pub bound : (u : ℕ) (n : ℤ) → 1 ≤ u → u ≤ H → IsMargin g tasks u n → m ≤ℤ n
  pub reached : (1 ≤ t) × (t ≤ H) × IsMargin g tasks t m
  pub earliest : (u : ℕ) → 1 ≤ u → u < t → IsMargin g tasks u m → ⊥

-- what each fixed task asks for at t, one after the other
abbrev pub each_demand : List Task → ℕ → List ℕ
each_demand tasks t = map (λ (task : Task). fixed_of task t) tasks
