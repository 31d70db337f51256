-- What one pass over the intervals shows, and what is told of an overrun: for the inner functions of `explain`.
use Rattle.std.specs.Prelude.{ℕ, ◌+◌, ◌≡◌, List, eqb, pos}
use Rattle.meaning.specs.Graph.{Graph, Sound}
use Rattle.meaning.specs.Cells.{ByInterval}
use Rattle.meaning.specs.Fixed as fixed
use Rattle.meaning.specs.Fixed.{fixed_sum}
use Rattle.meaning.specs.Verdict.{holds, overrun, IsVerdict}
use Rattle.fields.specs.Deciding.{pick}
use Rattle.fields.specs.declared.values.Task.{Task}
use Rattle.tables.specs.Lines.{HasLines, demand_in}
use Rattle.overruns.specs.Releases.{counted_tasks}
use Rattle.explain.specs.Reasons.{Sums, IsSmallestMargin}
use Rattle.explain.specs.Calls.{failing}
use Rattle.explain.specs.declared.Cause.{Cause}
use Rattle.explain.specs.declared.Overrun.{Overrun}
use Rattle.explain.specs.declared.looking.Tightest.{Tightest}
use Rattle.explain.specs.declared.looking.Tightest.TheVariants as tightest-case

-- what is said of a graph and of fixed tasks up to a horizon
abbrev pub Shows : Graph → List fixed.Task → ℕ → Tightest → Type 0
Shows g tasks horizon tightest-case.Nothing = horizon ≡ 0
Shows g tasks horizon (tightest-case.Margin margin t) = IsVerdict g tasks horizon holds × IsSmallestMargin g tasks horizon t (pos margin)
Shows g tasks horizon (tightest-case.Overrun t fixed) = IsVerdict g tasks horizon (overrun t) × (fixed ≡ fixed_sum tasks t)

-- what is found where no interval is overrun: a margin and its interval, or nothing where there is no interval
unfoldable pub smallest_at : ℕ → ℕ → Tightest
smallest_at margin t =
    let found = tightest-case.Margin margin t in
    pick (eqb t 0) tightest-case.Nothing found

-- whatever sound graph of n rows it is, if the cells hold its lines by interval up to the horizon, what is found is so
abbrev pub IsTightest : ℕ → List Task → ℕ → List ℕ → ℕ → Tightest → Type 0
IsTightest n tasks count cells horizon found =
    (g : Graph) → Sound g → g.rows ≡ n → HasLines n (ByInterval g) cells (horizon + 1) → Shows g (counted_tasks tasks count) horizon found

-- what is told of an overrun whose witness has so many rows, with the cause whose sums hold
abbrev pub ToldAt : ℕ → List Task → ℕ → List ℕ → ℕ → ℕ → ℕ → Overrun → Type 0
ToldAt n tasks count cells t fixed shown told =
    let engine = demand_in n cells t in
    (cause : Cause) × Sums cause t engine fixed × (told ≡ failing (counted_tasks tasks count) t cause engine shown)
