-- `fixed_of` meets its contract: the formula of the definition, which fits since neither a length nor a number of jobs is above 65,536.
use Prim.Native.Nat.{ℕ, ◌+◌, ◌-◌, ◌*◌, ◌/◌, ◌≤◌}
use Rattle.sheet.specs.Meaning.{times_of}
use Rattle.meaning.proofs.FixedTasks.{fixed_before, fixed_from}
use Rattle.meaning.specs.Demand.{longest_time}
use mathlib.Core.Path.{◌≡◌, ◌∙◌, sym, ap}
use native.Mathlib.Nat.{div-le_self, mul-le-mul}
use native.Mathlib.Omega.{arith}
use Rattle.overruns.proofs.tasks.fixed_of.Goals.{After-whole_periods-jobs}
use Rattle.overruns.proofs.tasks.fixed_of.Goals as goal

-- before the first job falls due
pub returns-then-t-first : goal.returns-then-t-first
returns-then-t-first c =
    (sym (fixed_before (times_of c.args.task) c.args.t (omega (arith, c.if-t-first.true, c.first_due-first.ensures, c.requires.proper_task.jitter))), omega arith)

-- the whole periods are no more than the ticks
periods_few : (c : After-whole_periods-jobs) → c.whole_periods-jobs.result ≤ longest_time
periods_few c = omega (arith, c.whole_periods-jobs.ensures, div-le_self (c.args.t - c.first_due-first.result) c.args.task.period.0, c.requires.in_range)

-- so what is asked for fits
work_few : (c : After-whole_periods-jobs) → c.args.task.length.0 * (1 + c.whole_periods-jobs.result) ≤ longest_time * (longest_time + 1)
work_few c = mul-le-mul {m₁ = 1 + c.whole_periods-jobs.result} {n₂ = longest_time} {m₂ = longest_time + 1} c.requires.proper_task.length.1 (omega (arith, periods_few c))

-- from then on
pub returns : goal.returns
returns c =
    let task = c.args.task in
    let late : task.deadline.0 ≤ c.args.t + task.jitter.0 = omega (arith, c.if-t-first.false, c.first_due-first.ensures, c.requires.proper_task.jitter) in
    let same : c.args.t - c.first_due-first.result ≡ c.args.t + task.jitter.0 - task.deadline.0 =
    omega (arith, c.if-t-first.false, c.first_due-first.ensures, c.requires.proper_task.jitter) in (
      ap (λ (jobs : ℕ). task.length.0 * (1 + jobs)) (c.whole_periods-jobs.ensures ∙ ap (λ (time : ℕ). time / task.period.0) same)
          ∙ sym (fixed_from (times_of task) c.args.t late),
      work_few (goal.at.returns c).After-whole_periods-jobs,
    )
