-- Where the demand of a fixed task rises: where its next job falls due.
use Prim.Native.Nat.{ℕ, ◌+◌, ◌-◌, ◌*◌, ◌/◌, ◌≤◌, ◌<◌, min}
use native.Mathlib.Nat.{mul-div-le, lt-mul-div-succ}
use native.Mathlib.Omega.{arith}
use mathlib.Core.Path.{◌≡◌}
use Rattle.meaning.specs.Fixed.{Task, fixed_of}
use Rattle.overruns.proofs.Releases.{NextDue, fixed_by_jobs, due_now}
use Rattle.steps.specs.Rising.{Rises, IsNextRise}

-- after a task's first job one falls due a period later for each that came before
pub due_after_lem : (task : Task) → 1 ≤ task.period → (first from : ℕ) → first + task.jitter ≡ task.deadline → first < from
    → NextDue task (from - 1) (first + ((from - first - 1) / task.period + 1) * task.period)
due_after_lem task positive first from e h =
    let left : ℕ = from - first - 1 in
    let below : task.period * (left / task.period) ≤ left = mul-div-le left task.period in
    let above : left < task.period * (left / task.period + 1) = lt-mul-div-succ left positive in
    record { jobs = left / task.period + 1; is = omega (arith, e); after = omega arith; first = omega (arith, e) }

-- where a task's next job falls due at `due`, its demand rises there and not before
module _ (task : Task) (work : 1 ≤ task.length) (positive : 1 ≤ task.period) (from : ℕ) (some : 1 ≤ from) (due : ℕ) (next : NextDue task (from - 1) due) where
  -- it stays the next one up to then
  abbrev still : (t : ℕ) → from - 1 ≤ t → t < due → NextDue task t due
  still t a b = record { jobs = next.jobs; is = next.is; after = b; first = omega (arith, next.first) }

  flat_before : (t : ℕ) → from ≤ t → t < due → Rises (fixed_of task) t → ⊥
  flat_before t a b up =
      omega (
        arith,
        up,
        fixed_by_jobs task positive t due (still t (omega arith) b),
        fixed_by_jobs task positive (t - 1) due (still (t - 1) (omega arith) (omega arith)),
      )

  rises_there : Rises (fixed_of task) due
  rises_there =
      let last : due ≡ due - 1 + 1 = omega (arith, next.after) in
      let grown : fixed_of task (due - 1 + 1) ≡ fixed_of task (due - 1) + task.length =
      (due_now task positive (due - 1) due (still (due - 1) (omega (arith, next.after)) (omega (arith, next.after))) last).1 in
      omega (arith, rw (← last) at grown)

  pub next_rise_is_due : (horizon : ℕ) → from ≤ horizon + 1 → IsNextRise (fixed_of task) horizon from (min due (horizon + 1))
  next_rise_is_due horizon h = record {
    at_least = omega (arith, next.after);
    at_most = omega arith;
    rises = λ l. let same : min due (horizon + 1) ≡ due = omega arith in rw same rises_there;
    first = λ t a b. flat_before t a (omega arith);
  }
