-- Fixed demand: before and from when a task's first job falls due, that it counts the jobs that fall due, task after task, that it never falls, and how large it can be.
use mathlib.Core.Path.{◌≡◌, refl, ◌∙◌, sym, ap}
use mathlib.Core.Logic.{⊎_elim}
use mathlib.Core.Bool.{cond}
use mathlib.Core.List.{List, [], ◌∷◌, ◌++◌}
use Prim.Native.Nat.{ℕ, zero, suc, ◌+◌, ◌*◌, ◌-◌, ◌/◌, ◌≤◌, ◌<◌, min}
use native.Mathlib.Nat.{mul-zero, mul-le-mul, div-le_self, div-zero, div-mul-le_self, le-div_iff_mul-le, div-lt_iff_lt-mul}
use native.Mathlib.Omega.{arith}
use lib.Dec.{ltb}
use lib.ListN.{length, take, get_or}
use lib.Seq.{take-suc}
use borrow.Author.Tests.{le-leb, lt-leb, lt-ltb, le-ltb}
use Rattle.meaning.specs.Fixed.{Task, fixed_of, jobs_due, fixed_sum}
use Rattle.meaning.proofs.Tests.{lt_or}

module _ (task : Task) (t : ℕ) where
  -- while the interval and the jitter are below its deadline a task asks for nothing
  pub fixed_before : t + task.jitter < task.deadline → fixed_of task t ≡ 0
  unfolding fixed_of
  fixed_before h = rw (lt-ltb (t + task.jitter) task.deadline h)

  -- from then on it asks for its length once, and once more for each whole period
  pub fixed_from : task.deadline ≤ t + task.jitter → fixed_of task t ≡ task.length * (1 + (t + task.jitter - task.deadline) / task.period)
  unfolding fixed_of
  fixed_from h = rw (le-ltb (t + task.jitter) task.deadline h)

  -- without jitter it is the fixed demand of a task whose jobs are released on its clock
  pub no_jitter : task.jitter ≡ 0 → fixed_of task t ≡ cond (ltb t task.deadline) 0 (task.length * (1 + (t - task.deadline) / task.period))
  unfolding fixed_of
  no_jitter none =
      let alone : t + task.jitter ≡ t = omega (arith, none) in
      rw alone refl

  -- where exactly the first `jobs` jobs fall due, so many of the first n do, but no more than n
  jobs_in_order : (jobs : ℕ)
      → ((k : ℕ) → k < jobs → k * task.period + task.deadline ≤ t + task.jitter)
      → ((k : ℕ) → jobs ≤ k → t + task.jitter < k * task.period + task.deadline)
      → (n : ℕ) → jobs_due task t n ≡ min n jobs
  unfolding jobs_due
  jobs_in_order jobs due not-due zero = omega arith
  jobs_in_order jobs due not-due (suc k) =
      ⊎_elim
      (λ l. rw (le-leb (k * task.period + task.deadline) (t + task.jitter) (due k l)) (omega (arith, jobs_in_order jobs due not-due k)))
      (λ l. rw (lt-leb (k * task.period + task.deadline) (t + task.jitter) (not-due k l)) (omega (arith, jobs_in_order jobs due not-due k)))
      (lt_or k jobs)

  -- fixed demand is the length for each job that falls due; none from number t + jitter + 1 on does
  pub fixed_counts : (n : ℕ) → 1 ≤ task.period → t + task.jitter < n → fixed_of task t ≡ task.length * jobs_due task t n
  fixed_counts n positive h =
      ⊎_elim
      (λ l.
      let none : jobs_due task t n ≡ 0 = omega (arith, jobs_in_order 0 (λ k below. absurd (omega arith)) (λ k above. omega arith) n) in
      fixed_before l ∙ sym (rw none (mul-zero task.length)))
      (λ l.
      let over : ℕ = t + task.jitter - task.deadline in
      let few : over / task.period ≤ over = div-le_self over task.period in
      let some : jobs_due task t n ≡ 1 + over / task.period =
      omega (
        arith,
        few,
        jobs_in_order (1 + over / task.period)
            (λ k below. omega (arith, (le-div_iff_mul-le {k = task.period} {x = k} {y = over} positive).0 (omega arith)))
            (λ k above. omega (arith, (div-lt_iff_lt-mul {k = task.period} {x = over} {y = k} positive).0 (omega arith)))
            n,
      ) in
      rw some (fixed_from l))
      (lt_or (t + task.jitter) task.deadline)

  -- where its jitter is at most its deadline, a task asks for at most its length at each tick
  pub fixed_at_most : task.jitter ≤ task.deadline → fixed_of task t ≤ task.length * suc t
  fixed_at_most h =
      ⊎_elim
      (λ l. omega (arith, fixed_before l))
      (λ l. omega (
        arith,
        fixed_from l,
        mul-le-mul {n₁ = task.length} {m₁ = 1 + (t + task.jitter - task.deadline) / task.period} {n₂ = task.length} {m₂ = suc t}
            (omega arith)
            (omega (arith, div-le_self (t + task.jitter - task.deadline) task.period)),
      ))
      (lt_or (t + task.jitter) task.deadline)

-- the sum over tasks in two parts
pub fixed_parts : (tasks more : List Task) (t : ℕ) → fixed_sum (tasks ++ more) t ≡ fixed_sum tasks t + fixed_sum more t
unfolding fixed_sum
fixed_parts [] more t = omega arith
fixed_parts (task ∷ tasks) more t = omega (arith, fixed_parts tasks more t)

-- one more task
pub fixed_more : (tasks : List Task) (i : ℕ) (default : Task) (t : ℕ) → i < length tasks
    → fixed_sum (take (suc i) tasks) t ≡ fixed_sum (take i tasks) t + fixed_of (get_or tasks i default) t
unfolding fixed_sum
fixed_more tasks i default t h =
    ap (λ (l : List Task). fixed_sum l t) (take-suc tasks i default h)
    ∙ fixed_parts (take i tasks) (get_or tasks i default ∷ []) t
    ∙ omega arith

-- a longer time has at least as many whole periods
periods_grow : (period t u : ℕ) → t ≤ u → t / period ≤ u / period
periods_grow zero t u h = omega (arith, div-zero t)
periods_grow (suc period) t u h = (le-div_iff_mul-le {k = suc period} {x = t / suc period} {y = u} (omega arith)).1 (omega (arith, div-mul-le_self t (suc period)))

-- the task with another jitter
abbrev pub with_jitter : Task → ℕ → Task
with_jitter task jitter = record { length = task.length; period = task.period; deadline = task.deadline; jitter = jitter }

-- fixed demand never falls as the interval and the jitter together grow
grows_with_both : (task : Task) (t u jitter : ℕ) → t + task.jitter ≤ u + jitter → fixed_of task t ≤ fixed_of (with_jitter task jitter) u
grows_with_both task t u jitter h =
    ⊎_elim
    (λ l. omega (arith, fixed_before task t l))
    (λ l.
    let before : ℕ = t + task.jitter - task.deadline in
    let after : ℕ = u + jitter - task.deadline in
    omega (
      arith,
      fixed_from task t l,
      fixed_from (with_jitter task jitter) u (omega arith),
      mul-le-mul {n₁ = task.length} {m₁ = 1 + before / task.period} {n₂ = task.length} {m₂ = 1 + after / task.period}
          (omega arith)
          (omega (arith, periods_grow task.period before after (omega arith))),
    ))
    (lt_or (t + task.jitter) task.deadline)

-- a larger jitter never lowers it
pub jitter_grows : (task : Task) (t jitter : ℕ) → task.jitter ≤ jitter → fixed_of task t ≤ fixed_of (with_jitter task jitter) t
jitter_grows task t jitter h = grows_with_both task t t jitter (omega arith)

-- and it never falls as the interval grows
module _ (t u : ℕ) (h : t ≤ u) where
  pub fixed_grows : (task : Task) → fixed_of task t ≤ fixed_of task u
  fixed_grows task = grows_with_both task t u task.jitter (omega arith)

  pub fixed_sum_grows : (tasks : List Task) → fixed_sum tasks t ≤ fixed_sum tasks u
  unfolding fixed_sum
  fixed_sum_grows [] = omega arith
  fixed_sum_grows (task ∷ tasks) = omega (arith, fixed_grows task, fixed_sum_grows tasks)

-- a task of at most a length, whose jitter is at most its deadline
abbrev pub Bounded : ℕ → Task → Type 0
Bounded most task = (task.length ≤ most) × (task.jitter ≤ task.deadline)

-- all such tasks together ask for at most their number times that length at each tick
pub fixed_sum_at_most : (most : ℕ) (tasks : List Task) (default : Task) (t : ℕ) → ((i : ℕ) → i < length tasks → Bounded most (get_or tasks i default))
    → fixed_sum tasks t ≤ length tasks * (most * suc t)
unfolding fixed_sum
fixed_sum_at_most most [] default t h = omega arith
fixed_sum_at_most most (task ∷ tasks) default t h =
    let first : Bounded most task = h 0 (omega arith) in
    let here : task.length * suc t ≤ most * suc t = mul-le-mul first.0 (omega arith) in
    omega (arith, fixed_at_most task t first.1, fixed_sum_at_most most tasks default t (λ i l. h (suc i) (omega arith)))
