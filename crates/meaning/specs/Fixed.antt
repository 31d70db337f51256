-- The demand of the fixed-period tasks.
use Rattle.std.specs.Prelude.{cond, List, [], ◌∷◌, ℕ, zero, suc, ◌+◌, ◌*◌, ◌-◌, ◌/◌, leb, ltb}

-- a task whose clock strikes at least a period apart, with one job at each stroke: it has the length, is due the deadline after the stroke, and is released up to the jitter after it
pub record Task : Type 0 where
  pub length : ℕ
  pub period : ℕ
  pub deadline : ℕ
  pub jitter : ℕ

-- fixed demand of one task at t: nothing while t and the jitter are below the deadline, then one length, and one more with each period; so much is asked for in an interval that starts as a job is released, as late as it can be, and no more in any other
unfoldable pub fixed_of : Task → ℕ → ℕ
fixed_of task t = cond (ltb (t + task.jitter) task.deadline) 0 (task.length * (1 + (t + task.jitter - task.deadline) / task.period))

-- how many of the jobs 0 to n - 1 fall due by t: job k does where k periods and the deadline are at most t and the jitter; that fixed demand is their number times the length is proved (`fixed_counts`)
unfoldable pub jobs_due : Task → ℕ → ℕ → ℕ
jobs_due task t zero = 0
jobs_due task t (suc k) = jobs_due task t k + cond (leb (k * task.period + task.deadline) (t + task.jitter)) 1 0

-- fixed demand of all the tasks at t
unfoldable pub fixed_sum : List Task → ℕ → ℕ
fixed_sum [] t = 0
fixed_sum (task ∷ tasks) t = fixed_of task t + fixed_sum tasks t
