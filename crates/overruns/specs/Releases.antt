-- Fixed demand as the code lets it grow from interval to interval: what falls due at an interval, and when each task's next job does.
use Rattle.std.specs.Prelude.{◌≡◌, cond, List, ℕ, zero, suc, ◌+◌, ◌-◌, ◌≤◌, ◌<◌, eqb, length, get_or, take}
use Rattle.meaning.specs.Fixed as fixed
use Rattle.fields.specs.Limits.{task_limit}
use Rattle.sheet.specs.Meaning.{each_task}
use Rattle.sheet.specs.Proper.{ProperTask}
use Rattle.fields.specs.Values.{no_task}
use Rattle.fields.specs.declared.values.Task.{Task}

-- the first tasks of an array, as many as are counted, each as four numbers
abbrev pub counted_tasks : List Task → ℕ → List fixed.Task
counted_tasks tasks count = each_task (take count tasks)

-- what the functions of the fixed tasks ask of those that are counted: they are no more than a sheet may have, and their times are in range
pub record ProperTasks (tasks : List Task) (count : ℕ) : Type 0 where
  pub most : count ≤ task_limit
  pub each : (k : ℕ) → k < count → ProperTask (get_or tasks k no_task)

-- what falls due at t: the lengths of those of the first tasks whose next job does
unfoldable pub work_due : List Task → List ℕ → ℕ → ℕ → ℕ
work_due tasks dues t zero = 0
work_due tasks dues t (suc i) = work_due tasks dues t i + cond (eqb (get_or dues i 0) t) (get_or tasks i no_task).length.0 0

-- when the job after that falls due: a period later where it is the one at t
unfoldable pub due_after : List Task → List ℕ → ℕ → ℕ → ℕ
due_after tasks dues t i = cond (eqb (get_or dues i 0) t) (t + (get_or tasks i no_task).period.0) (get_or dues i 0)

-- the step to t: what falls due there, and the next jobs of the first tasks after it
pub record Advanced (tasks : List Task) (count : ℕ) (old new : List ℕ) (t work : ℕ) : Type 0 where
  pub due : work ≡ work_due tasks old t count
  pub next : (i : ℕ) → i < count → get_or new i 0 ≡ due_after tasks old t i

-- the same in place: there are as many due times as before
pub record AdvancedInPlace (tasks : List Task) (count : ℕ) (old new : List ℕ) (t work : ℕ) : Type 0 where
  pub advanced : Advanced tasks count old new t work
  pub same_length : length new ≡ length old

-- when a task's first job falls due in an interval that starts with its release, as late as it can be
abbrev pub first_due : Task → ℕ
first_due task = task.deadline.0 - task.jitter.0

-- each of the first tasks waits for its first job
abbrev pub Waiting : List Task → ℕ → List ℕ → Type 0
Waiting tasks count dues = (i : ℕ) → i < count → get_or dues i 0 ≡ first_due (get_or tasks i no_task)
