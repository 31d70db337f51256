-- The fixed tasks that are counted: they are all there with every time in range, and their demand is known task by task and before the first interval.
use mathlib.Core.Path.{◌≡◌, refl, ◌∙◌, sym, ap}
use mathlib.Core.List.{List, [], ◌∷◌}
use Prim.Native.Nat.{ℕ, zero, suc, ◌+◌, ◌^◌, ◌≤◌, ◌<◌}
use native.Mathlib.Numerals.{add-one}
use native.Mathlib.Omega.{arith}
use lib.ListN.{length, get_or, take}
use lib.Seq.{get_or-take, take_all}
use Rattle.meaning.specs.Demand.{longest_time}
use Rattle.meaning.specs.Fixed as fixed
use Rattle.meaning.specs.Fixed.{fixed_of, fixed_sum}
use Rattle.meaning.proofs.Bounds.{fixed_fits}
use Rattle.meaning.proofs.FixedTasks.{fixed_before, fixed_more}
use Rattle.fields.specs.Values.{no_task}
use Rattle.fields.specs.declared.values.Task.{Task}
use Rattle.fields.specs.declared.values.Sheet.{Sheet}
use Rattle.sheet.specs.Meaning.{times_of, each_task}
use Rattle.sheet.specs.Proper.{ProperTask, Proper}
use Rattle.sheet.proofs.Growing.{all_there}
use Rattle.overruns.specs.Releases.{counted_tasks, ProperTasks}

each_length : (tasks : List Task) → length (each_task tasks) ≡ length tasks
unfolding each_task
each_length [] = refl
each_length (task ∷ tasks) = ap suc (each_length tasks)

each_at : (tasks : List Task) (i : ℕ) (default : fixed.Task) → i < length tasks → get_or (each_task tasks) i default ≡ times_of (get_or tasks i no_task)
unfolding each_task
each_at [] i default h = absurd (omega arith)
each_at (task ∷ tasks) zero default h = refl
each_at (task ∷ tasks) (suc i) default h = each_at tasks i default (omega arith)

-- the tasks that an accepted sheet counts are proper
pub sheet_tasks : (bytes : List ℕ) (sheet : Sheet) → Proper bytes sheet → ProperTasks sheet.tasks sheet.tally.tasks
sheet_tasks bytes sheet proper = record { most = proper.tasks_most; each = proper.each_task }

module _ (tasks : List Task) (count : ℕ) (proper : ProperTasks tasks count) where
  there : length (take count tasks) ≡ count
  there = all_there no_task ProperTask tasks count (λ (p : ProperTask no_task). omega (arith, p.length)) proper.each

  -- they are as many as are counted
  pub tasks_count : length (counted_tasks tasks count) ≡ count
  tasks_count = each_length (take count tasks) ∙ there

  -- the task of a number is what the array holds there
  pub task_of : (i : ℕ) (default : fixed.Task) → i < count → get_or (counted_tasks tasks count) i default ≡ times_of (get_or tasks i no_task)
  task_of i default h =
      each_at (take count tasks) i default (omega (arith, there))
      ∙ ap times_of (get_or-take count tasks i no_task h)

  -- so their demand fits 48 bits
  pub tasks_fit : (t : ℕ) → t ≤ longest_time → fixed_sum (counted_tasks tasks count) t < 2 ^ 48
  tasks_fit t h =
      fixed_fits longest_time (counted_tasks tasks count) (times_of no_task) t (omega arith) (omega (arith, tasks_count, proper.most)) h
      (λ i l.
      let inside : i < count = omega (arith, tasks_count) in
      let task = proper.each i inside in
      rw (task_of i (times_of no_task) inside) (task.length.1, omega (arith, task.jitter)))

  -- fixed demand task by task
  pub sum_more : (i t : ℕ) → i < count
      → fixed_sum (take (i + 1) (counted_tasks tasks count)) t ≡ fixed_sum (take i (counted_tasks tasks count)) t + fixed_of (times_of (get_or tasks i no_task)) t
  sum_more i t h =
      rw (add-one i)
      (fixed_more (counted_tasks tasks count) i (times_of no_task) t (omega (arith, tasks_count))
      ∙ ap (λ (task : fixed.Task). fixed_sum (take i (counted_tasks tasks count)) t + fixed_of task t) (task_of i (times_of no_task) h))

  pub sum_all : (t : ℕ) → fixed_sum (take count (counted_tasks tasks count)) t ≡ fixed_sum (counted_tasks tasks count) t
  sum_all t =
      ap (λ (some : List fixed.Task). fixed_sum some t)
      (take_all count (counted_tasks tasks count) (omega (arith, tasks_count)))

  -- nothing falls due at 0
  pub sum_none : fixed_sum (counted_tasks tasks count) 0 ≡ 0
  unfolding fixed_sum
  sum_none = sym (sum_all 0) ∙ none_of count (omega arith)
    where
      none_of : (i : ℕ) → i ≤ count → fixed_sum (take i (counted_tasks tasks count)) 0 ≡ 0
      none_of zero h = refl
      none_of (suc i) h =
          let inside : i < count = omega arith in
          let before = fixed_before (times_of (get_or tasks i no_task)) 0 (omega (arith, (proper.each i inside).jitter)) in
          omega (arith, none_of i (omega arith), rw (add-one i) at (sum_more i 0 inside), before)
