-- Fixed demand from one interval to the next: a task's demand grows by its length when its next job falls due, and not before.
use mathlib.Core.Path.{◌≡◌, refl, ◌∙◌, sym, ap}
use mathlib.Core.Logic.{⊎_elim}
use mathlib.Core.List.{List}
use Prim.Native.Nat.{ℕ, zero, suc, ◌+◌, ◌*◌, ◌-◌, ◌/◌, ◌≤◌, ◌<◌, max}
use native.Mathlib.Nat.{div-eq_of_lt-le, eq-or-lt_of_le}
use native.Mathlib.Numerals.{add-one}
use native.Mathlib.Omega.{arith}
use borrow.Author.Tests.{eq-eqb, ne_eqb, eqb-true, eqb-false}
use lib.Dec.{eqb}
use lib.ListN.{length, get_or, set, take, length-set}
use lib.Seq.{get_or-set_same, get_or-set_other}
use Rattle.meaning.specs.Demand.{longest_time}
use Rattle.meaning.specs.Fixed as fixed
use Rattle.meaning.specs.Fixed.{fixed_of, fixed_sum}
use Rattle.meaning.proofs.FixedTasks.{fixed_before, fixed_from}
use Rattle.meaning.proofs.Tests.{bool_or, lt_or}
use Rattle.sheet.specs.Meaning.{times_of}
use Rattle.fields.specs.Limits.{task_limit}
use Rattle.fields.specs.Values.{no_task}
use Rattle.fields.specs.declared.values.Task.{Task}
use Rattle.overruns.specs.Releases.{counted_tasks, ProperTasks, work_due, due_after, Advanced, Waiting}
use Rattle.overruns.proofs.ProperTasks.{sum_more, sum_all, sum_none}

-- the first job of a task that falls due after t does so at `due`, after `jobs` others; the jitter brings them all nearer
pub record NextDue (task : fixed.Task) (t due : ℕ) : Type 0 where
  pub jobs : ℕ
  pub is : due + task.jitter ≡ task.deadline + task.period * jobs
  pub after : t < due
  pub first : due + task.jitter ≤ max task.deadline (t + task.jitter + task.period)

-- at t: each of the first tasks waits for its next job, and the sum is fixed demand
pub record Running (tasks : List Task) (count : ℕ) (dues : List ℕ) (t sum : ℕ) : Type 0 where
  pub next : (i : ℕ) → i < count → NextDue (times_of (get_or tasks i no_task)) t (get_or dues i 0)
  pub sum_is : sum ≡ fixed_sum (counted_tasks tasks count) t

-- ---- one task

-- before its first job falls due that is the next
pub due_first : (task : fixed.Task) (t due : ℕ) → due + task.jitter ≡ task.deadline → t < due → NextDue task t due
due_first task t due e h = record { jobs = 0; is = omega (arith, e); after = h; first = omega (arith, e) }

module _ (task : fixed.Task) (positive : 1 ≤ task.period) where
  -- fixed demand at t is one length for each job that fell due by then
  pub fixed_by_jobs : (t due : ℕ) (next : NextDue task t due) → fixed_of task t ≡ task.length * next.jobs
  fixed_by_jobs t due next =
      ⊎_elim
      (λ l. omega (arith, fixed_before task t l, ap (λ (j : ℕ). task.length * j) (before l next.jobs refl)))
      (λ l. fixed_from task t l ∙ ap (λ (j : ℕ). task.length * j) (after l next.jobs refl))
      (lt_or (t + task.jitter) task.deadline)
    where
      before : t + task.jitter < task.deadline → (jobs : ℕ) → next.jobs ≡ jobs → jobs ≡ 0
      before l zero e = refl
      before l (suc j) e = absurd (omega (arith, next.is, next.first, ap (λ (x : ℕ). task.period * x) e))

      after : task.deadline ≤ t + task.jitter → (jobs : ℕ) → next.jobs ≡ jobs → 1 + (t + task.jitter - task.deadline) / task.period ≡ jobs
      after l zero e = absurd (omega (arith, next.is, next.after, ap (λ (x : ℕ). task.period * x) e))
      after l (suc j) e =
          let product : task.period * next.jobs ≡ task.period * suc j = ap (λ (x : ℕ). task.period * x) e in
          omega (
            arith,
            div-eq_of_lt-le {k = j} task.period {m = t + task.jitter - task.deadline}
                (omega (arith, next.is, next.first, product))
                (omega (arith, next.is, next.after, product)),
          )

  module _ (t due : ℕ) (next : NextDue task t due) where
    -- where its next job falls due at t + 1, demand grows by its length, and the job after that comes a period later
    pub due_now : due ≡ t + 1 → NextDue task (t + 1) (t + 1 + task.period) × (fixed_of task (t + 1) ≡ fixed_of task t + task.length)
    due_now e =
        let later : NextDue task (t + 1) (t + 1 + task.period) = record {
          jobs = next.jobs + 1;
          is = omega (arith, e, next.is);
          after = omega arith;
          first = omega arith;
        } in
        (later, fixed_by_jobs (t + 1) (t + 1 + task.period) later ∙ omega (arith, fixed_by_jobs t due next))

    -- where it does not, demand stays, and so does the next job
    due_later : (due ≡ t + 1 → ⊥) → NextDue task (t + 1) due × (fixed_of task (t + 1) ≡ fixed_of task t)
    due_later other =
        let same : NextDue task (t + 1) due = record {
          jobs = next.jobs;
          is = next.is;
          after = omega (arith, next.after, other);
          first = omega (arith, next.first);
        } in
        (same, fixed_by_jobs (t + 1) due same ∙ sym (fixed_by_jobs t due next))

-- ---- all tasks

module _ (tasks : List Task) (dues : List ℕ) (t i : ℕ) where
  -- a task whose job falls due at t
  now_work : get_or dues i 0 ≡ t → work_due tasks dues t (suc i) ≡ work_due tasks dues t i + (get_or tasks i no_task).length.0
  unfolding work_due
  now_work e = rw (eq-eqb (get_or dues i 0) t e)

  now_due : get_or dues i 0 ≡ t → due_after tasks dues t i ≡ t + (get_or tasks i no_task).period.0
  unfolding due_after
  now_due e = rw (eq-eqb (get_or dues i 0) t e)

  -- another
  later_work : (get_or dues i 0 ≡ t → ⊥) → work_due tasks dues t (suc i) ≡ work_due tasks dues t i
  unfolding work_due
  later_work e = rw (ne_eqb (get_or dues i 0) t e) (omega arith)

  later_due : (get_or dues i 0 ≡ t → ⊥) → due_after tasks dues t i ≡ get_or dues i 0
  unfolding due_after
  later_due e = rw (ne_eqb (get_or dues i 0) t e)

-- ---- the loop over the tasks at t

-- the first i tasks are done, and the others still wait for the jobs that they had
pub record Advancing (tasks : List Task) (old new : List ℕ) (t i work : ℕ) : Type 0 where
  pub few : work ≤ i * longest_time
  pub done : Advanced tasks i old new t work
  pub kept : (m : ℕ) → i ≤ m → get_or new m 0 ≡ get_or old m 0

module _ (tasks : List Task) (old : List ℕ) (t : ℕ) where
  -- before the first task
  pub advancing_start : Advancing tasks old old t 0 0
  unfolding work_due
  advancing_start = record { few = omega arith; done = record { due = refl; next = λ i h. absurd (omega arith) }; kept = λ m h. refl }

  module _ (new : List ℕ) (i work : ℕ) (before : Advancing tasks old new t i work) where
    -- a task whose job falls due at t
    pub advancing_now : get_or new i 0 ≡ t → i < length new → (get_or tasks i no_task).length.0 ≤ longest_time
        → Advancing tasks old (set new i (t + (get_or tasks i no_task).period.0)) t (i + 1) (work + (get_or tasks i no_task).length.0)
    advancing_now e inside most =
        let was : get_or old i 0 ≡ t = sym (before.kept i (omega arith)) ∙ e in
        let later : ℕ = t + (get_or tasks i no_task).period.0 in
        record {
          few = omega (arith, before.few);
          done = record {
            due = rw (add-one i) (ap (λ (w : ℕ). w + (get_or tasks i no_task).length.0) before.done.due ∙ sym (now_work tasks old t i was));
            next = λ m h. ⊎_elim
                (λ same. rw same (get_or-set_same new i later 0 inside ∙ sym (now_due tasks old t i was)))
                (λ l. get_or-set_other new i m later 0 (λ x. omega (arith, x)) ∙ before.done.next m l)
                (eq-or-lt_of_le {n = m} {m = i} (omega arith));
          };
          kept = λ m h. get_or-set_other new i m later 0 (λ x. omega (arith, x)) ∙ before.kept m (omega arith);
        }

    -- another
    pub advancing_later : (get_or new i 0 ≡ t → ⊥) → Advancing tasks old new t (i + 1) work
    advancing_later other =
        let was : get_or old i 0 ≡ t → ⊥ = λ e. other (before.kept i (omega arith) ∙ e) in
        record {
          few = omega (arith, before.few);
          done = record {
            due = rw (add-one i) (before.done.due ∙ sym (later_work tasks old t i was));
            next = λ m h. ⊎_elim
                (λ same. rw same (before.kept i (omega arith) ∙ sym (later_due tasks old t i was)))
                (λ l. before.done.next m l)
                (eq-or-lt_of_le {n = m} {m = i} (omega arith));
          };
          kept = λ m h. before.kept m (omega arith);
        }

-- the same in place: there are as many due times as before
pub record AdvancingInPlace (tasks : List Task) (old new : List ℕ) (t i work : ℕ) : Type 0 where
  pub advancing : Advancing tasks old new t i work
  pub same_length : length new ≡ length old

module _ (tasks : List Task) (old : List ℕ) (t : ℕ) where
  -- before the first task
  pub in_place_start : AdvancingInPlace tasks old old t 0 0
  in_place_start = record { advancing = advancing_start tasks old t; same_length = refl }

  module _ (new : List ℕ) (i work : ℕ) (before : AdvancingInPlace tasks old new t i work) where
    -- a task whose job falls due at t
    pub in_place_now : get_or new i 0 ≡ t → i < length new → (get_or tasks i no_task).length.0 ≤ longest_time
        → AdvancingInPlace tasks old (set new i (t + (get_or tasks i no_task).period.0)) t (i + 1) (work + (get_or tasks i no_task).length.0)
    in_place_now e inside most =
        record {
          advancing = advancing_now tasks old t new i work before.advancing e inside most;
          same_length = length-set new i (t + (get_or tasks i no_task).period.0) ∙ before.same_length;
        }

    -- another
    pub in_place_later : (get_or new i 0 ≡ t → ⊥) → AdvancingInPlace tasks old new t (i + 1) work
    in_place_later other = record { advancing = advancing_later tasks old t new i work before.advancing other; same_length = before.same_length }

-- ---- the loop over the intervals

module _ (tasks : List Task) (count : ℕ) (proper : ProperTasks tasks count) where
  -- where every task of an array waits, those that are counted do
  pub counted_waiting : (dues : List ℕ) → Waiting tasks task_limit dues → Waiting tasks count dues
  counted_waiting dues waiting = λ i h. waiting i (omega (arith, proper.most))

  -- at 0 the next jobs are the first ones
  pub running_start : (dues : List ℕ) → Waiting tasks count dues → Running tasks count dues 0 0
  running_start dues waiting = record {
    next = λ i h.
        let below = (proper.each i h).jitter in
        due_first (times_of (get_or tasks i no_task)) 0 (get_or dues i 0) (omega (arith, waiting i h, below)) (omega (arith, waiting i h, below));
    sum_is = sym (sum_none tasks count proper);
  }

  -- The step from t to the interval behind it.
  module _ (dues : List ℕ) (t sum : ℕ) (running : Running tasks count dues t sum) where
    -- one task's next job, and what it adds
    task_on : (i : ℕ) → i < count
        → NextDue (times_of (get_or tasks i no_task)) (t + 1) (due_after tasks dues (t + 1) i)
        × (work_due tasks dues (t + 1) (suc i) + fixed_of (times_of (get_or tasks i no_task)) t
        ≡ work_due tasks dues (t + 1) i + fixed_of (times_of (get_or tasks i no_task)) (t + 1))
    task_on i h =
        let task : fixed.Task = times_of (get_or tasks i no_task) in
        let positive = (proper.each i h).period.0 in
        ⊎_elim
        (λ b.
        let e : get_or dues i 0 ≡ t + 1 = eqb-true (get_or dues i 0) (t + 1) b in
        let on = due_now task positive t (get_or dues i 0) (running.next i h) e in
        (rw (now_due tasks dues (t + 1) i e) on.0, omega (arith, on.1, now_work tasks dues (t + 1) i e)))
        (λ b.
        let e : get_or dues i 0 ≡ t + 1 → ⊥ = eqb-false (get_or dues i 0) (t + 1) b in
        let on = due_later task positive t (get_or dues i 0) (running.next i h) e in
        (rw (later_due tasks dues (t + 1) i e) on.0, omega (arith, on.1, later_work tasks dues (t + 1) i e)))
        (bool_or (eqb (get_or dues i 0) (t + 1)))

    -- the demand of the first tasks grows by what falls due of them
    sum_on : (i : ℕ) → i ≤ count
        → fixed_sum (take i (counted_tasks tasks count)) (t + 1) ≡ fixed_sum (take i (counted_tasks tasks count)) t + work_due tasks dues (t + 1) i
    unfolding work_due fixed_sum
    sum_on zero h = refl
    sum_on (suc i) h =
        omega (
          arith,
          sum_on i (omega arith),
          (task_on i h).1,
          rw (add-one i) at (sum_more tasks count proper i t h),
          rw (add-one i) at (sum_more tasks count proper i (t + 1) h),
        )

    -- with what falls due added, and the next jobs after it, all is right there
    pub running_on : (new : List ℕ) (work : ℕ) → Advanced tasks count dues new (t + 1) work → Running tasks count new (t + 1) (sum + work)
    running_on new work advanced = record {
      next = λ i h. rw (advanced.next i h) (task_on i h).0;
      sum_is = omega (
        arith,
        running.sum_is,
        advanced.due,
        sum_all tasks count proper t,
        sum_all tasks count proper (t + 1),
        sum_on count (omega arith),
      );
    }
