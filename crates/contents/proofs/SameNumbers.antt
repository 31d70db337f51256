-- What the calls tell are the numbers that the calculations read off the same bytes, and those that the writer takes.
use Prim.Native.Nat.{ℕ, zero, suc, ◌<◌}
use mathlib.Core.Path.{◌≡◌, refl, ap, ◌∙◌}
use mathlib.Core.Logic.{⊎_elim}
use mathlib.Core.List.{List, [], ◌∷◌}
use lib.ListN.{get_or, get_or-map}
use lib.Seq.{get_or-take}
use Rattle.meaning.proofs.Tests.{lt_or}
use Rattle.fields.specs.Values.{no_mode, no_row, no_task}
use Rattle.sheet.specs.Judging.{judged}
use Rattle.sheet.specs.Meaning.{modes_in, rows_in, tasks_in, graph_of, times_of, each_task, tasks_of}
use Rattle.sheet.specs.Outline.{head_of}
use Rattle.written.specs.Reading.{values_in, values_of}
use Rattle.fields.specs.declared.values.Row.{Row}
use Rattle.fields.specs.declared.values.Sheet.{Sheet}
use Rattle.fields.specs.declared.values.Task.{Task}
use Rattle.contents.specs.Contents.{mode_numbered, row_numbered, gap_numbered, task_numbered}
use Rattle.contents.specs.declared.RowValues.{RowValues}
use Rattle.contents.proofs.Told.{past_count, row_told, row_past, gap_told}

-- the times of a task by its number
each_task_at : (tasks : List Task) (number : ℕ) → get_or (each_task tasks) number (times_of no_task) ≡ times_of (get_or tasks number no_task)
unfolding each_task
each_task_at [] number = refl
each_task_at (task ∷ tasks) zero = refl
each_task_at (task ∷ tasks) (suc number) = each_task_at tasks number

-- a row is told with the speed, the deadline and the followers of a row
abbrev ToldRow : Row → RowValues → Type 0
ToldRow row told = (row.speed ≡ told.speed) × (row.deadline ≡ told.deadline) × (row.followers ≡ told.followers)

module _ (bytes : List ℕ) where
  abbrev sheet : Sheet
  sheet = (judged bytes).sheet

  -- ---- what the calculations read: job length, deadline and gaps of a row that the sheet counts, and the fixed tasks

  module _ (number : ℕ) (counted : number < sheet.tally.rows) where
    pub graph_length : (graph_of bytes sheet).length number ≡ (row_numbered bytes number).length.0
    unfolding graph_of
    graph_length = ap (λ (row : RowValues). row.length.0) (row_told bytes (head_of (judged bytes).sheet) refl number _ _ refl refl counted)

    pub graph_deadline : (graph_of bytes sheet).deadline number ≡ (row_numbered bytes number).deadline.0
    unfolding graph_of
    graph_deadline = ap (λ (row : RowValues). row.deadline.0) (row_told bytes (head_of (judged bytes).sheet) refl number _ _ refl refl counted)

    pub graph_gap : (to : ℕ) → (graph_of bytes sheet).gap number to ≡ (gap_numbered bytes number to).0
    unfolding graph_of
    graph_gap to = ap (λ gap. gap.0) (gap_told bytes (head_of (judged bytes).sheet) refl number to _ _ refl refl counted)

  pub fixed_task : (number : ℕ) → get_or (tasks_of sheet) number (times_of no_task) ≡ times_of (task_numbered bytes number)
  unfolding tasks_of task_numbered
  fixed_task number = each_task_at (tasks_in sheet) number

  -- ---- what the writer takes: each column, and zeros past its end

  module _ (number : ℕ) where
    pub boundary_column : get_or (values_of bytes).boundaries number 0 ≡ (mode_numbered bytes number).boundary.0
    unfolding values_of values_in mode_numbered
    boundary_column = get_or-map (λ mode. mode.boundary.0) (modes_in sheet) number no_mode

    pub length_column : get_or (values_of bytes).lengths number 0 ≡ (mode_numbered bytes number).length.0
    unfolding values_of values_in mode_numbered
    length_column = get_or-map (λ mode. mode.length.0) (modes_in sheet) number no_mode

    pub fallback_column : get_or (values_of bytes).fallbacks number 0 ≡ (mode_numbered bytes number).fallback.0
    unfolding values_of values_in mode_numbered
    fallback_column = get_or-map (λ mode. mode.fallback.0) (modes_in sheet) number no_mode

    -- the row of a number among those that the sheet counts
    row_at : ToldRow (get_or (rows_in sheet) number no_row) (row_numbered bytes number)
    row_at =
        ⊎_elim
        (λ h. rw (get_or-take sheet.tally.rows sheet.rows number no_row h, ← row_told bytes (head_of (judged bytes).sheet) refl number _ _ refl refl h) (refl, refl, refl))
        (λ h. rw (past_count sheet.tally.rows sheet.rows number no_row h, ← row_past bytes (head_of (judged bytes).sheet) refl number h) (refl, refl, refl))
        (lt_or number sheet.tally.rows)

    pub speed_column : get_or (values_of bytes).speeds number 0 ≡ (row_numbered bytes number).speed.0
    unfolding values_of values_in
    speed_column = get_or-map (λ row. row.speed.0) (rows_in sheet) number no_row ∙ ap (λ speed. speed.0) row_at.0

    pub deadline_column : get_or (values_of bytes).deadlines number 0 ≡ (row_numbered bytes number).deadline.0
    unfolding values_of values_in
    deadline_column = get_or-map (λ row. row.deadline.0) (rows_in sheet) number no_row ∙ ap (λ deadline. deadline.0) row_at.1

    pub set_column : get_or (values_of bytes).sets number 0 ≡ (row_numbered bytes number).followers
    unfolding values_of values_in
    set_column = get_or-map (λ row. row.followers) (rows_in sheet) number no_row ∙ row_at.2

    pub task_length_column : get_or (values_of bytes).task_lengths number 0 ≡ (task_numbered bytes number).length.0
    unfolding values_of values_in task_numbered
    task_length_column = get_or-map (λ task. task.length.0) (tasks_in sheet) number no_task

    pub task_period_column : get_or (values_of bytes).task_periods number 0 ≡ (task_numbered bytes number).period.0
    unfolding values_of values_in task_numbered
    task_period_column = get_or-map (λ task. task.period.0) (tasks_in sheet) number no_task

    pub task_deadline_column : get_or (values_of bytes).task_deadlines number 0 ≡ (task_numbered bytes number).deadline.0
    unfolding values_of values_in task_numbered
    task_deadline_column = get_or-map (λ task. task.deadline.0) (tasks_in sheet) number no_task

    pub task_jitter_column : get_or (values_of bytes).task_jitters number 0 ≡ (task_numbered bytes number).jitter.0
    unfolding values_of values_in task_numbered
    task_jitter_column = get_or-map (λ task. task.jitter.0) (tasks_in sheet) number no_task
