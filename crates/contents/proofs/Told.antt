-- What is told of a judged file: by a number below the count the value of that number, past it zeros.
use Prim.Native.Nat.{ℕ, ◌≤◌, ◌<◌}
use native.Mathlib.Omega.{arith}
use mathlib.Core.Path.{◌≡◌, refl, sym}
use mathlib.Core.List.{List}
use lib.ListN.{get_or, take, length-take, get_or-eq_default}
use lib.Seq.{get_or-take}
use borrow.Author.Tests.{lt-ltb, le-ltb}
use Rattle.fields.specs.Deciding.{pick}
use Rattle.fields.specs.Limits.{mode_limit, task_limit}
use Rattle.std.specs.Prelude.{Err}
use Rattle.fields.specs.Values.{empty_sheet, no_mode, no_task}
use Rattle.fields.specs.declared.refusal.Refusal.{Refusal}
use Rattle.sheet.specs.Judging.{judged}
use Rattle.sheet.specs.Meaning.{row_of, gap_of}
use Rattle.sheet.specs.Outline.{head_of, Outlined}
use Rattle.sheet.specs.Proper.{Bytes}
use Rattle.modes.specs.Modes.{job_length}
use Rattle.sheet.proofs.Answering.{outlined_refusal}
use Rattle.sheet.proofs.Counts.{modes_within, tasks_within}
use Rattle.sheet.proofs.Refusals.{refused_empty}
use Rattle.fields.specs.declared.units.Ticks.{Ticks}
use Rattle.fields.specs.declared.values.Row.{Row}
use Rattle.sheet.specs.declared.Head.{Head}
use Rattle.contents.specs.Contents.{mode_numbered, no_row_values, row_numbered, gap_numbered, task_numbered}

-- of what is counted nothing stands past the count
pub past_count : {A : Type 0} (count : ℕ) (held : List A) (number : ℕ) (none : A) → count ≤ number → get_or (take count held) number none ≡ none
past_count count held number none past = get_or-eq_default (take count held) none (omega (arith, length-take count held))

module _ (bytes : List ℕ) (head : Head) (is : head ≡ head_of (judged bytes).sheet) (number : ℕ) where
  -- a mode that is counted stands in the array
  pub mode_held : Bytes bytes → number < head.tally.modes → number < mode_limit
  mode_held are h =
      let most : head.tally.modes ≤ mode_limit = rw is (modes_within bytes are) in
      omega arith

  -- a mode
  pub mode_told : number < head.tally.modes → get_or head.modes number no_mode ≡ mode_numbered bytes number
  unfolding mode_numbered
  mode_told h = rw is (sym (get_or-take (judged bytes).sheet.tally.modes (judged bytes).sheet.modes number no_mode (rw is at h)))

  pub mode_past : head.tally.modes ≤ number → no_mode ≡ mode_numbered bytes number
  unfolding mode_numbered
  mode_past h = sym (past_count (judged bytes).sheet.tally.modes (judged bytes).sheet.modes number no_mode (rw is at h))

  -- a fixed task that is counted stands in the array
  pub task_held : Bytes bytes → number < head.tally.tasks → number < task_limit
  task_held are h =
      let most : head.tally.tasks ≤ task_limit = rw is (tasks_within bytes are) in
      omega arith

  -- a fixed task
  pub task_told : number < head.tally.tasks → get_or head.tasks number no_task ≡ task_numbered bytes number
  unfolding task_numbered
  task_told h = rw is (sym (get_or-take (judged bytes).sheet.tally.tasks (judged bytes).sheet.tasks number no_task (rw is at h)))

  pub task_past : head.tally.tasks ≤ number → no_task ≡ task_numbered bytes number
  unfolding task_numbered
  task_past h = sym (past_count (judged bytes).sheet.tally.tasks (judged bytes).sheet.tasks number no_task (rw is at h))

  -- a row that is counted is one of the judged sheet
  pub row_counted : number < head.tally.rows → number < (judged bytes).sheet.tally.rows
  row_counted h = rw is at h

  -- a row, with its job length
  pub row_told : (row : Row) (length : Ticks) → row ≡ row_of (judged bytes).sheet number → length ≡ job_length (take head.tally.modes head.modes) row.speed → number < head.tally.rows
      → record { speed = row.speed; deadline = row.deadline; followers = row.followers; length = length } ≡ row_numbered bytes number
  unfolding row_numbered pick
  row_told row length e f h = rw (lt-ltb number (judged bytes).sheet.tally.rows (row_counted h), f, is, e) refl

  pub row_past : head.tally.rows ≤ number → no_row_values ≡ row_numbered bytes number
  unfolding row_numbered pick
  row_past h = rw (le-ltb number (judged bytes).sheet.tally.rows (rw is at h)) refl

  -- a gap, by the number of the row that it goes out from
  pub gap_told : (to : ℕ) (row : Row) (gap : Ticks) → row ≡ row_of (judged bytes).sheet number → gap.0 ≡ gap_of bytes row to → number < head.tally.rows → gap ≡ gap_numbered bytes number to
  unfolding gap_numbered pick
  gap_told to row gap e f h = rw (lt-ltb number (judged bytes).sheet.tally.rows (row_counted h), ← e, ← f) refl

  pub gap_past : (to : ℕ) → head.tally.rows ≤ number → record { 0 = 0 } ≡ gap_numbered bytes number to
  unfolding gap_numbered pick
  gap_past to h = rw (le-ltb number (judged bytes).sheet.tally.rows (rw is at h)) refl

-- a refused sheet counts nothing
module _ (bytes places : List ℕ) (refusal : Refusal) (refused : Outlined bytes places (Err refusal)) where
  counts_none : ((judged bytes).sheet.tally.modes ≡ 0) × ((judged bytes).sheet.tally.rows ≡ 0) × ((judged bytes).sheet.tally.tasks ≡ 0)
  unfolding empty_sheet
  counts_none = rw (refused_empty bytes refusal.reason refusal.place (outlined_refusal bytes places refusal refused)) (refl, refl, refl)

  module _ (number : ℕ) where
    pub mode_none : no_mode ≡ mode_numbered bytes number
    mode_none = mode_past bytes (head_of (judged bytes).sheet) refl number (omega (arith, counts_none))

    pub row_none : no_row_values ≡ row_numbered bytes number
    row_none = row_past bytes (head_of (judged bytes).sheet) refl number (omega (arith, counts_none))

    pub gap_none : (to : ℕ) → record { 0 = 0 } ≡ gap_numbered bytes number to
    gap_none to = gap_past bytes (head_of (judged bytes).sheet) refl number to (omega (arith, counts_none))

    pub task_none : no_task ≡ task_numbered bytes number
    task_none = task_past bytes (head_of (judged bytes).sheet) refl number (omega (arith, counts_none))
