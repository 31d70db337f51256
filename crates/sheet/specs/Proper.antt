-- What holds of the values of every accepted sheet. It is proved of the judge (`accepted_proper`), so no public contract asks for it.
use Rattle.std.specs.Prelude.{ℕ, ◌+◌, ◌-◌, ◌*◌, ◌≤◌, ◌<◌, ◌≡◌, List, length, get_or}
use Rattle.sets.specs.Sets.{bit}
use Rattle.meaning.specs.Demand.{longest_time}
use Rattle.fields.specs.Limits.{mode_limit, row_limit, task_limit, rpm_limit, gap_size}
use Rattle.sheet.specs.Meaning.{row_of}
use Rattle.fields.specs.Reading.{word_at}
use Rattle.rules.specs.Rules.{follower_count}
use Rattle.fields.specs.Values.{no_mode, no_task}
use Rattle.fields.specs.declared.units.Rpm.{Rpm}
use Rattle.fields.specs.declared.units.Ticks.{Ticks}
use Rattle.fields.specs.declared.values.Mode.{Mode}
use Rattle.fields.specs.declared.values.Row.{Row}
use Rattle.fields.specs.declared.values.Task.{Task}
use Rattle.fields.specs.declared.values.Sheet.{Sheet}

-- a list of bytes, as every slice of them is
abbrev pub Bytes : List ℕ → Type 0
Bytes bytes = (i : ℕ) → get_or bytes i 0 < 256

-- a speed in range
abbrev pub InRange : Rpm → Type 0
InRange speed = (1 ≤ speed.0) × (speed.0 ≤ rpm_limit)

-- a time in range
abbrev pub Positive : Ticks → Type 0
Positive time = (1 ≤ time.0) × (time.0 ≤ longest_time)

-- a mode's numbers are in range, and its fall-back is no higher than its boundary
pub record ProperMode (mode : Mode) : Type 0 where
  pub boundary : InRange mode.boundary
  pub length : Positive mode.length
  pub fallback : InRange mode.fallback
  pub fallback_most : mode.fallback.0 ≤ mode.boundary.0

-- a row among `rows`: its numbers are in range, its gaps stand in the file and are no shorter than its deadline, its followers exist
pub record ProperRow (bytes : List ℕ) (rows : ℕ) (row : Row) : Type 0 where
  pub speed : InRange row.speed
  pub deadline : Positive row.deadline
  pub gaps_inside : row.gaps + gap_size * follower_count row.followers ≤ length bytes
  pub gap_least : (i : ℕ) → i < follower_count row.followers → row.deadline.0 ≤ word_at bytes (row.gaps + gap_size * i)
  pub gap_most : (i : ℕ) → i < follower_count row.followers → word_at bytes (row.gaps + gap_size * i) ≤ longest_time
  pub followers_exist : (j : ℕ) → bit row.followers j ≡ 1 → j < rows

-- a fixed task's times are in range, and its jitter is below its deadline
pub record ProperTask (task : Task) : Type 0 where
  pub length : Positive task.length
  pub period : Positive task.period
  pub deadline : Positive task.deadline
  pub jitter : task.jitter.0 < task.deadline.0

pub record Proper (bytes : List ℕ) (sheet : Sheet) : Type 0 where
  pub label_inside : sheet.label.start + sheet.label.size ≤ length bytes
  pub modes_some : 1 ≤ sheet.tally.modes
  pub modes_most : sheet.tally.modes ≤ mode_limit
  pub rows_some : 1 ≤ sheet.tally.rows
  pub rows_most : sheet.tally.rows ≤ row_limit
  pub tasks_most : sheet.tally.tasks ≤ task_limit
  pub each_mode : (k : ℕ) → k < sheet.tally.modes → ProperMode (get_or sheet.modes k no_mode)
  pub each_row : (k : ℕ) → k < sheet.tally.rows → ProperRow bytes sheet.tally.rows (row_of sheet k)
  pub each_task : (k : ℕ) → k < sheet.tally.tasks → ProperTask (get_or sheet.tasks k no_task)
  pub boundaries_rise : (k : ℕ) → k + 1 < sheet.tally.modes → (get_or sheet.modes k no_mode).boundary.0 < (get_or sheet.modes (k + 1) no_mode).boundary.0
  pub fallbacks_least : (k : ℕ) → k + 1 < sheet.tally.modes → (get_or sheet.modes k no_mode).boundary.0 ≤ (get_or sheet.modes (k + 1) no_mode).fallback.0
  pub last_fallback : (get_or sheet.modes (sheet.tally.modes - 1) no_mode).fallback.0 ≡ (get_or sheet.modes (sheet.tally.modes - 1) no_mode).boundary.0
  pub speeds_rise : (k : ℕ) → k + 1 < sheet.tally.rows → (row_of sheet k).speed.0 < (row_of sheet (k + 1)).speed.0
  pub speeds_within : (k : ℕ) → k < sheet.tally.rows → (row_of sheet k).speed.0 ≤ (get_or sheet.modes (sheet.tally.modes - 1) no_mode).boundary.0
