-- What stands at a place of the file: numbers, the values of a field's content, and a field or a refusal.
use Rattle.std.specs.Prelude.{ℕ, ◌+◌, ◌*◌, List, [], ◌∷◌, length, get_or, ltb, eqb, Result, Ok}
use Rattle.fields.specs.Deciding.{◌when◌, pick, judged_by}
use Rattle.fields.specs.Fields.{kind_of, is_refused}
use Rattle.fields.specs.Limits.{mode_size, head_size, task_size}
use Rattle.fields.specs.Refusals.{refused}
use Rattle.fields.specs.declared.reader.Field.{Field}
use Rattle.fields.specs.declared.refusal.Reason.TheVariants.{CutOff, UnknownTag}
use Rattle.fields.specs.declared.refusal.Refusal.{Refusal}
use Rattle.fields.specs.declared.units.Rpm.{Rpm}
use Rattle.fields.specs.declared.units.Ticks.{Ticks}
use Rattle.fields.specs.declared.values.Mode.{Mode}
use Rattle.fields.specs.declared.values.Row.{Row}
use Rattle.fields.specs.declared.values.Task.{Task}

-- the two bytes at a place as a number, high byte first
abbrev pub word_at : List ℕ → ℕ → ℕ
word_at bytes at = get_or bytes at 0 * 256 + get_or bytes (at + 1) 0

-- the four bytes at a place as a number
abbrev pub long_at : List ℕ → ℕ → ℕ
long_at bytes at = word_at bytes at * 65536 + word_at bytes (at + 2)

-- the two bytes at a place as a speed
abbrev pub rpm_at : List ℕ → ℕ → Rpm
rpm_at bytes at = record { 0 = word_at bytes at }

-- the two bytes at a place as a time
abbrev pub ticks_at : List ℕ → ℕ → Ticks
ticks_at bytes at = record { 0 = word_at bytes at }

-- a mode's fall-back: the last number of a field that has one more, else the boundary
abbrev pub fallback_at : List ℕ → ℕ → ℕ → Rpm
fallback_at bytes start size = pick (eqb size mode_size) (rpm_at bytes start) (rpm_at bytes (start + mode_size))

-- a mode, in a field of so many bytes: boundary, job length, fall-back
abbrev pub mode_at : List ℕ → ℕ → ℕ → Mode
mode_at bytes start size =
    record { boundary = rpm_at bytes start; length = ticks_at bytes (start + 2); fallback = fallback_at bytes start size }

-- a row: speed, deadline, follower set, and the place where its gaps begin
abbrev pub row_at : List ℕ → ℕ → Row
row_at bytes start =
    record {
      speed = rpm_at bytes start;
      deadline = ticks_at bytes (start + 2);
      followers = long_at bytes (start + 4);
      gaps = start + head_size;
    }

-- a fixed task's jitter: the last number of a field that has one more, else 0
abbrev pub jitter_at : List ℕ → ℕ → ℕ → Ticks
jitter_at bytes start size = pick (eqb size task_size) (record { 0 = 0 }) (ticks_at bytes (start + task_size))

-- a fixed task, in a field of so many bytes: length, period, deadline, jitter
abbrev pub task_at : List ℕ → ℕ → ℕ → Task
task_at bytes start size =
    record {
      length = ticks_at bytes start;
      period = ticks_at bytes (start + 2);
      deadline = ticks_at bytes (start + 4);
      jitter = jitter_at bytes start size;
    }

-- the field at a place: rule 1 for a header that is cut off, then rule 2, then rule 1 for content that is cut off
unfoldable pub field_at : List ℕ → ℕ → Result Field Refusal
field_at bytes at =
    judged_by (λ reason. refused reason at)
    (CutOff when (ltb (length bytes) (at + 3))
    ∷ UnknownTag when (is_refused (kind_of (get_or bytes at 0)))
    ∷ CutOff when (ltb (length bytes) (at + 3 + word_at bytes (at + 1)))
    ∷ [])
    (Ok
    (record {
      kind = kind_of (get_or bytes at 0);
      start = at + 3;
      size = word_at bytes (at + 1);
      next = at + 3 + word_at bytes (at + 1);
    }))
