-- The short form of a file: without its skipped fields, and each field in the shorter form where two say the same.
use Rattle.std.specs.Prelude.{ℕ, zero, suc, ◌+◌, ◌-◌, List, [], ◌++◌, Bool, true, false, not, eqb, length, take, drop, Result, Ok, Err}
use Rattle.fields.specs.Deciding.{pick, ◌or◌}
use Rattle.fields.specs.Fields.{is_end}
use Rattle.fields.specs.Limits.{mode_size, fallback_size, task_size, jitter_size}
use Rattle.fields.specs.Reading.{word_at, field_at}
use Rattle.fields.specs.declared.table.Kind.{Kind}
use Rattle.fields.specs.declared.table.Kind.TheVariants.{RefusedTag, LabelField, ModeField, RowField, TaskField, EndField, SkippedField}
use Rattle.fields.specs.declared.reader.Field.{Field}
use Rattle.fields.specs.declared.refusal.Refusal.{Refusal}
use Rattle.written.specs.Written.{field}

abbrev pub is_skipped : Kind → Bool
is_skipped RefusedTag = false
is_skipped LabelField = false
is_skipped ModeField = false
is_skipped RowField = false
is_skipped TaskField = false
is_skipped EndField = false
is_skipped SkippedField = true

-- a shorter field would say the same: that of a mode whose fall-back stands in it and is the boundary, and that of a fixed task whose jitter stands in it and is 0
abbrev pub has_shorter : List ℕ → Kind → ℕ → ℕ → Bool
has_shorter bytes RefusedTag start size = false
has_shorter bytes LabelField start size = false
has_shorter bytes ModeField start size = pick (eqb size (mode_size + fallback_size)) (eqb (word_at bytes (start + mode_size)) (word_at bytes start)) false
has_shorter bytes RowField start size = false
has_shorter bytes TaskField start size = pick (eqb size (task_size + jitter_size)) (eqb (word_at bytes (start + task_size)) 0) false
has_shorter bytes EndField start size = false
has_shorter bytes SkippedField start size = false

-- that field: it leaves out the last number
abbrev pub shorter_field : List ℕ → Kind → ℕ → List ℕ
shorter_field bytes RefusedTag start = []
shorter_field bytes LabelField start = []
shorter_field bytes ModeField start = field 2 (take mode_size (drop start bytes))
shorter_field bytes RowField start = []
shorter_field bytes TaskField start = field 4 (take task_size (drop start bytes))
shorter_field bytes EndField start = []
shorter_field bytes SkippedField start = []

-- the bytes of one field, from its tag up to the next field; none of a skipped one, and those of the shorter one where that says the same
abbrev pub short_field : List ℕ → ℕ → Kind → ℕ → ℕ → ℕ → List ℕ
short_field bytes at kind start size next =
    pick (is_skipped kind) []
    (pick (has_shorter bytes kind start size) (shorter_field bytes kind start)
    (take (next - at) (drop at bytes)))

-- the field at a place, and behind it what `go` says, but nothing behind the end field
unfoldable pub short_step : List ℕ → ℕ → (ℕ → List ℕ) → Result Field Refusal → List ℕ
short_step bytes at go (Err refusal) = []
short_step bytes at go (Ok found) = short_field bytes at found.kind found.start found.size found.next ++ pick (is_end found.kind) [] (go found.next)

-- at most n fields from a place on
unfoldable pub short_from : List ℕ → ℕ → ℕ → List ℕ
short_from bytes zero at = []
short_from bytes (suc n) at = short_step bytes at (short_from bytes n) (field_at bytes at)

-- the whole file: a field has three bytes at least, so there are never more fields than bytes
unfoldable pub short_form : List ℕ → List ℕ
short_form bytes = short_from bytes (length bytes + 1) 0

-- whether one of the fields up to the end field passes a test on its kind, its start and its size, in the same way
unfoldable pub one_step : (Kind → ℕ → ℕ → Bool) → (ℕ → Bool) → Result Field Refusal → Bool
one_step test go (Err refusal) = false
one_step test go (Ok found) = test found.kind found.start found.size or pick (is_end found.kind) false (go found.next)

unfoldable pub one_from : List ℕ → (Kind → ℕ → ℕ → Bool) → ℕ → ℕ → Bool
one_from bytes test zero at = false
one_from bytes test (suc n) at = one_step test (one_from bytes test n) (field_at bytes at)

abbrev pub one_field : List ℕ → (Kind → ℕ → ℕ → Bool) → Bool
one_field bytes test = one_from bytes test (length bytes + 1) 0

-- a file that skips a field
unfoldable pub has_skipped : List ℕ → Bool
has_skipped bytes = one_field bytes (λ kind start size. is_skipped kind)

-- a file that takes the shorter form wherever two say the same
unfoldable pub takes_shorter : List ℕ → Bool
takes_shorter bytes = not (one_field bytes (has_shorter bytes))
