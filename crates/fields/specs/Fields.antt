-- The field table, and what kind of field a tag says.
use Rattle.std.specs.Prelude.{ℕ, ◌+◌, ◌*◌, List, [], ◌∷◌, Bool, true, false, get_or, ltb, eqb}
use Rattle.fields.specs.Deciding.{pick}
use Rattle.fields.specs.Limits.{mode_limit, row_limit, task_limit, label_limit, mode_size, fallback_size, head_size, gap_size, task_size, jitter_size}
use Rattle.fields.specs.declared.table.Kind.{Kind}
use Rattle.fields.specs.declared.table.Kind.TheVariants.{RefusedTag, LabelField, ModeField, RowField, TaskField, EndField, SkippedField}
use Rattle.fields.specs.declared.table.Line.{Line}

-- a line that allows nothing
abbrev pub no_line : Line
no_line = record { shortest = 0; longest = 0; most = 0; required = false; numbers = false }

-- one line for each tag from 1: label, mode, row, fixed task, end; content that is numbers of two bytes each has an even length
unfoldable pub fields : List Line
fields =
    record { shortest = 1; longest = label_limit; most = 1; required = true; numbers = false }
    ∷ record { shortest = mode_size; longest = mode_size + fallback_size; most = mode_limit; required = true; numbers = true }
    ∷ record { shortest = head_size; longest = head_size + gap_size * row_limit; most = row_limit; required = true; numbers = true }
    ∷ record { shortest = task_size; longest = task_size + jitter_size; most = task_limit; required = false; numbers = true }
    ∷ record { shortest = 0; longest = 0; most = 1; required = true; numbers = false }
    ∷ []

-- the line of a tag
unfoldable pub line_of : ℕ → Line
line_of tag = get_or (no_line ∷ fields) tag no_line

-- tags 0 and 6 to 127 are refused, by rule 2; 128 to 255 are skipped
abbrev pub kind_of : ℕ → Kind
kind_of tag =
    pick (eqb tag 1) LabelField
    (pick (eqb tag 2) ModeField
    (pick (eqb tag 3) RowField
    (pick (eqb tag 4) TaskField
    (pick (eqb tag 5) EndField
    (pick (ltb tag 128) RefusedTag SkippedField)))))

-- a known kind has its tag, a skipped one the first tag that is skipped
abbrev pub tag_of : Kind → ℕ
tag_of RefusedTag = 0
tag_of LabelField = 1
tag_of ModeField = 2
tag_of RowField = 3
tag_of TaskField = 4
tag_of EndField = 5
tag_of SkippedField = 128

abbrev pub is_refused : Kind → Bool
is_refused RefusedTag = true
is_refused LabelField = false
is_refused ModeField = false
is_refused RowField = false
is_refused TaskField = false
is_refused EndField = false
is_refused SkippedField = false

abbrev pub is_end : Kind → Bool
is_end RefusedTag = false
is_end LabelField = false
is_end ModeField = false
is_end RowField = false
is_end TaskField = false
is_end EndField = true
is_end SkippedField = false
