-- The bytes that values are written as: a field for each entry, in the shorter form where two say the same, and the end field. Nothing is skipped.
use Rattle.std.specs.Prelude.{ℕ, ◌/◌, ◌%◌, List, [], ◌∷◌, ◌++◌, eqb, length}
use Rattle.fields.specs.Deciding.{pick}
use Rattle.fields.specs.declared.values.Mode.{Mode}
use Rattle.fields.specs.declared.values.Task.{Task}
use Rattle.written.specs.Values.{Values, Entry, LabelEntry, ModeEntry, RowEntry, TaskEntry, CutEntry, entries}

-- each number as two bytes, high byte first
unfoldable pub words : List ℕ → List ℕ
words [] = []
words (x ∷ xs) = x / 256 ∷ x % 256 ∷ words xs

-- a field: its tag, its length as two bytes, its content (of 65,536 bytes or more the first would be more than a byte; rule 5 refuses such a label)
abbrev pub field : ℕ → List ℕ → List ℕ
field tag content = tag ∷ length content / 256 ∷ length content % 256 ∷ content

-- the numbers of a mode: its fall-back only where it is not the boundary
unfoldable pub mode_numbers : Mode → List ℕ
mode_numbers mode = mode.boundary.0 ∷ mode.length.0 ∷ pick (eqb mode.fallback.0 mode.boundary.0) [] (mode.fallback.0 ∷ [])

-- those of a fixed task: its jitter only where it is not 0
unfoldable pub task_numbers : Task → List ℕ
task_numbers task = task.length.0 ∷ task.period.0 ∷ task.deadline.0 ∷ pick (eqb task.jitter.0 0) [] (task.jitter.0 ∷ [])

-- the tag of an entry, as in the field table
unfoldable pub tag_of : Entry → ℕ
tag_of (LabelEntry text) = 1
tag_of (ModeEntry mode) = 2
tag_of (RowEntry speed deadline followers gaps) = 3
tag_of (TaskEntry task) = 4
tag_of (CutEntry tag) = tag

-- and its content: two bytes for each number, four for a follower set (with rows from 32 on the first would be more than a byte; rule 9 refuses such a set)
unfoldable pub content_of : Entry → List ℕ
content_of (LabelEntry text) = text
content_of (ModeEntry mode) = words (mode_numbers mode)
content_of (RowEntry speed deadline followers gaps) = words (speed.0 ∷ deadline.0 ∷ followers / 65536 ∷ followers % 65536 ∷ gaps)
content_of (TaskEntry task) = words (task_numbers task)
content_of (CutEntry tag) = []

abbrev pub field_of : Entry → List ℕ
field_of entry = field (tag_of entry) (content_of entry)

-- the fields of entries, one after the other
unfoldable pub fields_of : List Entry → List ℕ
fields_of [] = []
fields_of (entry ∷ more) = field_of entry ++ fields_of more

-- the file
unfoldable pub written : Values → List ℕ
written values = fields_of (entries values) ++ field 5 []
