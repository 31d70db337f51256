-- The file as one field behind the other: the label's, those of each kind, and the end field. None of them breaks a rule where the entries of all do not.
use Rattle.std.proofs.Common.{◌≡◌, ℕ, ◌+◌, ◌≤◌, List, [], ◌++◌, Ok, length, ◌∙◌, ap, append_assoc, length-append, arith}
use Rattle.fields.specs.Deciding.{first_broken}
use Rattle.fields.specs.Limits.{label_limit}
use Rattle.written.proofs.Fields.{fields_both}
use Rattle.written.specs.Judging.{no_tally, entries_rules}
use Rattle.written.specs.Lent.{modes_lent, rows_lent, tasks_lent, values_lent}
use Rattle.written.specs.Values.{LabelEntry, entries}
use Rattle.written.specs.Written.{field, field_of, fields_of, written}
use Rattle.written.specs.declared.Columns.{Columns}
use Rattle.putting.specs.Putting.{Unbroken}
use Rattle.putting.proofs.UnbrokenColumns.{unbroken_behind, unbroken_both, label_short}

nested : (a b c d e : List ℕ) → (a ++ (b ++ (c ++ d))) ++ e ≡ (((a ++ b) ++ c) ++ d) ++ e
nested a b c d e = simp append_assoc

module _ (columns : Columns) where
  -- the bytes of the file
  pub whole : written (values_lent columns)
      ≡ (((field_of (LabelEntry columns.label.now) ++ fields_of (modes_lent columns.modes)) ++ fields_of (rows_lent columns.rows)) ++ fields_of (tasks_lent columns.tasks)) ++ field 5 []
  unfolding written entries fields_of
  whole =
      let label = field_of (LabelEntry columns.label.now) in
      let modes = modes_lent columns.modes in
      let rows = rows_lent columns.rows in
      let tasks = tasks_lent columns.tasks in
      ap (λ (l : List ℕ). (label ++ l) ++ field 5 []) (fields_both modes (rows ++ tasks) ∙ ap (λ (l : List ℕ). fields_of modes ++ l) (fields_both rows tasks))
      ∙ nested label (fields_of modes) (fields_of rows) (fields_of tasks) (field 5 [])

  -- how many they are
  pub whole_long : length (written (values_lent columns))
      ≡ length (field_of (LabelEntry columns.label.now)) + length (fields_of (modes_lent columns.modes)) + length (fields_of (rows_lent columns.rows)) + length (fields_of (tasks_lent columns.tasks)) + 3
  whole_long = rw whole (simp length-append (omega arith))

  -- the label is short enough, and the entries of no kind break a rule
  pub parts : first_broken (entries_rules no_tally (entries (values_lent columns))) ≡ Ok tt
      → (length columns.label.now ≤ label_limit) × Unbroken (modes_lent columns.modes) × Unbroken (rows_lent columns.rows) × Unbroken (tasks_lent columns.tasks)
  unfolding entries
  parts none =
      let modes = unbroken_both (modes_lent columns.modes) _ (unbroken_behind (LabelEntry columns.label.now) _ (no_tally, none)) in
      let rows = unbroken_both (rows_lent columns.rows) _ modes.1 in
      (label_short columns.label.now _ (no_tally, none), modes.0, rows.0, rows.1)
