-- Reading what was written gives the same values.
use Prim.Native.Nat.{ℕ, ◌+◌, ◌≤◌}
use native.Mathlib.Nat.{eq-zero-or-pos}
use native.Mathlib.Omega.{arith}
use mathlib.Core.Path.{◌≡◌, ◌∙◌, refl, sym, ap}
use mathlib.Core.Logic.{⊎_elim}
use mathlib.Core.List.{List, [], ◌∷◌, ◌++◌, append_assoc, append-nil, nil≢cons}
use mathlib.Core.Bool.{false}
use lib.ListN.{length, take, drop}
use lib.Seq.{take-append_seam}
use Rattle.std.specs.Prelude.{Ok}
use Rattle.fields.specs.Deciding.{first_broken}
use Rattle.fields.specs.Limits.{head_size}
use Rattle.fields.specs.Values.{empty_sheet, short_size, short_task_size}
use Rattle.rules.specs.Rules.{follower_count, unlike_set, common_rules}
use Rattle.fields.specs.declared.values.Sheet.{Sheet}
use Rattle.fields.proofs.Deciding.{Kept, both_kept}
use Rattle.sheet.proofs.Numbered.{common_says, row_length}
use Rattle.written.specs.Judging.{row_size, entry_rules, count_entry, entries_rules, no_tally}
use Rattle.written.specs.Reading.{words_at, values_in}
use Rattle.written.specs.Values.{Values, Entry, LabelEntry, ModeEntry, RowEntry, TaskEntry, CutEntry, entries}
use Rattle.written.specs.Written.{words, content_of, tag_of, field_of, fields_of, field, written}
use Rattle.written.proofs.InColumns.{Uncut, Whole, values_entries, entries_columns, entries_tell}
use Rattle.written.proofs.Entered.{InOrder, Entered, empty_in_order, none_entered, with_label_lem, with_mode_lem, with_row_lem, with_task_lem}
use Rattle.written.proofs.EntriesKept.{entries_kept}
use Rattle.written.proofs.Here.{on_here, past_here, words_here, content_here}
use Rattle.written.proofs.Sheets.{entry_sheet, entries_sheet, read_sheet, entry_tally, entries_in}

-- an entry's field stands at a place: what it adds to the sheet is the entry
entry_read : (bytes : List ℕ) (at : ℕ) (sheet : Sheet) (entry : Entry) (rest : List ℕ) → drop at bytes ≡ field_of entry ++ rest
    → InOrder sheet → Uncut entry → Kept (entry_rules sheet.tally entry) → Entered bytes sheet entry (entry_sheet (at + 3) sheet entry)
unfolding entry_sheet entry_rules tag_of content_of words
entry_read bytes at sheet (LabelEntry text) rest here order uncut kept =
    let common = (both_kept (common_rules 1 sheet.tally.last (length text) false 0) _ kept).0 in
    let same : take (length text) (drop (at + 3) bytes) ≡ text = rw (content_here bytes at 1 text rest here) (take-append_seam text rest) in
    rw same at (with_label_lem bytes sheet order (length text) false (at + 3) common)
entry_read bytes at sheet (ModeEntry mode) rest here order uncut kept =
    with_mode_lem bytes sheet order (short_size mode) false mode (both_kept (common_rules 2 sheet.tally.last (short_size mode) false sheet.tally.modes) _ kept).0
entry_read bytes at sheet (RowEntry speed deadline followers gaps) rest here order uncut kept =
    let size = row_size gaps in
    let common = (both_kept (common_rules 3 sheet.tally.last size (unlike_set size followers) sheet.tally.rows) _ kept).0 in
    let many : length gaps ≡ follower_count followers = omega (arith, row_length size followers (common_says _ _ _ _ _ common).2) in
    let same : words_at bytes (at + 3 + head_size) (follower_count followers) ≡ gaps =
    rw (← many) (words_here bytes gaps rest (at + 3 + head_size) (on_here bytes (at + 3) head_size _ (content_here bytes at 3 (content_of (RowEntry speed deadline followers gaps)) rest here))) in
    rw same at (with_row_lem bytes sheet order size _ (record { speed = speed; deadline = deadline; followers = followers; gaps = at + 3 + head_size }) common)
entry_read bytes at sheet (TaskEntry task) rest here order uncut kept =
    with_task_lem bytes sheet order (short_task_size task) false task (both_kept (common_rules 4 sheet.tally.last (short_task_size task) false sheet.tally.tasks) _ kept).0
entry_read bytes at sheet (CutEntry tag) rest here order uncut kept = absurd uncut

-- the fields of entries stand at a place, none of which is cut or breaks a rule
pub entries_read : (bytes : List ℕ) (at : ℕ) (sheet : Sheet) (all : List Entry) (rest : List ℕ) → drop at bytes ≡ fields_of all ++ rest
    → InOrder sheet → Whole all → Kept (entries_rules sheet.tally all)
    → InOrder (entries_sheet at sheet all) × (entries_in bytes (entries_sheet at sheet all) ≡ entries_in bytes sheet ++ all)
unfolding fields_of entries_sheet entries_rules
entries_read bytes at sheet [] rest here order whole kept = (order, sym (append-nil _))
entries_read bytes at sheet (entry ∷ more) rest here order whole kept =
    let grown = entry_sheet (at + 3) sheet entry in
    let both = both_kept (entry_rules sheet.tally entry) (entries_rules (count_entry sheet.tally entry) more) kept in
    let this : drop at bytes ≡ field_of entry ++ (fields_of more ++ rest) = here ∙ append_assoc (field_of entry) (fields_of more) rest in
    let one = entry_read bytes at sheet entry _ this order whole.0 both.0 in
    let left : Kept (entries_rules grown.tally more) = rw (entry_tally (at + 3) sheet entry) both.1 in
    let all = entries_read bytes (at + length (field_of entry)) grown more rest (past_here bytes at (field_of entry) _ this) one.order whole.1 left in
    (all.0, all.1 ∙ ap (λ (l : List Entry). l ++ more) one.more ∙ append_assoc (entries_in bytes sheet) (entry ∷ []) more)

module _ (values : Values) (none : first_broken (entries_rules no_tally (entries values)) ≡ Ok tt) where
  kept : Kept (entries_rules no_tally (entries values))
  kept = entries_kept no_tally (entries values) none

  -- the sheet that is read has their entries, and so a label
  read : InOrder (read_sheet values) × (entries_in (written values) (read_sheet values) ≡ entries values)
  unfolding written empty_sheet
  read =
      let all = entries_read (written values) 0 empty_sheet (entries values) (field 5 []) refl empty_in_order (entries_columns values no_tally kept).0 kept in
      (all.0, all.1 ∙ ap (λ (l : List Entry). l ++ entries values) (none_entered (written values) empty_sheet empty_in_order refl))

  pub read_in_order : InOrder (read_sheet values)
  read_in_order = read.0

  label_read : 1 ≤ (read_sheet values).tally.last
  unfolding entries
  label_read =
      ⊎_elim
      (λ (e : (read_sheet values).tally.last ≡ 0). absurd (nil≢cons (sym (none_entered (written values) (read_sheet values) read.0 e) ∙ read.1)))
      (λ some. some)
      (eq-zero-or-pos (read_sheet values).tally.last)

  -- values that keep the rules are those of the sheet that is read from their bytes
  pub values_read : values_in (written values) (read_sheet values) ≡ values
  values_read = entries_tell (values_in (written values) (read_sheet values)) values no_tally kept (values_entries (written values) (read_sheet values) label_read ∙ read.1)
