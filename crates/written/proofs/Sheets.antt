-- What entries make of a sheet that they are read into, and which entries a sheet stands for.
use Prim.Native.Nat.{ℕ, ◌+◌}
use mathlib.Core.Path.{◌≡◌, refl}
use mathlib.Core.List.{List, [], ◌∷◌, ◌++◌, map}
use lib.Dec.{eqb}
use lib.ListN.{length}
use Rattle.fields.specs.Deciding.{pick}
use Rattle.fields.specs.Limits.{head_size}
use Rattle.fields.specs.Values.{empty_sheet}
use Rattle.sheet.specs.Meaning.{modes_in, rows_in, tasks_in}
use Rattle.sheet.specs.Values.{with_label, with_mode, with_row, with_task}
use Rattle.fields.specs.declared.values.Row.{Row}
use Rattle.fields.specs.declared.values.Sheet.{Sheet}
use Rattle.written.specs.Judging.{count_entry, count_entries}
use Rattle.written.specs.Reading.{gaps_of, label_in}
use Rattle.written.specs.Values.{Values, Entry, LabelEntry, ModeEntry, RowEntry, TaskEntry, CutEntry, entries}
use Rattle.written.specs.Written.{field_of}

-- the sheet with what an entry adds to it, whose content starts at a place
unfoldable pub entry_sheet : ℕ → Sheet → Entry → Sheet
entry_sheet start sheet (LabelEntry text) = with_label sheet start (length text)
entry_sheet start sheet (ModeEntry mode) = with_mode sheet mode
entry_sheet start sheet (RowEntry speed deadline followers gaps) =
    with_row sheet (record { speed = speed; deadline = deadline; followers = followers; gaps = start + head_size })
entry_sheet start sheet (TaskEntry task) = with_task sheet task
entry_sheet start sheet (CutEntry tag) = sheet

-- the sheet with what entries add to it whose fields stand one behind the other from a place on
unfoldable pub entries_sheet : ℕ → Sheet → List Entry → Sheet
entries_sheet at sheet [] = sheet
entries_sheet at sheet (entry ∷ more) = entries_sheet (at + length (field_of entry)) (entry_sheet (at + 3) sheet entry) more

-- the sheet that is read from written values
abbrev pub read_sheet : Values → Sheet
read_sheet values = entries_sheet 0 empty_sheet (entries values)

-- the tally of such a sheet is what the rules on values count
pub entry_tally : (start : ℕ) (sheet : Sheet) (entry : Entry) → (entry_sheet start sheet entry).tally ≡ count_entry sheet.tally entry
unfolding entry_sheet count_entry
entry_tally start sheet (LabelEntry text) = refl
entry_tally start sheet (ModeEntry mode) = refl
entry_tally start sheet (RowEntry speed deadline followers gaps) = refl
entry_tally start sheet (TaskEntry task) = refl
entry_tally start sheet (CutEntry tag) = refl

pub entries_tally : (at : ℕ) (sheet : Sheet) (entries : List Entry) → (entries_sheet at sheet entries).tally ≡ count_entries sheet.tally entries
unfolding entries_sheet count_entries
entries_tally at sheet [] = refl
entries_tally at sheet (entry ∷ more) = rw (← entry_tally (at + 3) sheet entry) (entries_tally (at + length (field_of entry)) (entry_sheet (at + 3) sheet entry) more)

-- the entry of a row that was read from bytes
abbrev pub row_entry : List ℕ → Row → Entry
row_entry bytes row = RowEntry row.speed row.deadline row.followers (gaps_of bytes row)

-- the entries of a sheet so far: no label where no known field was read
unfoldable pub entries_in : List ℕ → Sheet → List Entry
entries_in bytes sheet =
    pick (eqb sheet.tally.last 0) [] (LabelEntry (label_in bytes sheet) ∷ [])
    ++ (map ModeEntry (modes_in sheet)
    ++ (map (row_entry bytes) (rows_in sheet)
    ++ map TaskEntry (tasks_in sheet)))
