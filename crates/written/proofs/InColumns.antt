-- Columns and entries say the same: the values of a sheet have the sheet's entries, and values are told by their entries where none is cut.
use Prim.Native.Nat.{ℕ, zero, suc, ◌+◌, ◌≤◌}
use native.Mathlib.Omega.{arith}
use mathlib.Core.Path.{◌≡◌, ◌∙◌, refl, sym, ap}
use mathlib.Core.List.{List, [], ◌∷◌, ◌++◌, map}
use lib.ListN.{length, take, drop, take-append-drop}
use lib.Seq.{take_at, drop_at}
use Rattle.fields.specs.Fields.{line_of, fields}
use Rattle.rules.specs.Rules.{follower_count}
use Rattle.sheet.specs.Meaning.{modes_in, rows_in, tasks_in}
use Rattle.fields.specs.declared.values.Mode.{Mode}
use Rattle.fields.specs.declared.values.Row.{Row}
use Rattle.fields.specs.declared.values.Task.{Task}
use Rattle.fields.specs.declared.values.Tally.{Tally}
use Rattle.fields.specs.declared.values.Sheet.{Sheet}
use Rattle.fields.proofs.Deciding.{Kept, both_kept}
use Rattle.sheet.proofs.Numbered.{common_says, long_enough}
use Rattle.written.specs.Judging.{entry_rules, count_entry, entries_rules}
use Rattle.written.specs.Reading.{words_at, gaps_of, all_gaps, values_in}
use Rattle.written.specs.Values.{Values, values_from, Entry, LabelEntry, ModeEntry, RowEntry, TaskEntry, CutEntry, mode_entries, row_entries, task_entries, entries}
use Rattle.written.proofs.Entered.{label_entered}
use Rattle.written.proofs.Sheets.{row_entry, entries_in}

-- as many numbers are read as were asked for
pub words_count : (bytes : List ℕ) (at count : ℕ) → length (words_at bytes at count) ≡ count
unfolding words_at
words_count bytes at zero = refl
words_count bytes at (suc count) = ap suc (words_count bytes (at + 2) count)

-- the modes, rows and tasks that were read
pub modes_entries : (modes : List Mode)
    → mode_entries (map (λ mode. mode.boundary.0) modes) (map (λ mode. mode.length.0) modes) (map (λ mode. mode.fallback.0) modes) ≡ map ModeEntry modes
unfolding mode_entries
modes_entries [] = refl
modes_entries (mode ∷ modes) = ap (λ (l : List Entry). ModeEntry mode ∷ l) (modes_entries modes)

pub tasks_entries : (tasks : List Task)
    → task_entries (map (λ task. task.length.0) tasks) (map (λ task. task.period.0) tasks) (map (λ task. task.deadline.0) tasks) (map (λ task. task.jitter.0) tasks) ≡ map TaskEntry tasks
unfolding task_entries
tasks_entries [] = refl
tasks_entries (task ∷ tasks) = ap (λ (l : List Entry). TaskEntry task ∷ l) (tasks_entries tasks)

-- each row takes its own gaps
rows_entries : (bytes : List ℕ) (rows : List Row)
    → row_entries (map (λ row. row.speed.0) rows) (map (λ row. row.deadline.0) rows) (map (λ row. row.followers) rows) (all_gaps bytes rows) ≡ map (row_entry bytes) rows
unfolding row_entries all_gaps
rows_entries bytes [] = refl
rows_entries bytes (row ∷ rows) =
    let many = words_count bytes row.gaps (follower_count row.followers) in
    let own = take_at (gaps_of bytes row) (all_gaps bytes rows) _ many in
    let rest = drop_at (gaps_of bytes row) (all_gaps bytes rows) _ many in
    rw (own, rest) (ap (λ (l : List Entry). row_entry bytes row ∷ l) (rows_entries bytes rows))

-- the values of a sheet whose label was read have its entries
pub values_entries : (bytes : List ℕ) (sheet : Sheet) → 1 ≤ sheet.tally.last → entries (values_in bytes sheet) ≡ entries_in bytes sheet
unfolding entries values_in entries_in
values_entries bytes sheet some =
    rw (label_entered sheet.tally.last _ some, modes_entries (modes_in sheet), rows_entries bytes (rows_in sheet), tasks_entries (tasks_in sheet)) refl

-- no entry is cut
abbrev pub Uncut : Entry → Type 0
Uncut (LabelEntry text) = Unit {0}
Uncut (ModeEntry mode) = Unit {0}
Uncut (RowEntry speed deadline followers gaps) = Unit {0}
Uncut (TaskEntry task) = Unit {0}
Uncut (CutEntry tag) = ⊥

abbrev pub Whole : List Entry → Type 0
Whole [] = Unit {0}
Whole (entry ∷ more) = Uncut entry × Whole more

-- the columns with what an entry puts in front of them
unfoldable pub in_front : Entry → Values → Values
in_front (LabelEntry text) values =
    values_from text values.boundaries values.lengths values.fallbacks values.speeds values.deadlines values.sets values.gaps
    values.task_lengths values.task_periods values.task_deadlines values.task_jitters
in_front (ModeEntry mode) values =
    values_from values.label (mode.boundary.0 ∷ values.boundaries) (mode.length.0 ∷ values.lengths) (mode.fallback.0 ∷ values.fallbacks)
    values.speeds values.deadlines values.sets values.gaps values.task_lengths values.task_periods values.task_deadlines values.task_jitters
in_front (RowEntry speed deadline followers gaps) values =
    values_from values.label values.boundaries values.lengths values.fallbacks
    (speed.0 ∷ values.speeds) (deadline.0 ∷ values.deadlines) (followers ∷ values.sets) (gaps ++ values.gaps)
    values.task_lengths values.task_periods values.task_deadlines values.task_jitters
in_front (TaskEntry task) values =
    values_from values.label values.boundaries values.lengths values.fallbacks values.speeds values.deadlines values.sets values.gaps
    (task.length.0 ∷ values.task_lengths) (task.period.0 ∷ values.task_periods) (task.deadline.0 ∷ values.task_deadlines) (task.jitter.0 ∷ values.task_jitters)
in_front (CutEntry tag) values = values

-- the columns of entries
unfoldable pub columns : List Entry → Values
columns [] = values_from [] [] [] [] [] [] [] [] [] [] [] []
columns (entry ∷ more) = in_front entry (columns more)

-- where entries keep the rules, whatever was counted before, none is cut and their columns are these values
abbrev Telling : List Entry → Values → Type 0
Telling all values = (tally : Tally) → Kept (entries_rules tally all) → Whole all × (columns all ≡ values)

-- a field without content breaks rule 5 where its tag needs some
pub cut_broken : (tag : ℕ) (more : List Entry) (tally : Tally) → 1 ≤ (line_of tag).shortest → Kept (entries_rules tally (CutEntry tag ∷ more)) → ⊥
unfolding entries_rules entry_rules
cut_broken tag more tally some kept =
    let own = (both_kept (entry_rules tally (CutEntry tag)) _ kept).0 in
    omega (arith, long_enough tag 0 (common_says _ _ _ _ _ own).1)

-- so it is with one entry more in front
one_more : (entry : Entry) (more : List Entry) (values : Values) → Uncut entry → Telling more values → Telling (entry ∷ more) (in_front entry values)
unfolding entries_rules columns
one_more entry more values uncut told tally kept =
    let rest = told (count_entry tally entry) (both_kept (entry_rules tally entry) _ kept).1 in
    ((uncut, rest.0), ap (in_front entry) rest.1)

-- tasks alone
task_columns : (lengths periods deadlines jitters : List ℕ)
    → Telling (task_entries lengths periods deadlines jitters) (values_from [] [] [] [] [] [] [] [] lengths periods deadlines jitters)
unfolding task_entries columns in_front line_of fields
task_columns [] [] [] [] tally kept = (tt, refl)
task_columns [] [] [] (jitter ∷ jitters) tally kept = absurd (cut_broken 4 _ tally (omega arith) kept)
task_columns [] [] (deadline ∷ deadlines) jitters tally kept = absurd (cut_broken 4 _ tally (omega arith) kept)
task_columns [] (period ∷ periods) deadlines jitters tally kept = absurd (cut_broken 4 _ tally (omega arith) kept)
task_columns (length ∷ lengths) [] deadlines jitters tally kept = absurd (cut_broken 4 _ tally (omega arith) kept)
task_columns (length ∷ lengths) (period ∷ periods) [] jitters tally kept = absurd (cut_broken 4 _ tally (omega arith) kept)
task_columns (length ∷ lengths) (period ∷ periods) (deadline ∷ deadlines) [] tally kept = absurd (cut_broken 4 _ tally (omega arith) kept)
task_columns (length ∷ lengths) (period ∷ periods) (deadline ∷ deadlines) (jitter ∷ jitters) tally kept =
    let entry = TaskEntry (record { length = record { 0 = length }; period = record { 0 = period }; deadline = record { 0 = deadline }; jitter = record { 0 = jitter } }) in
    one_more entry _ _ tt (task_columns lengths periods deadlines jitters) tally kept

-- rows in front of entries that have none
module _ (more : List Entry) (task_lengths task_periods task_deadlines task_jitters : List ℕ)
    (told : Telling more (values_from [] [] [] [] [] [] [] [] task_lengths task_periods task_deadlines task_jitters)) where
  row_columns : (speeds deadlines sets gaps : List ℕ)
      → Telling (row_entries speeds deadlines sets gaps ++ more) (values_from [] [] [] [] speeds deadlines sets gaps task_lengths task_periods task_deadlines task_jitters)
  unfolding row_entries in_front line_of fields
  row_columns [] [] [] [] tally kept = told tally kept
  row_columns [] [] [] (gap ∷ gaps) tally kept = absurd (cut_broken 3 _ tally (omega arith) kept)
  row_columns [] [] (followers ∷ sets) gaps tally kept = absurd (cut_broken 3 _ tally (omega arith) kept)
  row_columns [] (deadline ∷ deadlines) sets gaps tally kept = absurd (cut_broken 3 _ tally (omega arith) kept)
  row_columns (speed ∷ speeds) [] sets gaps tally kept = absurd (cut_broken 3 _ tally (omega arith) kept)
  row_columns (speed ∷ speeds) (deadline ∷ deadlines) [] gaps tally kept = absurd (cut_broken 3 _ tally (omega arith) kept)
  row_columns (speed ∷ speeds) (deadline ∷ deadlines) (followers ∷ sets) gaps tally kept =
      let count = follower_count followers in
      let entry = RowEntry (record { 0 = speed }) (record { 0 = deadline }) followers (take count gaps) in
      let all = one_more entry _ _ tt (row_columns speeds deadlines sets (drop count gaps)) tally kept in
      let with-gaps : List ℕ → Values = λ own. values_from [] [] [] [] (speed ∷ speeds) (deadline ∷ deadlines) (followers ∷ sets) own task_lengths task_periods task_deadlines task_jitters in
      (all.0, all.1 ∙ ap with-gaps (take-append-drop count gaps))

-- modes in front of entries that have none
module _ (more : List Entry) (speeds deadlines sets gaps task_lengths task_periods task_deadlines task_jitters : List ℕ)
    (told : Telling more (values_from [] [] [] [] speeds deadlines sets gaps task_lengths task_periods task_deadlines task_jitters)) where
  mode_columns : (boundaries lengths fallbacks : List ℕ)
      → Telling (mode_entries boundaries lengths fallbacks ++ more) (values_from [] boundaries lengths fallbacks speeds deadlines sets gaps task_lengths task_periods task_deadlines task_jitters)
  unfolding mode_entries in_front line_of fields
  mode_columns [] [] [] tally kept = told tally kept
  mode_columns [] [] (fallback ∷ fallbacks) tally kept = absurd (cut_broken 2 _ tally (omega arith) kept)
  mode_columns [] (length ∷ lengths) fallbacks tally kept = absurd (cut_broken 2 _ tally (omega arith) kept)
  mode_columns (boundary ∷ boundaries) [] fallbacks tally kept = absurd (cut_broken 2 _ tally (omega arith) kept)
  mode_columns (boundary ∷ boundaries) (length ∷ lengths) [] tally kept = absurd (cut_broken 2 _ tally (omega arith) kept)
  mode_columns (boundary ∷ boundaries) (length ∷ lengths) (fallback ∷ fallbacks) tally kept =
      let entry = ModeEntry (record { boundary = record { 0 = boundary }; length = record { 0 = length }; fallback = record { 0 = fallback } }) in
      one_more entry _ _ tt (mode_columns boundaries lengths fallbacks) tally kept

-- values that keep the rules have no cut entry, and the columns of their entries are the values
pub entries_columns : (values : Values) (tally : Tally) → Kept (entries_rules tally (entries values)) → Whole (entries values) × (columns (entries values) ≡ values)
unfolding entries in_front
entries_columns values =
    let tasks = task_columns values.task_lengths values.task_periods values.task_deadlines values.task_jitters in
    let rows = row_columns _ _ _ _ _ tasks values.speeds values.deadlines values.sets values.gaps in
    one_more (LabelEntry values.label) _ _ tt (mode_columns _ _ _ _ _ _ _ _ _ rows values.boundaries values.lengths values.fallbacks)

-- and so their entries tell them apart
pub entries_tell : (one other : Values) (tally : Tally) → Kept (entries_rules tally (entries other)) → entries one ≡ entries other → one ≡ other
entries_tell one other tally kept same = sym (entries_columns one tally (rw same kept)).1 ∙ ap columns same ∙ (entries_columns other tally kept).1
