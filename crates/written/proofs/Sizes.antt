-- How large values are that break no rule: what they have of each kind at most, and how many bytes are written of them.
use Prim.Native.Nat.{ℕ, ◌+◌, ◌-◌, ◌*◌, ◌^◌, ◌≤◌, ◌<◌, min}
use native.Mathlib.Nat.{lt_of_lt_of_le}
use native.Mathlib.Omega.{arith}
use mathlib.Core.Path.{◌≡◌, ◌∙◌, refl, sym, ap}
use mathlib.Core.Logic.{⊎_elim}
use mathlib.Core.List.{List, [], ◌∷◌, ◌++◌, map}
use lib.Dec.{eqb}
use lib.Pow.{pow_mono}
use lib.ListN.{length, get_or, take, drop, length-append, length-take, length-map, take-append-drop, get_or-eq_default}
use Rattle.sets.specs.Sets.{width, next_in}
use Rattle.sets.proofs.Bits.{all_below}
use Rattle.sets.proofs.Search.{next_none_all}
use Rattle.meaning.proofs.Tests.{lt_or}
use Rattle.std.specs.Prelude.{Ok}
use Rattle.fields.specs.Deciding.{pick, first_broken}
use Rattle.fields.specs.Values.{empty_sheet, short_size, short_task_size}
use Rattle.fields.specs.Limits.{mode_limit, row_limit, task_limit, label_limit, mode_size, fallback_size, head_size, gap_size, task_size, jitter_size}
use Rattle.rules.specs.Rules.{follower_count, unknown_in}
use Rattle.fields.specs.declared.values.Mode.{Mode}
use Rattle.fields.specs.declared.values.Task.{Task}
use Rattle.fields.specs.declared.values.Tally.{Tally}
use Rattle.fields.proofs.Deciding.{Kept, both_kept, any_false}
use Rattle.sheet.proofs.KeptRules.{nothing}
use Rattle.written.specs.Judging.{band_count, jitter_count, sheet_size, no_tally, entry_rules, count_entry, entries_rules, count_entries, unknown_among, values_rules}
use Rattle.written.specs.Reading.{values_in}
use Rattle.written.specs.Values.{Values, Entry, LabelEntry, ModeEntry, RowEntry, TaskEntry, CutEntry, mode_entries, row_entries, task_entries, entries}
use Rattle.written.specs.Written.{words, tag_of, content_of, field_of, fields_of, field, written}
use Rattle.written.proofs.InColumns.{Whole, entries_columns}
use Rattle.written.proofs.Entered.{InOrder}
use Rattle.written.proofs.EntriesKept.{label_says, row_says, entries_kept, rules_both, kept_written, end_written}
use Rattle.written.proofs.EntryFields.{words_length}
use Rattle.written.proofs.LastMode.{modes_alike, one_most, last_plain}
use Rattle.written.proofs.Fields.{fields_both}
use Rattle.written.proofs.ReadBack.{read_in_order, values_read}
use Rattle.written.proofs.Sheets.{read_sheet, entries_tally}
use Rattle.written.proofs.ShortNumbers.{mode_long, band_size, task_long, jitter_size_lem}

-- entries one behind the other: none of either is cut
whole_both : (first behind : List Entry) → Whole (first ++ behind) → Whole first × Whole behind
whole_both [] behind whole = (tt, whole)
whole_both (entry ∷ first) behind whole =
    let both = whole_both first behind whole.1 in
    ((whole.0, both.0), both.1)

-- the fields of each kind, where none is cut
modes_size : (boundaries lengths fallbacks : List ℕ) → Whole (mode_entries boundaries lengths fallbacks)
    → length (fields_of (mode_entries boundaries lengths fallbacks)) ≡ (3 + mode_size) * length boundaries + fallback_size * band_count boundaries fallbacks
unfolding mode_entries fields_of band_count tag_of
modes_size [] [] [] whole = refl
modes_size [] [] (fallback ∷ fallbacks) whole = absurd whole.0
modes_size [] (l ∷ lengths) fallbacks whole = absurd whole.0
modes_size (boundary ∷ boundaries) [] fallbacks whole = absurd whole.0
modes_size (boundary ∷ boundaries) (l ∷ lengths) [] whole = absurd whole.0
modes_size (boundary ∷ boundaries) (l ∷ lengths) (fallback ∷ fallbacks) whole =
    let mode : Mode = record { boundary = record { 0 = boundary }; length = record { 0 = l }; fallback = record { 0 = fallback } } in
    let more = fields_of (mode_entries boundaries lengths fallbacks) in
    let own : short_size mode ≡ mode_size + fallback_size * pick (eqb fallback boundary) 0 1 = band_size mode in
    omega (arith, length-append (content_of (ModeEntry mode)) more, mode_long mode, own, modes_size boundaries lengths fallbacks whole.1)

tasks_size : (lengths periods deadlines jitters : List ℕ) → Whole (task_entries lengths periods deadlines jitters)
    → length (fields_of (task_entries lengths periods deadlines jitters)) ≡ (3 + task_size) * length lengths + jitter_size * jitter_count jitters
unfolding task_entries fields_of jitter_count tag_of
tasks_size [] [] [] [] whole = refl
tasks_size [] [] [] (jitter ∷ jitters) whole = absurd whole.0
tasks_size [] [] (deadline ∷ deadlines) jitters whole = absurd whole.0
tasks_size [] (period ∷ periods) deadlines jitters whole = absurd whole.0
tasks_size (l ∷ lengths) [] deadlines jitters whole = absurd whole.0
tasks_size (l ∷ lengths) (period ∷ periods) [] jitters whole = absurd whole.0
tasks_size (l ∷ lengths) (period ∷ periods) (deadline ∷ deadlines) [] whole = absurd whole.0
tasks_size (l ∷ lengths) (period ∷ periods) (deadline ∷ deadlines) (jitter ∷ jitters) whole =
    let task : Task = record { length = record { 0 = l }; period = record { 0 = period }; deadline = record { 0 = deadline }; jitter = record { 0 = jitter } } in
    let more = fields_of (task_entries lengths periods deadlines jitters) in
    let own : short_task_size task ≡ task_size + jitter_size * pick (eqb jitter 0) 0 1 = jitter_size_lem task in
    omega (arith, length-append (content_of (TaskEntry task)) more, task_long task, own, tasks_size lengths periods deadlines jitters whole.1)

-- no more tasks have a jitter than there are
jitters_fit : (jitters : List ℕ) → jitter_count jitters ≤ length jitters
unfolding jitter_count
jitters_fit [] = omega arith
jitters_fit (jitter ∷ jitters) = omega (arith, one_most (eqb jitter 0), jitters_fit jitters)

rows_size : (speeds deadlines sets gaps : List ℕ) → Whole (row_entries speeds deadlines sets gaps)
    → length (fields_of (row_entries speeds deadlines sets gaps)) ≡ (3 + head_size) * length speeds + gap_size * length gaps
unfolding row_entries fields_of tag_of content_of words
rows_size [] [] [] [] whole = refl
rows_size [] [] [] (gap ∷ gaps) whole = absurd whole.0
rows_size [] [] (followers ∷ sets) gaps whole = absurd whole.0
rows_size [] (deadline ∷ deadlines) sets gaps whole = absurd whole.0
rows_size (speed ∷ speeds) [] sets gaps whole = absurd whole.0
rows_size (speed ∷ speeds) (deadline ∷ deadlines) [] gaps whole = absurd whole.0
rows_size (speed ∷ speeds) (deadline ∷ deadlines) (followers ∷ sets) gaps whole =
    let count = follower_count followers in
    let own = take count gaps in
    let left = drop count gaps in
    let more = fields_of (row_entries speeds deadlines sets left) in
    let all : length gaps ≡ length own + length left = ap length (sym (take-append-drop count gaps)) ∙ length-append own left in
    omega (arith, length-append (words own) more, words_length own, rows_size speeds deadlines sets left whole.1, all)

-- a row that keeps rule 5 has no more gaps than a sheet has rows
rows_gaps : (tally : Tally) (more : List Entry) (speeds deadlines sets gaps : List ℕ) → Whole (row_entries speeds deadlines sets gaps)
    → Kept (entries_rules tally (row_entries speeds deadlines sets gaps ++ more)) → length gaps ≤ row_limit * length speeds
unfolding row_entries entries_rules
rows_gaps tally more [] [] [] [] whole kept = omega arith
rows_gaps tally more [] [] [] (gap ∷ gaps) whole kept = absurd whole.0
rows_gaps tally more [] [] (followers ∷ sets) gaps whole kept = absurd whole.0
rows_gaps tally more [] (deadline ∷ deadlines) sets gaps whole kept = absurd whole.0
rows_gaps tally more (speed ∷ speeds) [] sets gaps whole kept = absurd whole.0
rows_gaps tally more (speed ∷ speeds) (deadline ∷ deadlines) [] gaps whole kept = absurd whole.0
rows_gaps tally more (speed ∷ speeds) (deadline ∷ deadlines) (followers ∷ sets) gaps whole kept =
    let count = follower_count followers in
    let own = take count gaps in
    let left = drop count gaps in
    let entry = RowEntry (record { 0 = speed }) (record { 0 = deadline }) followers own in
    let both = both_kept (entry_rules tally entry) _ kept in
    let rest = rows_gaps (count_entry tally entry) more speeds deadlines sets left whole.1 both.1 in
    let all : length gaps ≡ length own + length left = ap length (sym (take-append-drop count gaps)) ∙ length-append own left in
    omega (arith, row_says tally _ _ followers own both.0, rest, all)

-- rule 6: no more rows are counted than a sheet has
row_counted : (tally : Tally) (entry : Entry) → tally.rows ≤ row_limit → Kept (entry_rules tally entry) → (count_entry tally entry).rows ≤ row_limit
unfolding count_entry
row_counted tally (LabelEntry text) few kept = few
row_counted tally (ModeEntry mode) few kept = few
row_counted tally (RowEntry speed deadline followers gaps) few kept =
    omega (arith, row_says tally speed deadline followers gaps kept)
row_counted tally (TaskEntry task) few kept = few
row_counted tally (CutEntry tag) few kept = few

rows_counted : (tally : Tally) (all : List Entry) → tally.rows ≤ row_limit → Kept (entries_rules tally all) → (count_entries tally all).rows ≤ row_limit
unfolding entries_rules count_entries
rows_counted tally [] few kept = few
rows_counted tally (entry ∷ more) few kept =
    let both = both_kept (entry_rules tally entry) _ kept in
    rows_counted (count_entry tally entry) more (row_counted tally entry few both.0) both.1

-- what is counted off an array is no more than the count, and than the array holds
column_most : {A : Type 0} (number : A → ℕ) (held : List A) (count : ℕ) (column : List ℕ) → map number (take count held) ≡ column
    → (length column ≤ count) × (length column ≤ length held)
column_most number held count column same =
    let many : length column ≡ min count (length held) = sym (ap length same) ∙ length-map (take count held) number ∙ length-take count held in
    (omega arith, omega arith)

-- how many bytes values take, and how many they take at most
abbrev pub size_of : Values → ℕ
size_of values =
    sheet_size (length values.label) (length values.boundaries) (band_count values.boundaries values.fallbacks)
    (length values.speeds) (length values.gaps) (length values.task_lengths) (jitter_count values.task_jitters)

abbrev pub most_written : ℕ
most_written = sheet_size label_limit mode_limit (mode_limit - 1) row_limit (row_limit * row_limit) task_limit task_limit

module _ (values : Values) (none : first_broken (values_rules values) ≡ Ok tt) where
  -- no field breaks a rule, and the sheet that is read has these values
  fields_none : first_broken (entries_rules no_tally (entries values)) ≡ Ok tt
  fields_none = kept_written values none

  kept : Kept (entries_rules no_tally (entries values))
  kept = entries_kept no_tally (entries values) fields_none

  same : values_in (written values) (read_sheet values) ≡ values
  same = values_read values fields_none

  order : InOrder (read_sheet values)
  order = read_in_order values fields_none

  -- how many of each kind there are at most
  pub modes_most : length values.boundaries ≤ mode_limit
  unfolding values_in
  modes_most = omega (arith, order.mode_room, column_most (λ mode. mode.boundary.0) (read_sheet values).modes (read_sheet values).tally.modes values.boundaries (ap (λ read. read.boundaries) same))

  pub rows_most : length values.speeds ≤ row_limit
  unfolding values_in
  rows_most = omega (arith, order.row_room, column_most (λ row. row.speed.0) (read_sheet values).rows (read_sheet values).tally.rows values.speeds (ap (λ read. read.speeds) same))

  pub tasks_most : length values.task_lengths ≤ task_limit
  unfolding values_in
  tasks_most = omega (arith, order.task_room, column_most (λ task. task.length.0) (read_sheet values).tasks (read_sheet values).tally.tasks values.task_lengths (ap (λ read. read.task_lengths) same))

  pub jitters_most : jitter_count values.task_jitters ≤ task_limit
  unfolding values_in
  jitters_most =
      omega (
        arith,
        jitters_fit values.task_jitters,
        order.task_room,
        column_most (λ task. task.jitter.0) (read_sheet values).tasks (read_sheet values).tally.tasks values.task_jitters (ap (λ read. read.task_jitters) same),
      )

  pub label_most : length values.label ≤ label_limit
  unfolding entries entries_rules
  label_most = label_says no_tally values.label (both_kept (entry_rules no_tally (LabelEntry values.label)) _ kept).0

  -- no entry is cut, of all of them and of each kind
  whole : Whole (entries values)
  whole = (entries_columns values no_tally kept).0

  abbrev modes : List Entry
  modes = mode_entries values.boundaries values.lengths values.fallbacks

  abbrev rows : List Entry
  rows = row_entries values.speeds values.deadlines values.sets values.gaps

  abbrev tasks : List Entry
  tasks = task_entries values.task_lengths values.task_periods values.task_deadlines values.task_jitters

  each_whole : Whole modes × Whole rows × Whole tasks
  unfolding entries
  each_whole =
      let first = whole_both modes (rows ++ tasks) whole.1 in
      let behind = whole_both rows tasks first.1 in
      (first.0, behind.0, behind.1)

  -- each mode has a fall-back, and all but the last may have a band
  pub fallbacks_long : length values.boundaries ≡ length values.fallbacks
  fallbacks_long = (modes_alike values.boundaries values.lengths values.fallbacks each_whole.0).1

  pub bands_most : band_count values.boundaries values.fallbacks ≤ mode_limit - 1
  bands_most = omega (arith, last_plain values none each_whole.0 each_whole.1 each_whole.2, modes_most)

  -- each row has no more gaps than there are rows
  pub gaps_most : length values.gaps ≤ row_limit * row_limit
  unfolding entries entries_rules
  gaps_most =
      let label = LabelEntry values.label in
      let from_modes_lem = (both_kept (entry_rules no_tally label) _ kept).1 in
      let from_rows_lem = (both_kept (entries_rules (count_entry no_tally label) modes) _ (rw (rules_both (count_entry no_tally label) modes (rows ++ tasks)) at from_modes_lem)).1 in
      omega (arith, rows_most, rows_gaps _ tasks values.speeds values.deadlines values.sets values.gaps each_whole.1 from_rows_lem)

  -- so many are written
  pub size_written : length (written values) ≡ size_of values
  unfolding written entries fields_of tag_of content_of
  size_written =
      let end = field 5 [] in
      let first = fields_of modes in
      let second = fields_of rows in
      let third = fields_of tasks in
      let parts : fields_of (modes ++ (rows ++ tasks)) ≡ first ++ (second ++ third) = fields_both modes (rows ++ tasks) ∙ ap (λ (l : List ℕ). first ++ l) (fields_both rows tasks) in
      let text = field_of (LabelEntry values.label) in
      omega (
        arith,
        length-append (text ++ fields_of (modes ++ (rows ++ tasks))) end,
        length-append text (fields_of (modes ++ (rows ++ tasks))),
        ap length parts,
        length-append first (second ++ third),
        length-append second third,
        modes_size values.boundaries values.lengths values.fallbacks each_whole.0,
        rows_size values.speeds values.deadlines values.sets values.gaps each_whole.1,
        tasks_size values.task_lengths values.task_periods values.task_deadlines values.task_jitters each_whole.2,
      )

  -- and so never more than this
  pub written_most : length (written values) ≤ most_written
  written_most = omega (arith, size_written, label_most, modes_most, bands_most, rows_most, gaps_most, tasks_most, jitters_most)

  -- rule 9: a set that has no more bits than code gives it names only rows that a sheet can have
  pub sets_narrow : (k : ℕ) → get_or values.sets k 0 < 2 ^ width → get_or values.sets k 0 < 2 ^ row_limit
  unfolding unknown_among unknown_in empty_sheet values_in
  sets_narrow k wide =
      let count = (count_entries no_tally (entries values)).rows in
      let few : count ≤ row_limit = rows_counted no_tally (entries values) (omega arith) kept in
      ⊎_elim
      (λ (inside : k < count).
      let followers = get_or values.sets k 0 in
      let none-there = nothing (next_in (width - count) followers count) (any_false _ 0 count (end_written values none).1 k (omega arith) (omega arith)) in
      lt_of_lt_of_le ((all_below count followers).1 (next_none_all width followers count wide none-there)) (pow_mono few))
      (λ (past : count ≤ k).
      let counted = column_most (λ row. row.followers) (read_sheet values).rows (read_sheet values).tally.rows values.sets (ap (λ read. read.sets) same) in
      let tally = ap (λ tally. tally.rows) (entries_tally 0 empty_sheet (entries values)) in
      let beyond : get_or values.sets k 0 ≡ 0 = get_or-eq_default values.sets 0 (omega (arith, counted.0, tally)) in
      rw beyond (omega arith))
      (lt_or k count)
