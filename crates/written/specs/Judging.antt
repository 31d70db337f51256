-- The reader's rules on values, and how many bytes they take, before a byte is written. Nobody has to believe this page: that a reader of the written bytes says the same is proved (`judged_written`), and that so many are written (`size_written`).
use Rattle.std.specs.Prelude.{ℕ, ◌+◌, ◌*◌, List, [], ◌∷◌, ◌++◌, Bool, false, length, get_or, ltb, eqb}
use Rattle.fields.specs.Deciding.{Rule, ◌when◌, pick, any_from}
use Rattle.fields.specs.Limits.{mode_size, fallback_size, head_size, gap_size, task_size, jitter_size}
use Rattle.fields.specs.Values.{empty_sheet, short_size, short_task_size}
use Rattle.rules.specs.Rules.{unlike_set, unknown_in, common_rules, text_rules, mode_rules, row_rules, task_rules}
use Rattle.rules.specs.Counting.{count_label, count_mode, count_row, count_task}
use Rattle.fields.specs.declared.refusal.Reason.TheVariants.{UnknownFollower}
use Rattle.fields.specs.declared.units.Ticks.{Ticks}
use Rattle.fields.specs.declared.values.Tally.{Tally}
use Rattle.written.specs.Values.{Values, Entry, LabelEntry, ModeEntry, RowEntry, TaskEntry, CutEntry, entries}

-- rule 7 and rule 10: one of the gaps is shorter than a bound
unfoldable pub one_shorter : List ℕ → Ticks → Bool
one_shorter gaps bound = any_from (λ k. ltb (get_or gaps k 0) bound.0) 0 (length gaps)

-- how many bytes a row has with these gaps
abbrev pub row_size : List ℕ → ℕ
row_size gaps = head_size + gap_size * length gaps

-- how many modes have a band: a fall-back that is not the boundary
unfoldable pub band_count : List ℕ → List ℕ → ℕ
band_count [] fallbacks = 0
band_count (boundary ∷ boundaries) [] = 0
band_count (boundary ∷ boundaries) (fallback ∷ fallbacks) = pick (eqb fallback boundary) 0 1 + band_count boundaries fallbacks

-- how many fixed tasks have a jitter that is not 0
unfoldable pub jitter_count : List ℕ → ℕ
jitter_count [] = 0
jitter_count (jitter ∷ jitters) = pick (eqb jitter 0) 0 1 + jitter_count jitters

-- how many bytes a sheet has, by the sizes of its label and columns: each field has three before its content, and the end field has no more
abbrev pub sheet_size : ℕ → ℕ → ℕ → ℕ → ℕ → ℕ → ℕ → ℕ
sheet_size label modes bands rows gaps tasks jitters =
    6 + label + (3 + mode_size) * modes + fallback_size * bands + (3 + head_size) * rows + gap_size * gaps + (3 + task_size) * tasks + jitter_size * jitters

-- the rules of an entry; a field without content breaks rule 5 whatever else it breaks
unfoldable pub entry_rules : Tally → Entry → List Rule
entry_rules tally (LabelEntry text) = common_rules 1 tally.last (length text) false 0 ++ text_rules text 0 (length text)
entry_rules tally (ModeEntry mode) = common_rules 2 tally.last (short_size mode) false tally.modes ++ mode_rules tally mode (short_size mode)
entry_rules tally (RowEntry speed deadline followers gaps) =
    common_rules 3 tally.last (row_size gaps) (unlike_set (row_size gaps) followers) tally.rows
    ++ row_rules tally (record { speed = speed; deadline = deadline; followers = followers; gaps = 0 }) (one_shorter gaps (record { 0 = 1 })) (one_shorter gaps deadline)
entry_rules tally (TaskEntry task) = common_rules 4 tally.last (short_task_size task) false tally.tasks ++ task_rules task
entry_rules tally (CutEntry tag) = common_rules tag tally.last 0 false 0

-- what an entry adds to the tally
unfoldable pub count_entry : Tally → Entry → Tally
count_entry tally (LabelEntry text) = count_label tally
count_entry tally (ModeEntry mode) = count_mode tally mode
count_entry tally (RowEntry speed deadline followers gaps) = count_row tally speed
count_entry tally (TaskEntry task) = count_task tally
count_entry tally (CutEntry tag) = tally

-- the rules of entries one after the other, and what they add to the tally
unfoldable pub entries_rules : Tally → List Entry → List Rule
entries_rules tally [] = []
entries_rules tally (entry ∷ more) = entry_rules tally entry ++ entries_rules (count_entry tally entry) more

unfoldable pub count_entries : Tally → List Entry → Tally
count_entries tally [] = tally
count_entries tally (entry ∷ more) = count_entries (count_entry tally entry) more

-- rule 9: one of the sets names a row that does not exist
unfoldable pub unknown_among : List ℕ → ℕ → Bool
unknown_among sets count = any_from (λ k. unknown_in (get_or sets k 0) count) 0 count

-- the rules of the end field
unfoldable pub end_rules : Tally → List ℕ → List Rule
end_rules tally sets = common_rules 5 tally.last 0 false 0 ++ (UnknownFollower when (unknown_among sets tally.rows) ∷ [])

-- the tally before any field, and all rules that values are tried by
abbrev pub no_tally : Tally
no_tally = empty_sheet.tally

unfoldable pub values_rules : Values → List Rule
values_rules values = entries_rules no_tally (entries values) ++ end_rules (count_entries no_tally (entries values)) values.sets
