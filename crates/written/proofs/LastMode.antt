-- Of values that keep the rules the last mode has no band, so at most all the others have one.
use Prim.Native.Nat.{ℕ, ◌-◌, ◌≤◌}
use native.Mathlib.Omega.{arith}
use mathlib.Core.Path.{◌≡◌, refl}
use mathlib.Core.List.{List, [], ◌∷◌, ◌++◌}
use mathlib.Core.Bool.{Bool, true, false}
use lib.Dec.{eqb}
use lib.ListN.{length, take, drop}
use borrow.Author.Tests.{eqb-true, eq-eqb, not-false}
use Rattle.std.specs.Prelude.{Ok}
use Rattle.fields.specs.Deciding.{pick, first_broken}
use Rattle.fields.specs.Fields.{line_of, fields}
use Rattle.fields.specs.Values.{short_task_size}
use Rattle.rules.specs.Rules.{follower_count, last_hangs, common_rules, row_rules}
use Rattle.fields.specs.declared.units.Rpm.{Rpm}
use Rattle.fields.specs.declared.units.Ticks.{Ticks}
use Rattle.fields.specs.declared.values.Tally.{Tally}
use Rattle.fields.specs.declared.values.Task.{Task}
use Rattle.fields.proofs.Deciding.{Kept, both_kept}
use Rattle.sheet.proofs.KeptRules.{order_kept}
use Rattle.sheet.proofs.Numbered.{common_says}
use Rattle.written.specs.Judging.{band_count, no_tally, entry_rules, count_entry, entries_rules, count_entries, values_rules}
use Rattle.written.specs.Values.{Values, Entry, LabelEntry, ModeEntry, RowEntry, TaskEntry, mode_entries, row_entries, task_entries, entries}
use Rattle.written.proofs.InColumns.{Whole}
use Rattle.written.proofs.EntriesKept.{entries_kept, rules_both, count_both, kept_written, end_written}

-- modes of which none is cut have as many job lengths and fall-backs as boundaries
pub modes_alike : (boundaries lengths fallbacks : List ℕ) → Whole (mode_entries boundaries lengths fallbacks)
    → (length boundaries ≡ length lengths) × (length boundaries ≡ length fallbacks)
unfolding mode_entries
modes_alike [] [] [] whole = (refl, refl)
modes_alike [] [] (fallback ∷ fallbacks) whole = absurd whole.0
modes_alike [] (l ∷ lengths) fallbacks whole = absurd whole.0
modes_alike (boundary ∷ boundaries) [] fallbacks whole = absurd whole.0
modes_alike (boundary ∷ boundaries) (l ∷ lengths) [] whole = absurd whole.0
modes_alike (boundary ∷ boundaries) (l ∷ lengths) (fallback ∷ fallbacks) whole =
    let rest = modes_alike boundaries lengths fallbacks whole.1 in
    (omega (arith, rest), omega (arith, rest))

-- one mode has at most one band, and one fixed task at most one jitter
pub one_most : (none : Bool) → pick {A = ℕ} none 0 1 ≤ 1
unfolding pick
one_most true = omega arith
one_most false = omega arith

-- the mode before a row has none
row_plain : (tally : Tally) (speed : Rpm) (deadline : Ticks) (followers : ℕ) (gaps : List ℕ) → Kept (entry_rules tally (RowEntry speed deadline followers gaps))
    → tally.fallback.0 ≡ tally.top.0
unfolding entry_rules row_rules last_hangs
row_plain tally speed deadline followers gaps kept = eqb-true _ _ (not-false _ (both_kept (common_rules 3 _ _ _ _) _ kept).1.0)

-- modes behind which a row stands
bands_before : (tally : Tally) (speed : Rpm) (deadline : Ticks) (followers : ℕ) (gaps : List ℕ) (more : List Entry) (boundaries lengths fallbacks : List ℕ)
    → Kept (entries_rules tally (mode_entries boundaries lengths fallbacks ++ (RowEntry speed deadline followers gaps ∷ more))) → Whole (mode_entries boundaries lengths fallbacks)
    → band_count boundaries fallbacks ≤ length boundaries - 1
unfolding mode_entries entries_rules count_entry band_count pick
bands_before tally speed deadline followers gaps more [] [] [] kept whole = omega arith
bands_before tally speed deadline followers gaps more [] [] (fallback ∷ fallbacks) kept whole = absurd whole.0
bands_before tally speed deadline followers gaps more [] (l ∷ lengths) fallbacks kept whole = absurd whole.0
bands_before tally speed deadline followers gaps more (boundary ∷ boundaries) [] fallbacks kept whole = absurd whole.0
bands_before tally speed deadline followers gaps more (boundary ∷ boundaries) (l ∷ lengths) [] kept whole = absurd whole.0
bands_before tally speed deadline followers gaps more (boundary ∷ []) (l ∷ m ∷ lengths) (fallback ∷ fallbacks) kept whole = absurd whole.1.0
bands_before tally speed deadline followers gaps more (boundary ∷ []) (l ∷ []) (fallback ∷ f ∷ fallbacks) kept whole = absurd whole.1.0
bands_before tally speed deadline followers gaps more (boundary ∷ []) (l ∷ []) (fallback ∷ []) kept whole =
    let entry = ModeEntry (record { boundary = record { 0 = boundary }; length = record { 0 = l }; fallback = record { 0 = fallback } }) in
    let counted = count_entry tally entry in
    let row = (both_kept (entry_rules counted (RowEntry speed deadline followers gaps)) _ (both_kept (entry_rules tally entry) _ kept).1).0 in
    let same : eqb fallback boundary ≡ true = eq-eqb fallback boundary (row_plain counted speed deadline followers gaps row) in
    rw same (omega arith)
bands_before tally speed deadline followers gaps more (boundary ∷ next ∷ boundaries) (l ∷ lengths) (fallback ∷ fallbacks) kept whole =
    let entry = ModeEntry (record { boundary = record { 0 = boundary }; length = record { 0 = l }; fallback = record { 0 = fallback } }) in
    let rest = bands_before (count_entry tally entry) speed deadline followers gaps more (next ∷ boundaries) lengths fallbacks (both_kept (entry_rules tally entry) _ kept).1 whole.1 in
    omega (arith, one_most (eqb fallback boundary), rest)

-- the last tag behind label and modes
modes_last : (tally : Tally) (boundaries lengths fallbacks : List ℕ) → Whole (mode_entries boundaries lengths fallbacks) → tally.last ≤ 2
    → (count_entries tally (mode_entries boundaries lengths fallbacks)).last ≤ 2
unfolding mode_entries count_entries count_entry
modes_last tally [] [] [] whole low = low
modes_last tally [] [] (fallback ∷ fallbacks) whole low = absurd whole.0
modes_last tally [] (l ∷ lengths) fallbacks whole low = absurd whole.0
modes_last tally (boundary ∷ boundaries) [] fallbacks whole low = absurd whole.0
modes_last tally (boundary ∷ boundaries) (l ∷ lengths) [] whole low = absurd whole.0
modes_last tally (boundary ∷ boundaries) (l ∷ lengths) (fallback ∷ fallbacks) whole low =
    modes_last (count_entry tally (ModeEntry (record { boundary = record { 0 = boundary }; length = record { 0 = l }; fallback = record { 0 = fallback } })))
    boundaries lengths fallbacks whole.1 (omega arith)

-- fixed tasks and the end field stand behind a row
rows_first : (tally : Tally) (lengths periods deadlines jitters : List ℕ) → Whole (task_entries lengths periods deadlines jitters) → tally.last ≤ 2
    → Kept (entries_rules tally (task_entries lengths periods deadlines jitters)) → 3 ≤ (count_entries tally (task_entries lengths periods deadlines jitters)).last → ⊥
unfolding task_entries entries_rules entry_rules count_entries line_of fields
rows_first tally [] [] [] [] whole low kept high = omega arith
rows_first tally [] [] [] (jitter ∷ jitters) whole low kept high = absurd whole.0
rows_first tally [] [] (deadline ∷ deadlines) jitters whole low kept high = absurd whole.0
rows_first tally [] (period ∷ periods) deadlines jitters whole low kept high = absurd whole.0
rows_first tally (l ∷ lengths) [] deadlines jitters whole low kept high = absurd whole.0
rows_first tally (l ∷ lengths) (period ∷ periods) [] jitters whole low kept high = absurd whole.0
rows_first tally (l ∷ lengths) (period ∷ periods) (deadline ∷ deadlines) [] whole low kept high = absurd whole.0
rows_first tally (l ∷ lengths) (period ∷ periods) (deadline ∷ deadlines) (jitter ∷ jitters) whole low kept high =
    let task : Task = record { length = record { 0 = l }; period = record { 0 = period }; deadline = record { 0 = deadline }; jitter = record { 0 = jitter } } in
    let own = (both_kept (entry_rules tally (TaskEntry task)) _ kept).0 in
    let order = (common_says _ _ _ _ _ (both_kept (common_rules 4 tally.last (short_task_size task) false tally.tasks) _ own).0).0 in
    omega (arith, order_kept tally.last 4 3 order refl (omega arith))

module _ (values : Values) (none : first_broken (values_rules values) ≡ Ok tt) (whole : Whole (mode_entries values.boundaries values.lengths values.fallbacks))
    (rows_whole : Whole (row_entries values.speeds values.deadlines values.sets values.gaps))
    (tasks-whole : Whole (task_entries values.task_lengths values.task_periods values.task_deadlines values.task_jitters)) where
  abbrev modes : List Entry
  modes = mode_entries values.boundaries values.lengths values.fallbacks

  abbrev rows : List Entry
  rows = row_entries values.speeds values.deadlines values.sets values.gaps

  abbrev tasks : List Entry
  tasks = task_entries values.task_lengths values.task_periods values.task_deadlines values.task_jitters

  -- the tally behind the label, and behind the modes
  abbrev labelled : Tally
  labelled = count_entry no_tally (LabelEntry values.label)

  abbrev before : Tally
  before = count_entries labelled modes

  from_modes_lem : Kept (entries_rules labelled (modes ++ (rows ++ tasks)))
  unfolding entries entries_rules
  from_modes_lem = (both_kept (entry_rules no_tally (LabelEntry values.label)) _ (entries_kept no_tally (entries values) (kept_written values none))).1

  from_rows_lem : Kept (entries_rules before (rows ++ tasks))
  from_rows_lem = (both_kept (entries_rules labelled modes) _ (rw (rules_both labelled modes (rows ++ tasks)) at from_modes_lem)).1

  ended : 3 ≤ (count_entries before (rows ++ tasks)).last
  unfolding entries count_entries line_of fields
  ended = order_kept _ 5 3 (rw (count_both labelled modes (rows ++ tasks)) at (end_written values none).0) refl (omega arith)

  rows_some : rows ≡ [] → ⊥
  unfolding count_entry
  rows_some no_rows =
      rows_first before values.task_lengths values.task_periods values.task_deadlines values.task_jitters tasks-whole
      (modes_last labelled values.boundaries values.lengths values.fallbacks whole (omega arith))
      (rw no_rows at from_rows_lem) (rw no_rows at ended)

  with_rows : (speeds deadlines sets gaps : List ℕ) → Whole (row_entries speeds deadlines sets gaps) → (row_entries speeds deadlines sets gaps ≡ [] → ⊥)
      → Kept (entries_rules labelled (modes ++ (row_entries speeds deadlines sets gaps ++ tasks))) → band_count values.boundaries values.fallbacks ≤ length values.boundaries - 1
  unfolding row_entries
  with_rows [] [] [] [] all some kept = absurd (some refl)
  with_rows [] [] [] (gap ∷ gaps) all some kept = absurd all.0
  with_rows [] [] (followers ∷ sets) gaps all some kept = absurd all.0
  with_rows [] (deadline ∷ deadlines) sets gaps all some kept = absurd all.0
  with_rows (speed ∷ speeds) [] sets gaps all some kept = absurd all.0
  with_rows (speed ∷ speeds) (deadline ∷ deadlines) [] gaps all some kept = absurd all.0
  with_rows (speed ∷ speeds) (deadline ∷ deadlines) (followers ∷ sets) gaps all some kept =
      bands_before labelled (record { 0 = speed }) (record { 0 = deadline }) followers (take (follower_count followers) gaps)
      (row_entries speeds deadlines sets (drop (follower_count followers) gaps) ++ tasks)
      values.boundaries values.lengths values.fallbacks kept whole

  pub last_plain : band_count values.boundaries values.fallbacks ≤ length values.boundaries - 1
  last_plain = with_rows values.speeds values.deadlines values.sets values.gaps rows_whole rows_some from_modes_lem
