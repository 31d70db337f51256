-- Columns whose entries break no rule: the label is short enough, the columns of a kind end together, and each row has its gaps.
use Rattle.std.proofs.Common.{◌≡◌, ℕ, ◌+◌, ◌-◌, ◌<◌, ◌≤◌, min, List, [], ◌∷◌, ◌++◌, length, get_or, drop, refl, subst, length-take, length-drop, arith}
use Rattle.fields.specs.Fields.{line_of, fields}
use Rattle.fields.specs.Limits.{label_limit}
use Rattle.rules.specs.Rules.{follower_count}
use Rattle.fields.specs.declared.units.Rpm.{Rpm}
use Rattle.fields.specs.declared.units.Ticks.{Ticks}
use Rattle.written.specs.Values.{Entry, LabelEntry, RowEntry, CutEntry}
use Rattle.written.specs.declared.ModeColumns.{ModeColumns}
use Rattle.written.specs.declared.RowColumns.{RowColumns}
use Rattle.written.specs.declared.TaskColumns.{TaskColumns}
use Rattle.written.proofs.InColumns.{cut_broken}
use Rattle.written.proofs.EntriesFrom.{mode_among, modes_from, modes_next, modes_end, modes_part, task_among, tasks_from, tasks_next, tasks_end, tasks_part, row_between, rows_from, rows_next, rows_end, rows_part}
use Rattle.written.proofs.EntriesKept.{entry_kept, label_says, row_says, entries_kept, entries_none, stretches_none}
use Rattle.putting.specs.Putting.{Unbroken}

-- what breaks no rule breaks none behind its first entry
pub unbroken_behind : (entry : Entry) (more : List Entry) → Unbroken (entry ∷ more) → Unbroken more
unbroken_behind entry more unbroken = (_, (entries_none unbroken.0 entry more unbroken.1).1)

-- of two stretches of entries neither breaks a rule
pub unbroken_both : (first behind : List Entry) → Unbroken (first ++ behind) → Unbroken first × Unbroken behind
unbroken_both first behind (tally, none) =
    let both = stretches_none tally first behind none in
    ((tally, both.0), (_, both.1))

-- a label is short enough
pub label_short : (label : List ℕ) (more : List Entry) → Unbroken (LabelEntry label ∷ more) → length label ≤ label_limit
label_short label more (tally, none) = label_says tally label (entry_kept tally (LabelEntry label) (entries_none tally (LabelEntry label) more none).0)

-- a row has a gap for each row of its set
row_gaps : (speed : Rpm) (deadline : Ticks) (followers : ℕ) (gaps : List ℕ) (more : List Entry) → Unbroken (RowEntry speed deadline followers gaps ∷ more)
    → length gaps ≡ follower_count followers
row_gaps speed deadline followers gaps more (tally, none) =
    let entry = RowEntry speed deadline followers gaps in
    (row_says tally speed deadline followers gaps (entry_kept tally entry (entries_none tally entry more none).0)).0

-- columns that part break a rule
parted : (tag : ℕ) (left : List Entry) → 1 ≤ (line_of tag).shortest → Unbroken left → left ≡ CutEntry tag ∷ [] → ⊥
parted tag left some unbroken cut =
    let broken = subst Unbroken cut unbroken in
    cut_broken tag [] broken.0 some (entries_kept broken.0 (CutEntry tag ∷ []) broken.1)

-- the modes that are left from a number on
abbrev pub modes_left : ModeColumns → ℕ → List Entry
modes_left modes number = modes_from modes.boundaries.now modes.lengths.now modes.fallbacks.now number

module _ (modes : ModeColumns) (number : ℕ) (unbroken : Unbroken (modes_left modes number)) where
  modes_whole : (number < length modes.boundaries.now → number < length modes.lengths.now → number < length modes.fallbacks.now → ⊥)
      → (length modes.boundaries.now ≤ number → length modes.lengths.now ≤ number → length modes.fallbacks.now ≤ number → ⊥) → ⊥
  unfolding line_of fields
  modes_whole no_more some_more = parted 2 _ (omega arith) unbroken (modes_part modes.boundaries.now modes.lengths.now modes.fallbacks.now number no_more some_more)

  -- the columns have the mode of the number, which comes first
  pub mode_there : number < length modes.boundaries.now → (number < length modes.lengths.now) × (number < length modes.fallbacks.now)
  mode_there less = grind (arith, modes_whole)

  pub mode_first : number < length modes.boundaries.now
      → modes_left modes number ≡ mode_among modes.boundaries.now modes.lengths.now modes.fallbacks.now number ∷ modes_left modes (number + 1)
  mode_first less = modes_next _ _ _ number less (mode_there less).0 (mode_there less).1

  -- behind the last none is left
  pub modes_over : length modes.boundaries.now ≤ number → modes_left modes number ≡ []
  modes_over none = modes_end _ _ _ number none (grind (arith, modes_whole)) (grind (arith, modes_whole))

-- the fixed tasks that are left from a number on
abbrev pub tasks_left : TaskColumns → ℕ → List Entry
tasks_left tasks number = tasks_from tasks.lengths.now tasks.periods.now tasks.deadlines.now tasks.jitters.now number

module _ (tasks : TaskColumns) (number : ℕ) (unbroken : Unbroken (tasks_left tasks number)) where
  tasks_whole : (number < length tasks.lengths.now → number < length tasks.periods.now → number < length tasks.deadlines.now → number < length tasks.jitters.now → ⊥)
      → (length tasks.lengths.now ≤ number → length tasks.periods.now ≤ number → length tasks.deadlines.now ≤ number → length tasks.jitters.now ≤ number → ⊥) → ⊥
  unfolding line_of fields
  tasks_whole no_more some_more = parted 4 _ (omega arith) unbroken (tasks_part tasks.lengths.now tasks.periods.now tasks.deadlines.now tasks.jitters.now number no_more some_more)

  -- the columns have the fixed task of the number, which comes first
  pub task_there : number < length tasks.lengths.now → (number < length tasks.periods.now) × (number < length tasks.deadlines.now) × (number < length tasks.jitters.now)
  task_there less = grind (arith, tasks_whole)

  pub task_first : number < length tasks.lengths.now
      → tasks_left tasks number ≡ task_among tasks.lengths.now tasks.periods.now tasks.deadlines.now tasks.jitters.now number ∷ tasks_left tasks (number + 1)
  task_first less = tasks_next _ _ _ _ number less (task_there less).0 (task_there less).1 (task_there less).2

  -- behind the last none is left
  pub tasks_over : length tasks.lengths.now ≤ number → tasks_left tasks number ≡ []
  tasks_over none = tasks_end _ _ _ _ number none (grind (arith, tasks_whole)) (grind (arith, tasks_whole)) (grind (arith, tasks_whole))

-- the rows that are left from a number on, with the gaps from a place on
abbrev pub rows_left : RowColumns → ℕ → ℕ → List Entry
rows_left rows number from = rows_from rows.speeds.now rows.deadlines.now rows.sets.now rows.gaps.now number from

module _ (rows : RowColumns) (number from : ℕ) (unbroken : Unbroken (rows_left rows number from)) where
  rows_whole : min (length rows.speeds.now) (min (length rows.deadlines.now) (length rows.sets.now)) ≤ number
      → (length rows.speeds.now ≤ number → length rows.deadlines.now ≤ number → length rows.sets.now ≤ number → length rows.gaps.now ≤ from → ⊥) → ⊥
  unfolding line_of fields
  rows_whole no_more some_more = parted 3 _ (omega arith) unbroken (rows_part rows.speeds.now rows.deadlines.now rows.sets.now rows.gaps.now number from no_more some_more)

  -- the columns have the row of the number, which comes first, and its gaps
  pub row_there : number < length rows.speeds.now → (number < length rows.deadlines.now) × (number < length rows.sets.now)
  row_there less = grind (arith, rows_whole)

  pub gaps_there : from ≤ length rows.gaps.now → number < length rows.speeds.now → from + follower_count (get_or rows.sets.now number 0) ≤ length rows.gaps.now
  gaps_there inside less =
      let few = min (follower_count (get_or rows.sets.now number 0)) (length rows.gaps.now - from) in
      let many = row_gaps _ _ _ _ _ (subst Unbroken (rows_next _ _ _ _ number from (from + few) less (row_there less).0 (row_there less).1 refl) unbroken) in
      omega (arith, many, length-take (from + few - from) (drop from rows.gaps.now), length-drop from rows.gaps.now)

  pub row_first : (to : ℕ) → to ≡ from + follower_count (get_or rows.sets.now number 0) → from ≤ length rows.gaps.now → number < length rows.speeds.now
      → rows_left rows number from ≡ row_between rows.speeds.now rows.deadlines.now rows.sets.now rows.gaps.now number from to ∷ rows_left rows (number + 1) to
  row_first to reach inside less = rows_next _ _ _ _ number from to less (row_there less).0 (row_there less).1 (omega (arith, gaps_there inside less, reach))

  -- behind the last none is left, and no gap
  pub rows_over : length rows.speeds.now ≤ number → rows_left rows number from ≡ []
  rows_over none =
      rows_end _ _ _ _ number from none (grind (arith, rows_whole)) (grind (arith, rows_whole)) (grind (arith, rows_whole))
