-- The values of a sheet as columns, and the fields that they make, in the order of the file.
use Rattle.std.specs.Prelude.{ℕ, List, [], ◌∷◌, ◌++◌, take, drop}
use Rattle.rules.specs.Rules.{follower_count}
use Rattle.fields.specs.declared.units.Rpm.{Rpm}
use Rattle.fields.specs.declared.units.Ticks.{Ticks}
use Rattle.fields.specs.declared.values.Mode.{Mode}
use Rattle.fields.specs.declared.values.Task.{Task}

-- the label's bytes; the boundaries, job lengths and fall-backs of the modes; the speeds, deadlines and follower sets of the rows, and their gaps, those of each row behind those of the row before; the lengths, periods, deadlines and jitters of the fixed tasks
pub record Values : Type 0 where
  pub label : List ℕ
  pub boundaries : List ℕ
  pub lengths : List ℕ
  pub fallbacks : List ℕ
  pub speeds : List ℕ
  pub deadlines : List ℕ
  pub sets : List ℕ
  pub gaps : List ℕ
  pub task_lengths : List ℕ
  pub task_periods : List ℕ
  pub task_deadlines : List ℕ
  pub task_jitters : List ℕ

-- the values that twelve columns hold
abbrev pub values_from : List ℕ → List ℕ → List ℕ → List ℕ → List ℕ → List ℕ → List ℕ → List ℕ → List ℕ → List ℕ → List ℕ → List ℕ → Values
values_from label boundaries lengths fallbacks speeds deadlines sets gaps task_lengths task_periods task_deadlines task_jitters =
    record {
      label = label;
      boundaries = boundaries;
      lengths = lengths;
      fallbacks = fallbacks;
      speeds = speeds;
      deadlines = deadlines;
      sets = sets;
      gaps = gaps;
      task_lengths = task_lengths;
      task_periods = task_periods;
      task_deadlines = task_deadlines;
      task_jitters = task_jitters;
    }

-- what one field says: a label, a mode, a row with the gaps to its followers, or a fixed task; or nothing, under a tag, where the columns of a kind part
pub data Entry : Type 0 where
  LabelEntry : List ℕ → Entry
  ModeEntry : Mode → Entry
  RowEntry : Rpm → Ticks → ℕ → List ℕ → Entry
  TaskEntry : Task → Entry
  CutEntry : ℕ → Entry

-- a mode for each boundary, job length and fall-back
unfoldable pub mode_entries : List ℕ → List ℕ → List ℕ → List Entry
mode_entries [] [] [] = []
mode_entries [] [] (fallback ∷ fallbacks) = CutEntry 2 ∷ []
mode_entries [] (length ∷ lengths) fallbacks = CutEntry 2 ∷ []
mode_entries (boundary ∷ boundaries) [] fallbacks = CutEntry 2 ∷ []
mode_entries (boundary ∷ boundaries) (length ∷ lengths) [] = CutEntry 2 ∷ []
mode_entries (boundary ∷ boundaries) (length ∷ lengths) (fallback ∷ fallbacks) =
    ModeEntry (record { boundary = record { 0 = boundary }; length = record { 0 = length }; fallback = record { 0 = fallback } })
    ∷ mode_entries boundaries lengths fallbacks

-- a row for each speed, deadline and follower set; it takes as many gaps as its set has rows, and no gap may be left over
unfoldable pub row_entries : List ℕ → List ℕ → List ℕ → List ℕ → List Entry
row_entries [] [] [] [] = []
row_entries [] [] [] (gap ∷ gaps) = CutEntry 3 ∷ []
row_entries [] [] (followers ∷ sets) gaps = CutEntry 3 ∷ []
row_entries [] (deadline ∷ deadlines) sets gaps = CutEntry 3 ∷ []
row_entries (speed ∷ speeds) [] sets gaps = CutEntry 3 ∷ []
row_entries (speed ∷ speeds) (deadline ∷ deadlines) [] gaps = CutEntry 3 ∷ []
row_entries (speed ∷ speeds) (deadline ∷ deadlines) (followers ∷ sets) gaps =
    RowEntry (record { 0 = speed }) (record { 0 = deadline }) followers (take (follower_count followers) gaps)
    ∷ row_entries speeds deadlines sets (drop (follower_count followers) gaps)

-- a fixed task for each length, period, deadline and jitter
unfoldable pub task_entries : List ℕ → List ℕ → List ℕ → List ℕ → List Entry
task_entries [] [] [] [] = []
task_entries [] [] [] (jitter ∷ jitters) = CutEntry 4 ∷ []
task_entries [] [] (deadline ∷ deadlines) jitters = CutEntry 4 ∷ []
task_entries [] (period ∷ periods) deadlines jitters = CutEntry 4 ∷ []
task_entries (length ∷ lengths) [] deadlines jitters = CutEntry 4 ∷ []
task_entries (length ∷ lengths) (period ∷ periods) [] jitters = CutEntry 4 ∷ []
task_entries (length ∷ lengths) (period ∷ periods) (deadline ∷ deadlines) [] = CutEntry 4 ∷ []
task_entries (length ∷ lengths) (period ∷ periods) (deadline ∷ deadlines) (jitter ∷ jitters) =
    TaskEntry (record { length = record { 0 = length }; period = record { 0 = period }; deadline = record { 0 = deadline }; jitter = record { 0 = jitter } })
    ∷ task_entries lengths periods deadlines jitters

-- the label, then the modes, then the rows, then the fixed tasks
unfoldable pub entries : Values → List Entry
entries values =
    LabelEntry values.label
    ∷ (mode_entries values.boundaries values.lengths values.fallbacks
    ++ (row_entries values.speeds values.deadlines values.sets values.gaps
    ++ task_entries values.task_lengths values.task_periods values.task_deadlines values.task_jitters))
