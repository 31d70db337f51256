-- Under which tags entries stand.
use Prim.Native.Nat.{ℕ}
use mathlib.Core.Path.{◌≡◌, refl}
use mathlib.Core.List.{List, [], ◌∷◌, ◌++◌}
use mathlib.Core.Bool.{false}
use lib.ListN.{drop}
use Rattle.fields.specs.Deciding.{pick}
use Rattle.fields.specs.Fields.{kind_of, is_refused, is_end}
use Rattle.rules.specs.Rules.{follower_count}
use Rattle.written.specs.Values.{Values, Entry, LabelEntry, ModeEntry, RowEntry, TaskEntry, CutEntry, mode_entries, row_entries, task_entries, entries}
use Rattle.written.specs.Written.{tag_of}

-- where columns part, the tag is that of a kind that has columns
pub data Parted : ℕ → Type 0 where
  modes_part : Parted 2
  rows_part : Parted 3
  tasks_part : Parted 4

-- every other entry has a tag of its own
abbrev pub Named : Entry → Type 0
Named (LabelEntry text) = Unit {0}
Named (ModeEntry mode) = Unit {0}
Named (RowEntry speed deadline followers gaps) = Unit {0}
Named (TaskEntry task) = Unit {0}
Named (CutEntry tag) = Parted tag

abbrev pub AllNamed : List Entry → Type 0
AllNamed [] = Unit {0}
AllNamed (entry ∷ more) = Named entry × AllNamed more

-- such a tag is read as a field, and not as the end of the file
abbrev pub ReadOn : ℕ → Type 0
ReadOn tag = (is_refused (kind_of tag) ≡ false) × (is_end (kind_of tag) ≡ false)

parted_read : (tag : ℕ) → Parted tag → ReadOn tag
unfolding pick
parted_read tag modes_part = (refl, refl)
parted_read tag rows_part = (refl, refl)
parted_read tag tasks_part = (refl, refl)

pub named_read : (entry : Entry) → Named entry → ReadOn (tag_of entry)
unfolding tag_of pick
named_read (LabelEntry text) named = (refl, refl)
named_read (ModeEntry mode) named = (refl, refl)
named_read (RowEntry speed deadline followers gaps) named = (refl, refl)
named_read (TaskEntry task) named = (refl, refl)
named_read (CutEntry tag) named = parted_read tag named

-- the entries that columns make
both_named : (first behind : List Entry) → AllNamed first → AllNamed behind → AllNamed (first ++ behind)
both_named [] behind a b = b
both_named (entry ∷ first) behind a b = (a.0, both_named first behind a.1 b)

modes_named : (boundaries lengths fallbacks : List ℕ) → AllNamed (mode_entries boundaries lengths fallbacks)
unfolding mode_entries
modes_named [] [] [] = tt
modes_named [] [] (fallback ∷ fallbacks) = (modes_part, tt)
modes_named [] (length ∷ lengths) fallbacks = (modes_part, tt)
modes_named (boundary ∷ boundaries) [] fallbacks = (modes_part, tt)
modes_named (boundary ∷ boundaries) (length ∷ lengths) [] = (modes_part, tt)
modes_named (boundary ∷ boundaries) (length ∷ lengths) (fallback ∷ fallbacks) = (tt, modes_named boundaries lengths fallbacks)

rows_named : (speeds deadlines sets gaps : List ℕ) → AllNamed (row_entries speeds deadlines sets gaps)
unfolding row_entries
rows_named [] [] [] [] = tt
rows_named [] [] [] (gap ∷ gaps) = (rows_part, tt)
rows_named [] [] (followers ∷ sets) gaps = (rows_part, tt)
rows_named [] (deadline ∷ deadlines) sets gaps = (rows_part, tt)
rows_named (speed ∷ speeds) [] sets gaps = (rows_part, tt)
rows_named (speed ∷ speeds) (deadline ∷ deadlines) [] gaps = (rows_part, tt)
rows_named (speed ∷ speeds) (deadline ∷ deadlines) (followers ∷ sets) gaps = (tt, rows_named speeds deadlines sets (drop (follower_count followers) gaps))

tasks_named : (lengths periods deadlines jitters : List ℕ) → AllNamed (task_entries lengths periods deadlines jitters)
unfolding task_entries
tasks_named [] [] [] [] = tt
tasks_named [] [] [] (jitter ∷ jitters) = (tasks_part, tt)
tasks_named [] [] (deadline ∷ deadlines) jitters = (tasks_part, tt)
tasks_named [] (period ∷ periods) deadlines jitters = (tasks_part, tt)
tasks_named (length ∷ lengths) [] deadlines jitters = (tasks_part, tt)
tasks_named (length ∷ lengths) (period ∷ periods) [] jitters = (tasks_part, tt)
tasks_named (length ∷ lengths) (period ∷ periods) (deadline ∷ deadlines) [] = (tasks_part, tt)
tasks_named (length ∷ lengths) (period ∷ periods) (deadline ∷ deadlines) (jitter ∷ jitters) = (tt, tasks_named lengths periods deadlines jitters)

pub entries_named : (values : Values) → AllNamed (entries values)
unfolding entries
entries_named values = (
  tt,
  both_named (mode_entries values.boundaries values.lengths values.fallbacks) _ (modes_named _ _ _)
      (both_named (row_entries values.speeds values.deadlines values.sets values.gaps) _ (rows_named _ _ _ _) (tasks_named _ _ _ _)),
)
