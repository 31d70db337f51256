-- What the rule lists say where no rule is broken: a field's place, length and count are right, and its numbers are.
use Prim.Native.Nat.{ℕ, ◌+◌, ◌*◌, ◌<◌, ◌≤◌}
use mathlib.Core.Path.{◌≡◌}
use mathlib.Core.Bool.{Bool, false}
use mathlib.Core.List.{List}
use lib.Dec.{T}
use borrow.Author.Tests.{ltb-false, leb-false, eqb-true, not-false}
use Rattle.std.specs.Prelude.{Ok}
use Rattle.fields.specs.Deciding.{first_broken}
use Rattle.fields.specs.Fields.{line_of, fields}
use Rattle.sheet.specs.Judging.{head_rules, own_rules, field_rules}
use Rattle.fields.specs.Limits.{head_size, gap_size, mode_limit, row_limit, task_limit}
use Rattle.fields.specs.Reading.{row_at}
use Rattle.rules.specs.Rules.{out_of_order, wrong_length, unlike_set, full, follower_count, common_rules, mode_rules, row_rules, task_rules, text_rules}
use Rattle.sheet.specs.Content.{row_gap_rules}
use Rattle.fields.specs.declared.table.Kind.{Kind}
use Rattle.fields.specs.declared.table.Kind.TheVariants.{RefusedTag, LabelField, ModeField, RowField, TaskField, EndField, SkippedField}
use Rattle.fields.specs.declared.values.Mode.{Mode}
use Rattle.fields.specs.declared.values.Row.{Row}
use Rattle.fields.specs.declared.values.Task.{Task}
use Rattle.fields.specs.declared.values.Tally.{Tally}
use Rattle.fields.proofs.Deciding.{Kept, of_file, all_kept, neither, both_kept, both_of_file}

module _ (tag last size count : ℕ) (unlike : Bool) where
  pub common_of_file : T (of_file (common_rules tag last size unlike count))
  unfolding common_rules
  common_of_file = tt

  -- the field is in order, its length is right, and there is room for one more
  pub common_says : Kept (common_rules tag last size unlike count)
      → (out_of_order last tag ≡ false) × (wrong_length tag size ≡ false) × (unlike ≡ false) × (count < (line_of tag).most)
  unfolding common_rules full
  common_says k = (k.0, k.1.0, k.1.1.0, leb-false _ _ k.1.1.1.0)

pub mode_of_file : (tally : Tally) (mode : Mode) (size : ℕ) → T (of_file (mode_rules tally mode size))
unfolding mode_rules
mode_of_file tally mode size = tt

pub row_of_file : (bytes : List ℕ) (tally : Tally) (row : Row) → T (of_file (row_gap_rules bytes tally row))
unfolding row_rules row_gap_rules
row_of_file bytes tally row = tt

pub task_of_file : (task : Task) → T (of_file (task_rules task))
unfolding task_rules
task_of_file task = tt

pub long_enough : (tag size : ℕ) → wrong_length tag size ≡ false → (line_of tag).shortest ≤ size
unfolding wrong_length
long_enough tag size e = ltb-false _ _ (neither _ _ e).0

-- a field's content is long enough for its numbers, and there is room for one more
pub common_fits : (tag last size count : ℕ) (unlike : Bool) → Kept (common_rules tag last size unlike count) → ((line_of tag).shortest ≤ size) × (count < (line_of tag).most)
common_fits tag last size count unlike k =
    let says = common_says tag last size count unlike k in
    (long_enough tag size says.1, says.3)

-- a row's length: its head, and a gap for each row of its set
pub row_length : (size followers : ℕ) → unlike_set size followers ≡ false → size ≡ head_size + gap_size * follower_count followers
unfolding unlike_set
row_length size followers e = eqb-true _ _ (not-false _ e)

-- a row's content is as long as its head and its gaps, and there is room for one more row
abbrev pub RowFits : List ℕ → Tally → ℕ → ℕ → Type 0
RowFits bytes tally start size = (head_size ≤ size) × (size ≡ head_size + gap_size * follower_count (row_at bytes start).followers) × (tally.rows < row_limit)

module _ (bytes : List ℕ) (tally : Tally) (start size : ℕ) where
  pub head_of_file : (kind : Kind) → T (of_file (head_rules bytes tally kind start size))
  unfolding head_rules
  head_of_file RefusedTag = tt
  head_of_file LabelField = common_of_file _ _ _ _ _
  head_of_file ModeField = common_of_file _ _ _ _ _
  head_of_file RowField = common_of_file _ _ _ _ _
  head_of_file TaskField = common_of_file _ _ _ _ _
  head_of_file EndField = common_of_file _ _ _ _ _
  head_of_file SkippedField = tt

  own_of_file : (kind : Kind) → T (of_file (own_rules bytes tally kind start size))
  unfolding own_rules text_rules
  own_of_file RefusedTag = tt
  own_of_file LabelField = tt
  own_of_file ModeField = mode_of_file _ _ _
  own_of_file RowField = row_of_file _ _ _
  own_of_file TaskField = task_of_file _
  own_of_file EndField = tt
  own_of_file SkippedField = tt

  pub field_of_file : (kind : Kind) → T (of_file (field_rules bytes tally kind start size))
  field_of_file kind = both_of_file (head_rules bytes tally kind start size) (own_rules bytes tally kind start size) (head_of_file kind) (own_of_file kind)

  module _ (kind : Kind) where
    pub head_kept : first_broken (head_rules bytes tally kind start size) ≡ Ok tt → Kept (head_rules bytes tally kind start size)
    head_kept e = all_kept (head_rules bytes tally kind start size) e

    pub field_kept : Kept (field_rules bytes tally kind start size) → Kept (head_rules bytes tally kind start size) × Kept (own_rules bytes tally kind start size)
    field_kept k = both_kept (head_rules bytes tally kind start size) (own_rules bytes tally kind start size) k

    -- where no rule is broken, none of the first is
    pub first_kept : first_broken (field_rules bytes tally kind start size) ≡ Ok tt → Kept (head_rules bytes tally kind start size)
    first_kept e = (field_kept (all_kept (field_rules bytes tally kind start size) e)).0

    -- a mode that breaks none of its first rules has its numbers, and there is room for one more
    pub mode_fits : kind ≡ ModeField → Kept (head_rules bytes tally kind start size) → (4 ≤ size) × (tally.modes < mode_limit)
    unfolding head_rules line_of fields
    mode_fits e k = common_fits 2 _ _ _ _ (rw e at k)

    -- a row has its head and its gaps
    pub row_fits : kind ≡ RowField → Kept (head_rules bytes tally kind start size) → RowFits bytes tally start size
    unfolding head_rules line_of fields
    row_fits e k =
        let says = common_says _ _ _ _ _ (rw e at k) in
        (long_enough 3 size says.1, row_length _ _ says.2, says.3)

    -- a fixed task has its numbers
    pub task_fits : kind ≡ TaskField → Kept (head_rules bytes tally kind start size) → (6 ≤ size) × (tally.tasks < task_limit)
    unfolding head_rules line_of fields
    task_fits e k = common_fits 4 _ _ _ _ (rw e at k)
