-- What the rules on values say where none is broken: each part of them is kept.
use Prim.Native.Nat.{ℕ, ◌≤◌, ◌<◌}
use native.Mathlib.Omega.{arith}
use mathlib.Core.Path.{◌≡◌, ◌∙◌, refl, sym, ap}
use mathlib.Core.List.{List, [], ◌∷◌, ◌++◌, append_assoc}
use mathlib.Core.Bool.{true, false}
use lib.Dec.{T}
use lib.ListN.{length}
use Rattle.std.specs.Prelude.{Ok}
use Rattle.fields.specs.Deciding.{Rule, ◌when◌, pick, first_broken}
use Rattle.fields.specs.Fields.{line_of, fields}
use Rattle.fields.specs.Limits.{mode_limit, row_limit, task_limit, label_limit}
use Rattle.fields.specs.Values.{short_size}
use Rattle.rules.specs.Rules.{out_of_order, follower_count, common_rules, text_rules, row_rules}
use Rattle.fields.specs.declared.units.Rpm.{Rpm}
use Rattle.fields.specs.declared.units.Ticks.{Ticks}
use Rattle.fields.specs.declared.values.Mode.{Mode}
use Rattle.fields.specs.declared.values.Task.{Task}
use Rattle.fields.specs.declared.values.Tally.{Tally}
use Rattle.fields.proofs.Deciding.{Kept, of_file, all_kept, both_kept, both_of_file, pass}
use Rattle.sheet.proofs.Numbered.{mode_of_file, task_of_file, common_says, row_length}
use Rattle.written.specs.Judging.{row_size, entry_rules, count_entry, entries_rules, count_entries, no_tally, unknown_among, end_rules, values_rules}
use Rattle.written.specs.Values.{Values, Entry, LabelEntry, ModeEntry, RowEntry, TaskEntry, CutEntry, entries}
use Rattle.written.proofs.FieldBytes.{short_enough}

-- every rule has a reason for which a file is refused
pub entry_of_file : (tally : Tally) (entry : Entry) → T (of_file (entry_rules tally entry))
unfolding entry_rules common_rules text_rules row_rules
entry_of_file tally (LabelEntry text) = tt
entry_of_file tally (ModeEntry mode) = mode_of_file tally mode (short_size mode)
entry_of_file tally (RowEntry speed deadline followers gaps) = tt
entry_of_file tally (TaskEntry task) = task_of_file task
entry_of_file tally (CutEntry tag) = tt

pub entry_kept : (tally : Tally) (entry : Entry) → first_broken (entry_rules tally entry) ≡ Ok tt → Kept (entry_rules tally entry)
entry_kept tally entry none = all_kept (entry_rules tally entry) none

-- what kept rules say of each kind: a label is short enough, a row has a gap for each follower and not too many, and there was room for one more
module _ (tally : Tally) where
  pub label_says : (text : List ℕ) → Kept (entry_rules tally (LabelEntry text)) → length text ≤ label_limit
  unfolding entry_rules line_of fields
  label_says text kept = short_enough 1 (length text) (common_says _ _ _ _ _ (both_kept (common_rules 1 _ _ _ _) _ kept).0).1

  pub mode_says : (mode : Mode) → Kept (entry_rules tally (ModeEntry mode)) → tally.modes < mode_limit
  unfolding entry_rules line_of fields
  mode_says mode kept = (common_says _ _ _ _ _ (both_kept (common_rules 2 _ _ _ _) _ kept).0).3

  pub row_says : (speed : Rpm) (deadline : Ticks) (followers : ℕ) (gaps : List ℕ) → Kept (entry_rules tally (RowEntry speed deadline followers gaps))
      → (length gaps ≡ follower_count followers) × (length gaps ≤ row_limit) × (tally.rows < row_limit)
  unfolding entry_rules line_of fields
  row_says speed deadline followers gaps kept =
      let says = common_says _ _ _ _ _ (both_kept (common_rules 3 _ _ _ _) _ kept).0 in
      (omega (arith, row_length (row_size gaps) followers says.2), omega (arith, short_enough 3 (row_size gaps) says.1), says.3)

  pub task_says : (task : Task) → Kept (entry_rules tally (TaskEntry task)) → tally.tasks < task_limit
  unfolding entry_rules line_of fields
  task_says task kept = (common_says _ _ _ _ _ (both_kept (common_rules 4 _ _ _ _) _ kept).0).3

pub entries_of_file : (tally : Tally) (entries : List Entry) → T (of_file (entries_rules tally entries))
unfolding entries_rules
entries_of_file tally [] = tt
entries_of_file tally (entry ∷ more) = both_of_file (entry_rules tally entry) _ (entry_of_file tally entry) (entries_of_file (count_entry tally entry) more)

pub entries_kept : (tally : Tally) (entries : List Entry) → first_broken (entries_rules tally entries) ≡ Ok tt → Kept (entries_rules tally entries)
entries_kept tally entries none = all_kept (entries_rules tally entries) none

pub end_of_file : (tally : Tally) (sets : List ℕ) → T (of_file (end_rules tally sets))
unfolding end_rules common_rules
end_of_file tally sets = tt

pub values_of_file : (values : Values) → T (of_file (values_rules values))
unfolding values_rules
values_of_file values = both_of_file (entries_rules no_tally (entries values)) _ (entries_of_file no_tally (entries values)) (end_of_file _ values.sets)

-- rules one behind the other: none of the first is broken, and none behind
first_none : (first behind : List Rule) → first_broken (first ++ behind) ≡ Ok tt → first_broken first ≡ Ok tt
unfolding first_broken pick
first_none [] behind none = refl
first_none (reason when true ∷ first) behind none = none
first_none (reason when false ∷ first) behind none = first_none first behind none

pub both_none : (first behind : List Rule) → first_broken (first ++ behind) ≡ Ok tt → (first_broken first ≡ Ok tt) × (first_broken behind ≡ Ok tt)
both_none first behind none =
    let front = first_none first behind none in
    (front, pass first behind (first_broken behind) (sym front) refl ∙ none)

-- the rules of two stretches
pub rules_both : (tally : Tally) (stretch more : List Entry)
    → entries_rules tally (stretch ++ more) ≡ entries_rules tally stretch ++ entries_rules (count_entries tally stretch) more
unfolding entries_rules count_entries
rules_both tally [] more = refl
rules_both tally (entry ∷ stretch) more =
    ap (λ (rules : List Rule). entry_rules tally entry ++ rules) (rules_both (count_entry tally entry) stretch more) ∙ sym (append_assoc (entry_rules tally entry) _ _)

-- and what they add to the tally
pub count_both : (tally : Tally) (stretch more : List Entry) → count_entries tally (stretch ++ more) ≡ count_entries (count_entries tally stretch) more
unfolding count_entries
count_both tally [] more = refl
count_both tally (entry ∷ stretch) more = count_both (count_entry tally entry) stretch more

-- an entry and those behind it
pub entries_none : (tally : Tally) (entry : Entry) (more : List Entry) → first_broken (entries_rules tally (entry ∷ more)) ≡ Ok tt
    → (first_broken (entry_rules tally entry) ≡ Ok tt) × (first_broken (entries_rules (count_entry tally entry) more) ≡ Ok tt)
unfolding entries_rules
entries_none tally entry more none = both_none (entry_rules tally entry) _ none

-- and two stretches of them
pub stretches_none : (tally : Tally) (stretch more : List Entry) → first_broken (entries_rules tally (stretch ++ more)) ≡ Ok tt
    → (first_broken (entries_rules tally stretch) ≡ Ok tt) × (first_broken (entries_rules (count_entries tally stretch) more) ≡ Ok tt)
stretches_none tally stretch more none = both_none (entries_rules tally stretch) _ (rw (rules_both tally stretch more) at none)

module _ (values : Values) where
  values_none : first_broken (values_rules values) ≡ Ok tt
      → (first_broken (entries_rules no_tally (entries values)) ≡ Ok tt) × (first_broken (end_rules (count_entries no_tally (entries values)) values.sets) ≡ Ok tt)
  unfolding values_rules
  values_none none = both_none (entries_rules no_tally (entries values)) _ none

  -- no rule of a field is broken
  pub kept_written : first_broken (values_rules values) ≡ Ok tt → first_broken (entries_rules no_tally (entries values)) ≡ Ok tt
  kept_written none = (values_none none).0

  -- the end field is in order, and each set names rows that exist
  pub end_written : first_broken (values_rules values) ≡ Ok tt
      → (out_of_order (count_entries no_tally (entries values)).last 5 ≡ false) × (unknown_among values.sets (count_entries no_tally (entries values)).rows ≡ false)
  unfolding end_rules common_rules
  end_written none =
      let kept = all_kept _ (values_none none).1 in
      (kept.0, kept.1.1.1.1.0)
