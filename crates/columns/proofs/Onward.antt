-- Entries judged one after the other: what is left of them decides as all of them do.
use mathlib.Core.Path.{◌≡◌, ◌∙◌, refl, sym}
use mathlib.Core.List.{List, [], ◌∷◌, ◌++◌}
use mathlib.Core.Bool.{true, false}
use Rattle.std.specs.Prelude.{Result, Ok, Err}
use Rattle.fields.specs.Deciding.{Rule, ◌when◌, pick, judged_by, first_broken}
use Rattle.fields.specs.declared.refusal.Reason.{Reason}
use Rattle.fields.specs.declared.values.Tally.{Tally}
use Rattle.fields.proofs.Deciding.{no_reason, stop, by_broken}
use Rattle.written.specs.Judging.{entry_rules, count_entry, entries_rules, count_entries}
use Rattle.written.specs.Values.{Entry}
use Rattle.columns.specs.Counting.{counted}

-- rules one behind the other: the first of them that is broken decides, and where none of the first is broken those behind them do
pub judged_stop : {A : Type 0} (first behind : List Rule) (ok : Result A Reason) (reason : Reason) → Err reason ≡ first_broken first
    → judged_by Err (first ++ behind) ok ≡ Err reason
judged_stop first behind ok reason e = by_broken Err ok (first ++ behind) reason (stop first behind reason e)

pub judged_pass : {A : Type 0} (first behind : List Rule) (ok : Result A Reason) → Ok tt ≡ first_broken first
    → judged_by Err (first ++ behind) ok ≡ judged_by Err behind ok
unfolding first_broken pick
judged_pass [] behind ok none = refl
judged_pass (reason when true ∷ first) behind ok none = no_reason reason (sym none)
judged_pass (reason when false ∷ first) behind ok none = judged_pass first behind ok none

-- the entries that are left, with the tally so far, decide as all of them do with the tally before
abbrev pub Onward : Tally → List Entry → Tally → List Entry → Type 0
Onward tally all so_far left = counted tally all ≡ counted so_far left

module _ (tally : Tally) (all : List Entry) (so_far : Tally) (entry : Entry) (more : List Entry) (on : Onward tally all so_far (entry ∷ more)) where
  -- the next one breaks no rule, and is counted
  pub onward_next : Ok tt ≡ first_broken (entry_rules so_far entry) → Onward tally all (count_entry so_far entry) more
  unfolding entries_rules count_entries
  onward_next none = on ∙ judged_pass (entry_rules so_far entry) (entries_rules (count_entry so_far entry) more) _ none

  -- the next one breaks a rule, which decides
  pub onward_stop : (reason : Reason) → Err reason ≡ first_broken (entry_rules so_far entry) → Err reason ≡ counted tally all
  unfolding entries_rules
  onward_stop reason broken = sym (on ∙ judged_stop (entry_rules so_far entry) (entries_rules (count_entry so_far entry) more) _ reason broken)

-- none is left
pub onward_end : (tally : Tally) (all : List Entry) (so_far : Tally) → Onward tally all so_far [] → Ok so_far ≡ counted tally all
unfolding entries_rules count_entries
onward_end tally all so_far on = sym on
