-- Stretches of entries judged one behind the other, and behind the last of them the end field.
use mathlib.Core.Path.{◌≡◌, ◌∙◌, refl, sym, ap, ap₂}
use mathlib.Core.List.{List, [], ◌∷◌, ◌++◌}
use mathlib.Core.Bool.{true, false, true≢false}
use Rattle.std.specs.Prelude.{Result, Ok, Err, is_ok}
use Rattle.fields.specs.Deciding.{Rule, ◌when◌, pick, judged_by, first_broken}
use Rattle.fields.specs.declared.refusal.Reason.{Reason}
use Rattle.fields.specs.declared.values.Tally.{Tally}
use Rattle.fields.proofs.Deciding.{stop, pass}
use Rattle.written.specs.Judging.{no_tally, entries_rules, count_entries, end_rules, values_rules}
use Rattle.written.specs.Values.{Values, Entry, entries}
use Rattle.written.proofs.EntriesKept.{rules_both, count_both}
use Rattle.columns.specs.Counting.{counted}
use Rattle.columns.proofs.Onward.{judged_stop, judged_pass, Onward}

-- what rules that are all kept decide, and which of them is the first that is broken
judged_ok : {A : Type 0} (rules : List Rule) (ok told : A) → ◌≡◌ {A = Result A Reason} (Ok told) (judged_by Err rules (Ok ok)) → (Ok tt ≡ first_broken rules) × (told ≡ ok)
unfolding first_broken pick
judged_ok [] ok told e = (refl, cc)
judged_ok (reason when true ∷ rules) ok told e = absurd (true≢false (ap is_ok e))
judged_ok (reason when false ∷ rules) ok told e = judged_ok rules ok told e

judged_err : {A : Type 0} (rules : List Rule) (ok : A) (reason : Reason) → ◌≡◌ {A = Result A Reason} (Err reason) (judged_by Err rules (Ok ok)) → Err reason ≡ first_broken rules
unfolding first_broken pick
judged_err [] ok reason e = absurd (true≢false (sym (ap is_ok e)))
judged_err (other when true ∷ rules) ok reason e = let same : reason ≡ other = cc in ap Err same
judged_err (other when false ∷ rules) ok reason e = judged_err rules ok reason e

module _ (tally : Tally) (all : List Entry) (so_far : Tally) (stretch more : List Entry) (on : Onward tally all so_far (stretch ++ more)) where
  -- all entries decide as the rules of the stretch do, with those behind them
  both : counted tally all ≡ judged_by Err (entries_rules so_far stretch ++ entries_rules (count_entries so_far stretch) more) (Ok (count_entries (count_entries so_far stretch) more))
  both = on ∙ ap₂ (λ (rules : List Rule) (tally : Tally). judged_by Err rules (Ok tally)) (rules_both so_far stretch more) (count_both so_far stretch more)

  -- a rule is broken in the next stretch, which decides
  pub stretch_stop : (reason : Reason) → Err reason ≡ counted so_far stretch → Err reason ≡ counted tally all
  stretch_stop reason broken = sym (both ∙ judged_stop (entries_rules so_far stretch) _ _ reason (judged_err _ _ reason broken))

  -- none is, and what is left is behind it
  pub stretch_next : (next : Tally) → Ok next ≡ counted so_far stretch → Onward tally all next more
  stretch_next next told =
      let kept = judged_ok _ _ next told in
      rw kept.1 (both ∙ judged_pass (entries_rules so_far stretch) _ _ kept.0)

module _ (values : Values) where
  -- an entry breaks a rule
  pub values_stop : (reason : Reason) → Err reason ≡ counted no_tally (entries values) → Err reason ≡ first_broken (values_rules values)
  unfolding values_rules
  values_stop reason broken = stop (entries_rules no_tally (entries values)) _ reason (judged_err _ _ reason broken)

  -- none does, and the end field decides
  pub values_end : (tally : Tally) (told : Result (Unit {0}) Reason) → Ok tally ≡ counted no_tally (entries values) → told ≡ first_broken (end_rules tally values.sets)
      → told ≡ first_broken (values_rules values)
  unfolding values_rules
  values_end tally told counts end =
      let kept = judged_ok _ _ tally counts in
      pass (entries_rules no_tally (entries values)) _ told kept.0 (rw kept.1 at end)
