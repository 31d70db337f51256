-- What `write` promises where the rules on values are broken, where the output is too short, and where the sheet stands in it.
use Prim.Native.Nat.{ℕ, ◌<◌, ◌≤◌}
use native.Mathlib.Omega.{arith}
use mathlib.Core.Path.{◌≡◌, ◌∙◌, refl, sym, ap}
use mathlib.Core.List.{List, ◌++◌}
use lib.ListN.{length, drop}
use borrow.Author.Tests.{lt-ltb, le-ltb}
use Rattle.std.specs.Prelude.{Result, Ok, Err}
use Rattle.fields.specs.Deciding.{pick, first_broken}
use Rattle.fields.specs.Refusals.{refused}
use Rattle.fields.specs.declared.refusal.Reason.{Reason}
use Rattle.fields.specs.declared.refusal.Reason.TheVariants.{ShortOutput}
use Rattle.fields.specs.declared.refusal.Refusal.{Refusal}
use Rattle.fields.proofs.Deciding.{no_reason, same_reason}
use Rattle.sheet.specs.Judging.{judged}
use Rattle.sheet.specs.Answer.{Answer, Accepted, Refused, Judged}
use Rattle.beginning.specs.Beginning.{Begins}
use Rattle.beginning.proofs.Beginnings.{begins_answering}
use Rattle.written.specs.Judging.{band_count, jitter_count, sheet_size, values_rules}
use Rattle.written.specs.Values.{Values}
use Rattle.written.specs.Written.{written}
use Rattle.written.proofs.JudgedWritten.{reason_of, judged_written, accepted_written}
use Rattle.written.proofs.Sizes.{size_written}
use Rattle.writer.specs.Calls.{write_rules, WriteRefuses, WriteGives, WriteCall}

-- what is added up of values that keep the rules is the size of their sheet
pub sized : (values : Values) (bands jitters size : ℕ) → Ok tt ≡ first_broken (values_rules values)
    → bands ≡ band_count values.boundaries values.fallbacks → jitters ≡ jitter_count values.task_jitters
    → size ≡ sheet_size (length values.label) (length values.boundaries) bands (length values.speeds) (length values.gaps) (length values.task_lengths) jitters
    → size ≡ length (written values)
sized values bands jitters size none banded jittered adds = omega (arith, size_written values (sym none))

module _ (values : Values) (output : List ℕ) where
  -- a rule on values is broken, and a reader refuses for the same reason
  pub refuses_values : (reason : Reason) → Err reason ≡ first_broken (values_rules values) → WriteCall values output (refused reason 0) output
  refuses_values reason broken = go (judged (written values)).answer (judged_written values ∙ sym broken)
    where
      go : (said : Answer) → reason_of said ≡ Err reason → Begins said (write_rules values output) (WriteRefuses output (refused reason 0) output) (WriteGives values output (refused reason 0) output)
      go (Refused other place) same = (ap (λ (why : Reason). refused why 0) (sym (same_reason other reason same)), refl)
      go Accepted same = no_reason reason (sym same)

  module _ (none : Ok tt ≡ first_broken (values_rules values)) where
    accepted : (judged (written values)).answer ≡ Accepted
    accepted = ap (λ (said : Judged). said.answer) (accepted_written values (sym none))

    -- none is, and the output is shorter than the sheet
    pub refuses_room : length output < length (written values) → WriteCall values output (refused ShortOutput 0) output
    unfolding pick
    refuses_room short = rw (accepted, lt-ltb (length output) (length (written values)) short) (refl, refl)

    -- none is, and the sheet stands at the front of the output
    pub gives_sheet : (answer : Result ℕ Refusal) (output' : List ℕ) → length (written values) ≤ length output
        → answer ≡ Ok (length (written values)) → output' ≡ written values ++ drop (length (written values)) output → WriteCall values output answer output'
    gives_sheet answer output' room is stands =
        begins_answering (judged (written values)).answer (write_rules values output) (WriteRefuses output answer output') (WriteGives values output answer output')
        accepted (le-ltb _ _ room, tt) (is, stands)
