-- What every refused file has: a reason with a number from 1 to 10, a place in the file or at its end, and no values.
use Prim.Native.Nat.{ℕ, ◌≤◌}
use native.Mathlib.Omega.{arith}
use mathlib.Core.Path.{◌≡◌, refl}
use mathlib.Core.List.{List}
use lib.ListN.{length}
use Rattle.fields.specs.Values.{empty_sheet}
use Rattle.fields.specs.declared.refusal.Reason.{Reason}
use Rattle.sheet.specs.Judging.{refusal, judged}
use Rattle.sheet.specs.Answer.{Refused, Judged}
use Rattle.fields.proofs.Deciding.{OfFile}
use Rattle.sheet.proofs.Keeping.{Keeps, judged_keeps}

-- where an answer refuses, its reason and place are such, and it has no values
abbrev RefusesRightly : List ℕ → Judged → Type 0
RefusesRightly bytes answer = (reason : Reason) (place : ℕ) → answer.answer ≡ Refused reason place → OfFile reason × (place ≤ length bytes) × (answer.sheet ≡ empty_sheet)

refused_keeps : (bytes : List ℕ) → Keeps bytes (λ _ _. Unit {0}) (RefusesRightly bytes)
unfolding refusal
refused_keeps bytes =
    record {
      none = tt;
      refused = λ reason place o inside reason' place' e.
          let same : reason ≡ reason' = cc in
          let there : place ≡ place' = cc in
          (rw (← same) o, omega arith, refl);
      label = λ sheet at start size next e p common own. tt;
      mode = λ sheet at start size next e p common own. tt;
      row = λ sheet at start size next e p common own. tt;
      task = λ sheet at start size next e p common own. tt;
      skipped = λ sheet at start size next e p. tt;
      accepted = λ sheet at start size next e p order long followers end reason place a. let z : ◌≡◌ {A = ℕ} 0 1 = cc in absurd (omega arith);
    }

module _ (bytes : List ℕ) (reason : Reason) (place : ℕ) (refused : (judged bytes).answer ≡ Refused reason place) where
  rightly : OfFile reason × (place ≤ length bytes) × ((judged bytes).sheet ≡ empty_sheet)
  rightly = judged_keeps bytes (λ _ _. Unit {0}) (RefusesRightly bytes) (refused_keeps bytes) reason place refused

  pub refused_number : OfFile reason
  refused_number = rightly.0

  pub refused_place : place ≤ length bytes
  refused_place = rightly.1

  pub refused_empty : (judged bytes).sheet ≡ empty_sheet
  refused_empty = rightly.2
