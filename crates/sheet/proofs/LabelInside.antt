-- The label lies in the file, also where the file is refused: its part is then empty.
use Prim.Native.Nat.{ℕ, ◌+◌, ◌≤◌}
use native.Mathlib.Omega.{arith}
use mathlib.Core.Path.{◌≡◌, sym, ap}
use mathlib.Core.List.{List}
use lib.ListN.{length}
use Rattle.fields.specs.Values.{empty_sheet}
use Rattle.std.specs.Prelude.{Ok, Err}
use Rattle.fields.specs.declared.refusal.Refusal.{Refusal}
use Rattle.sheet.specs.Judging.{refusal, judged}
use Rattle.sheet.specs.Outline.{Outlined}
use Rattle.sheet.specs.declared.Head.{Head}
use Rattle.sheet.proofs.Answering.{outlined_head, outlined_refusal}
use Rattle.fields.specs.declared.values.Sheet.{Sheet}
use Rattle.sheet.proofs.Keeping.{Keeps, judged_keeps}
use Rattle.sheet.proofs.Refusals.{refused_empty}
use Rattle.sheet.proofs.Walking.{field_in}

abbrev Inside : List ℕ → Sheet → Type 0
Inside bytes sheet = sheet.label.start + sheet.label.size ≤ length bytes

label_keeps : (bytes : List ℕ) → Keeps bytes (λ _ sheet. Inside bytes sheet) (λ answer. Inside bytes answer.sheet)
unfolding empty_sheet refusal
label_keeps bytes =
    record {
      none = omega arith;
      refused = λ n place o inside. omega arith;
      label = λ sheet at start size next e p common own. omega (arith, field_in bytes at _ start size next e);
      mode = λ sheet at start size next e p common own. p;
      row = λ sheet at start size next e p common own. p;
      task = λ sheet at start size next e p common own. p;
      skipped = λ sheet at start size next e p. p;
      accepted = λ sheet at start size next e p order size-right followers end. p;
    }

pub label_inside : (bytes : List ℕ) → (judged bytes).sheet.label.start + (judged bytes).sheet.label.size ≤ length bytes
label_inside bytes = judged_keeps bytes (λ _ sheet. Inside bytes sheet) (λ answer. Inside bytes answer.sheet) (label_keeps bytes)

-- where it is read off an outline
module _ (bytes places : List ℕ) where
  pub label_given : (head : Head) → Outlined bytes places (Ok head) → head.label ≡ (judged bytes).sheet.label
  label_given head outlined = ap (λ (one : Head). one.label) (outlined_head bytes places head outlined).1

  pub label_refused : (refusal : Refusal) → Outlined bytes places (Err refusal) → record { start = 0; size = 0 } ≡ (judged bytes).sheet.label
  unfolding empty_sheet
  label_refused refusal outlined = ap (λ (sheet : Sheet). sheet.label) (sym (refused_empty bytes refusal.reason refusal.place (outlined_refusal bytes places refusal outlined)))
