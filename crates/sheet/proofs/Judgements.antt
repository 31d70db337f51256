-- What a judge's answer says of the sheet: a value is the sheet of accepted bytes, and refused bytes have an empty one.
use mathlib.Core.Path.{◌≡◌, sym}
use mathlib.Core.List.{List}
use Prim.Native.Nat.{ℕ}
use Rattle.std.specs.Prelude.{Ok, Err}
use Rattle.fields.specs.Values.{empty_sheet}
use Rattle.fields.specs.declared.refusal.Refusal.{Refusal}
use Rattle.fields.specs.declared.values.Sheet.{Sheet}
use Rattle.sheet.specs.Answer.{Accepted}
use Rattle.sheet.specs.Judging.{judged, judgement}
use Rattle.sheet.proofs.Answering.{answered_value, answered_refusal}
use Rattle.sheet.proofs.Refusals.{refused_empty}

module _ (bytes : List ℕ) where
  pub judged_sheet : (sheet : Sheet) → Ok sheet ≡ judgement bytes → ((judged bytes).answer ≡ Accepted) × (sheet ≡ (judged bytes).sheet)
  judged_sheet sheet e = answered_value (judged bytes).answer (judged bytes).sheet sheet (sym e)

  pub judged_empty : (refusal : Refusal) → Err refusal ≡ judgement bytes → (judged bytes).sheet ≡ empty_sheet
  judged_empty refusal e = refused_empty bytes refusal.reason refusal.place (answered_refusal (judged bytes).answer (judged bytes).sheet refusal (sym e))
