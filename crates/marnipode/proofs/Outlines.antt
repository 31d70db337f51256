-- A sheet in outline has the numbers of the judged sheet: a refused one has no values.
use Prim.Native.Nat.{ℕ}
use mathlib.Core.Path.{◌≡◌, refl}
use mathlib.Core.List.{List}
use Rattle.std.specs.Prelude.{Result}
use Rattle.fields.specs.Values.{empty_sheet}
use Rattle.fields.specs.declared.refusal.Refusal.{Refusal}
use Rattle.sheet.specs.Answer.{Answer, Accepted, Refused, answered}
use Rattle.sheet.specs.Judging.{judged}
use Rattle.sheet.specs.Outline.{head_of, Outlined}
use Rattle.sheet.specs.declared.Head.{Head}
use Rattle.sheet.proofs.Refusals.{refused_empty}
use Rattle.numbers.specs.Flat.{flat_judged, flat_outline, flat_label, flat_heading}
use Rattle.numbers.specs.declared.JudgeForC.{JudgeForC}
use Rattle.numbers.specs.declared.LabelForC.{LabelForC}

module _ (bytes : List ℕ) where
  judge_answered : (answer : Answer) → (judged bytes).answer ≡ answer
      → ◌≡◌ {A = JudgeForC} (flat_outline (answered answer (head_of (judged bytes).sheet))) (flat_judged (record { answer = answer; sheet = (judged bytes).sheet }))
  unfolding empty_sheet
  judge_answered Accepted e = refl
  judge_answered (Refused reason place) e = rw (refused_empty bytes reason place e) refl

  label_answered : (answer : Answer) → (judged bytes).answer ≡ answer
      → ◌≡◌ {A = LabelForC} (flat_heading (answered answer (head_of (judged bytes).sheet))) (flat_label (judged bytes))
  unfolding empty_sheet
  label_answered Accepted e = refl
  label_answered (Refused reason place) e = rw (refused_empty bytes reason place e) refl

  module _ (places : List ℕ) (outline : Result Head Refusal) (outlined : Outlined bytes places outline) where
    pub judge_outlined : flat_outline outline ≡ flat_judged (judged bytes)
    judge_outlined = rw outlined.answer (judge_answered (judged bytes).answer refl)

    pub label_outlined : flat_heading outline ≡ flat_label (judged bytes)
    label_outlined = rw outlined.answer (label_answered (judged bytes).answer refl)
