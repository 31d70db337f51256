-- What an answer of a judge says of the bytes: a value is that of an accepted sheet, and a refusal is the one that the bytes are refused by.
use Prim.Native.Nat.{ℕ}
use mathlib.Core.Path.{◌≡◌, refl, sym, ap}
use mathlib.Core.List.{List}
use mathlib.Core.Bool.{true≢false}
use Rattle.std.specs.Prelude.{Ok, Err, is_ok}
use Rattle.fields.specs.declared.refusal.Refusal.{Refusal}
use Rattle.sheet.specs.Answer.{Answer, Accepted, Refused, answered}
use Rattle.sheet.specs.Judging.{judged}
use Rattle.sheet.specs.Outline.{head_of, Outlined}
use Rattle.sheet.specs.declared.Head.{Head}

module _ {A : Type 0} where
  pub answered_value : (answer : Answer) (value given : A) → answered answer value ≡ Ok given → (answer ≡ Accepted) × (given ≡ value)
  answered_value Accepted value given e = let same : value ≡ given = cc in (refl, sym same)
  answered_value (Refused reason place) value given e = absurd (true≢false (sym (ap is_ok e)))

  pub answered_refusal : (answer : Answer) (value : A) (refusal : Refusal) → answered answer value ≡ Err refusal → answer ≡ Refused refusal.reason refusal.place
  answered_refusal Accepted value refusal e = absurd (true≢false (ap is_ok e))
  answered_refusal (Refused reason place) value refusal e =
      let same : record { reason = reason; place = place } ≡ refusal = cc in ap (λ (one : Refusal). Refused one.reason one.place) same

module _ (bytes places : List ℕ) where
  pub outlined_head : (head : Head) → Outlined bytes places (Ok head) → ((judged bytes).answer ≡ Accepted) × (head ≡ head_of (judged bytes).sheet)
  outlined_head head outlined = answered_value (judged bytes).answer (head_of (judged bytes).sheet) head (sym outlined.answer)

  pub outlined_refusal : (refusal : Refusal) → Outlined bytes places (Err refusal) → (judged bytes).answer ≡ Refused refusal.reason refusal.place
  outlined_refusal refusal outlined = answered_refusal (judged bytes).answer (head_of (judged bytes).sheet) refusal (sym outlined.answer)
