-- What a judge says of bytes, and how the code answers it.
use Rattle.std.specs.Prelude.{ℕ, Result, Ok}
use Rattle.fields.specs.Refusals.{rule_number, refused}
use Rattle.fields.specs.declared.refusal.Reason.{Reason}
use Rattle.fields.specs.declared.refusal.Refusal.{Refusal}
use Rattle.fields.specs.declared.values.Sheet.{Sheet}

-- accepted, or refused for a reason at a place
pub data Answer : Type 0 where
  Accepted : Answer
  Refused : Reason → ℕ → Answer

-- the answer, with the sheet's values beside it
pub record Judged : Type 0 where
  pub answer : Answer
  pub sheet : Sheet

-- the number of the rule that an answer refuses by, 0 where the sheet is accepted
abbrev pub number_of : Answer → ℕ
number_of Accepted = 0
number_of (Refused reason place) = rule_number reason

-- and its place
abbrev pub place_of : Answer → ℕ
place_of Accepted = 0
place_of (Refused reason place) = place

-- a value where the sheet is accepted, else the refusal
abbrev pub answered : {A : Type 0} → Answer → A → Result A Refusal
answered Accepted value = Ok value
answered (Refused reason place) value = refused reason place
