-- The numbers and words that refusals are told by, and what a refused call answers.
use Rattle.std.specs.Prelude.{ℕ, List, ◌++◌, codes, Result, Err}
use Rattle.std.specs.Fmt.{decimal}
use Rattle.fields.specs.declared.refusal.Reason.{Reason}
use Rattle.fields.specs.declared.refusal.Reason.TheVariants.{CutOff, UnknownTag, OutOfOrder, BehindTheEnd, WrongLength, TooMany, BadValue, NotRising, UnknownFollower, ShortGap, OutOfRange, FewCells, ShortArea, NeverReached, ShortOutput}
use Rattle.fields.specs.declared.refusal.Refusal.{Refusal}

-- the number of the rule that a reason breaks
abbrev pub rule_number : Reason → ℕ
rule_number CutOff = 1
rule_number UnknownTag = 2
rule_number OutOfOrder = 3
rule_number BehindTheEnd = 4
rule_number WrongLength = 5
rule_number TooMany = 6
rule_number BadValue = 7
rule_number NotRising = 8
rule_number UnknownFollower = 9
rule_number ShortGap = 10
rule_number OutOfRange = 11
rule_number FewCells = 12
rule_number ShortArea = 13
rule_number NeverReached = 14
rule_number ShortOutput = 15

-- refused for a reason, at a place
abbrev pub refused : {A : Type 0} → Reason → ℕ → Result A Refusal
refused reason place = Err (record { reason = reason; place = place })

-- what is printed of a refusal: its number, and its place
abbrev pub refusal_words : Refusal → List ℕ
refusal_words refusal = codes "refused " ++ decimal (rule_number refusal.reason) ++ codes " at " ++ decimal refusal.place
