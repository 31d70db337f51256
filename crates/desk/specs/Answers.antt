-- The numbers that each answer stands for: the refusal's number and place, 0 where there is none, and the values, 0 in a refusal.
use Rattle.std.specs.Prelude.{ℕ, ℤ, pos, Option, Some, None, Result, Ok, Err}
use Rattle.fields.specs.Refusals.{rule_number}
use Rattle.fields.specs.declared.refusal.Refusal.{Refusal}
use Rattle.desk.specs.declared.Attained.{Attained}

-- demand: the amount, and how many rows its witness has
pub record DemandNumbers : Type 0 where
  pub number : ℕ
  pub place : ℕ
  pub amount : ℕ
  pub count : ℕ

abbrev pub demand_numbers : Result Attained Refusal → DemandNumbers
demand_numbers (Ok attained) = record { number = 0; place = 0; amount = attained.amount; count = attained.count }
demand_numbers (Err refusal) = record { number = rule_number refusal.reason; place = refusal.place; amount = 0; count = 0 }

-- margin: with its sign
pub record MarginNumbers : Type 0 where
  pub number : ℕ
  pub place : ℕ
  pub margin : ℤ

abbrev pub margin_numbers : Result ℤ Refusal → MarginNumbers
margin_numbers (Ok margin) = record { number = 0; place = 0; margin = margin }
margin_numbers (Err refusal) = record { number = rule_number refusal.reason; place = refusal.place; margin = pos 0 }

-- shortest interval: the time
pub record ShortestNumbers : Type 0 where
  pub number : ℕ
  pub place : ℕ
  pub time : ℕ

abbrev pub shortest_numbers : Result ℕ Refusal → ShortestNumbers
shortest_numbers (Ok time) = record { number = 0; place = 0; time = time }
shortest_numbers (Err refusal) = record { number = rule_number refusal.reason; place = refusal.place; time = 0 }

-- verdict: the first interval that is overrun, 0 where all hold
pub record VerdictNumbers : Type 0 where
  pub number : ℕ
  pub place : ℕ
  pub overrun : ℕ

abbrev pub verdict_numbers : Result (Option ℕ) Refusal → VerdictNumbers
verdict_numbers (Ok None) = record { number = 0; place = 0; overrun = 0 }
verdict_numbers (Ok (Some interval)) = record { number = 0; place = 0; overrun = interval }
verdict_numbers (Err refusal) = record { number = rule_number refusal.reason; place = refusal.place; overrun = 0 }
