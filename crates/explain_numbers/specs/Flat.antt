-- An answer of `explain` as the struct that C is given: its numbers in the struct's fields, 0 where the answer has none.
use Rattle.std.specs.Prelude.{ℕ, Result, Ok, Err}
use Rattle.fields.specs.Refusals.{rule_number}
use Rattle.fields.specs.declared.refusal.Refusal.{Refusal}
use Rattle.explain.specs.Calls.{no_demands}
use Rattle.explain.specs.declared.Cause.{Cause}
use Rattle.explain.specs.declared.Cause.TheVariants.{Engine, Fixed, Together}
use Rattle.explain.specs.declared.Explained.{Explained}
use Rattle.explain.specs.declared.Explained.TheVariants.{Holds, NoInterval, Fails}
use Rattle.explain_numbers.specs.declared.ExplainForC.{ExplainForC}

-- the causes count from 1, since 0 says that nothing is overrun or that the call is refused
abbrev pub cause_number : Cause → ℕ
cause_number Engine = 1
cause_number Fixed = 2
cause_number Together = 3

-- the numbers of a verdict that holds, of one that has no interval, and of one that fails
abbrev pub flat_verdict : Explained → ExplainForC
flat_verdict (Holds margin interval) =
    record { number = 0; place = 0; overrun = 0; cause = 0; engine = 0; demands = no_demands; excess = 0; count = 0; margin = margin; interval = interval }
flat_verdict NoInterval =
    record { number = 0; place = 0; overrun = 0; cause = 0; engine = 0; demands = no_demands; excess = 0; count = 0; margin = 0; interval = 0 }
flat_verdict (Fails first) =
    record {
      number = 0;
      place = 0;
      overrun = first.interval;
      cause = cause_number first.cause;
      engine = first.engine;
      demands = first.demands;
      excess = first.excess;
      count = first.count;
      margin = 0;
      interval = 0;
    }

-- and those of a refusal
abbrev pub flat_explained : Result Explained Refusal → ExplainForC
flat_explained (Ok explained) = flat_verdict explained
flat_explained (Err refusal) =
    record { number = rule_number refusal.reason; place = refusal.place; overrun = 0; cause = 0; engine = 0; demands = no_demands; excess = 0; count = 0; margin = 0; interval = 0 }
