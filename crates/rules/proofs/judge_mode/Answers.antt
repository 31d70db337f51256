-- `judge_mode` meets its contract, rule by rule.
use Rattle.fields.proofs.Deciding.{judging}
use Rattle.fields.specs.Deciding.{first_broken}
use Rattle.rules.specs.Rules.{mode_rules}
use Rattle.rules.proofs.judge_mode.Goals as goal

pub returns-then-bad_rpm : goal.returns-then-bad_rpm
unfolding mode_rules first_broken
returns-then-bad_rpm c = search judging depth 8

pub returns-then-eq : goal.returns-then-eq
unfolding mode_rules first_broken
returns-then-eq c = search judging depth 8

pub returns-then-bad_fallback : goal.returns-then-bad_fallback
unfolding mode_rules first_broken
returns-then-bad_fallback c = search judging depth 8

pub returns-then-le : goal.returns-then-le
unfolding mode_rules first_broken
returns-then-le c = search judging depth 8

pub returns : goal.returns
unfolding mode_rules first_broken
returns c = search judging depth 8
