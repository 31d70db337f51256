-- `judge_row` meets its contract, rule by rule.
use Rattle.fields.proofs.Deciding.{judging}
use Rattle.fields.specs.Deciding.{first_broken}
use Rattle.rules.specs.Rules.{row_rules}
use Rattle.rules.proofs.judge_row.Goals as goal

pub returns-then-last_hangs : goal.returns-then-last_hangs
unfolding row_rules first_broken
returns-then-last_hangs c = search judging depth 10

pub returns-then-bad_rpm : goal.returns-then-bad_rpm
unfolding row_rules first_broken
returns-then-bad_rpm c = search judging depth 10

pub returns-then-eq : goal.returns-then-eq
unfolding row_rules first_broken
returns-then-eq c = search judging depth 10

pub returns-then-zero_gap : goal.returns-then-zero_gap
unfolding row_rules first_broken
returns-then-zero_gap c = search judging depth 10

pub returns-then-le : goal.returns-then-le
unfolding row_rules first_broken
returns-then-le c = search judging depth 10

pub returns-then-lt : goal.returns-then-lt
unfolding row_rules first_broken
returns-then-lt c = search judging depth 10

pub returns-then-short_gap : goal.returns-then-short_gap
unfolding row_rules first_broken
returns-then-short_gap c = search judging depth 10

pub returns : goal.returns
unfolding row_rules first_broken
returns c = search judging depth 10
