-- `judge_tag` meets its contract, rule by rule.
use Rattle.fields.proofs.Deciding.{judging}
use Rattle.fields.specs.Deciding.{first_broken}
use Rattle.rules.specs.Rules.{common_rules}
use Rattle.rules.proofs.judge_tag.Goals as goal

pub returns-then-out_of_order : goal.returns-then-out_of_order
unfolding common_rules first_broken
returns-then-out_of_order c = search judging depth 7

pub returns-then-wrong_length : goal.returns-then-wrong_length
unfolding common_rules first_broken
returns-then-wrong_length c = search judging depth 7

pub returns-then-unlike : goal.returns-then-unlike
unfolding common_rules first_broken
returns-then-unlike c = search judging depth 7

pub returns-then-full_of : goal.returns-then-full_of
unfolding common_rules first_broken
returns-then-full_of c = search judging depth 7

pub returns : goal.returns
unfolding common_rules first_broken
returns c = search judging depth 7
