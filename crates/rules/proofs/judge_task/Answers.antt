-- `judge_task` meets its contract, rule by rule.
use Rattle.fields.proofs.Deciding.{judging}
use Rattle.fields.specs.Deciding.{first_broken}
use Rattle.rules.specs.Rules.{task_rules}
use Rattle.rules.proofs.judge_task.Goals as goal

pub returns-then-eq : goal.returns-then-eq
unfolding task_rules first_broken
returns-then-eq c = search judging depth 8

pub returns-then-eq-2 : goal.returns-then-eq-2
unfolding task_rules first_broken
returns-then-eq-2 c = search judging depth 8

pub returns-then-eq-3 : goal.returns-then-eq-3
unfolding task_rules first_broken
returns-then-eq-3 c = search judging depth 8

pub returns-then-le : goal.returns-then-le
unfolding task_rules first_broken
returns-then-le c = search judging depth 8

pub returns : goal.returns
unfolding task_rules first_broken
returns c = search judging depth 8
