-- `judge_text` meets its contract.
use Rattle.fields.proofs.Deciding.{judging}
use Rattle.fields.specs.Deciding.{first_broken}
use Rattle.rules.specs.Rules.{text_rules}
use Rattle.rules.proofs.text.judge_text.Goals as goal

pub returns-then-bad_text : goal.returns-then-bad_text
unfolding text_rules first_broken
returns-then-bad_text c = search judging

pub returns : goal.returns
unfolding text_rules first_broken
returns c = search judging
