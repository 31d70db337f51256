-- `is_missing` meets its contract: it reads the tag's line.
use Rattle.fields.proofs.Deciding.{judging}
use Rattle.rules.specs.Rules.{missing}
use Rattle.rules.proofs.is_missing.Goals as goal

pub returns-then-last-tag : goal.returns-then-last-tag
unfolding missing
returns-then-last-tag c = rw (← c.line_of.ensures) (search judging)

pub returns-else-last-tag : goal.returns-else-last-tag
unfolding missing
returns-else-last-tag c = search judging
