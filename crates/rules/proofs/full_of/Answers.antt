-- `full_of` meets its contract: it reads the tag's line.
use Rattle.rules.specs.Rules.{full}
use Rattle.rules.proofs.full_of.Goals as goal

pub returns : goal.returns
unfolding full
returns c = rw c.line_of.ensures
