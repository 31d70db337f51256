-- `last_hangs` meets its contract: it compares the two speeds.
use Rattle.rules.specs.Rules.{last_hangs}
use Rattle.rules.proofs.last_hangs.Goals as goal

pub returns : goal.returns
unfolding last_hangs
returns c = c.ne.ensures
