-- `begin_amount` meets its contract: its lines are counted as its rules say.
use Rattle.beginning.proofs.Beginnings.{begun_in_lines}
use Rattle.beginning.proofs.begin_amount.Goals as goal

pub returns : goal.returns
returns c = begun_in_lines _ _ _ _ _ _ c.amount_lines.ensures.counted c.begin.ensures
