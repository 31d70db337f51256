-- `added` meets its contract.
use Rattle.tables.proofs.Adding.{added_late, added_cell}
use Rattle.tables.proofs.interval.added.Goals as goal

pub returns-then-s-back : goal.returns-then-s-back
returns-then-s-back c = added_late _ _ _ _ _ c.if-s-back.true

pub returns : goal.returns
returns c = added_cell _ _ _ _ _ c.if-s-back.false
