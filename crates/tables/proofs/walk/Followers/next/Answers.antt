-- `next` meets its contract: what is lowest is taken, and passed.
use Rattle.tables.proofs.Followers.{taken_past}
use Rattle.tables.proofs.walk.Followers.next.Goals as goal

pub returns : goal.returns
returns c = taken_past c.in-Some.ensures c.pass.ensures
