-- `lowest` meets its contract. While a follower is left its gap stands in the file.
use native.Mathlib.Omega.{arith}
use Rattle.tables.proofs.Followers.{followed_inside}
use Rattle.tables.proofs.walk.Followers.lowest.Goals as goal

pub gap_at-requires : goal.gap_at-requires
gap_at-requires c = followed_inside _ _ _ _ c.args.self.now.followed (omega (arith, c.type_inv.self)) c.if-self-eq0.false
