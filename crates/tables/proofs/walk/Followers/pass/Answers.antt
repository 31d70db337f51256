-- `pass` meets its contract: the gaps of the followers behind the lowest stand behind its own.
use native.Mathlib.Omega.{arith}
use Rattle.tables.proofs.Followers.{followed_next}
use Rattle.tables.proofs.walk.Followers.pass.Goals as goal

pub invariant_of-self : goal.invariant_of-self
invariant_of-self c = record { followed = followed_next _ _ _ _ c.args.self.now.followed (omega (arith, c.fits-self)) c.requires }
