-- Where the refusal is 14, there is no interval.
use mathlib.Core.Path.{subst}
use native.Mathlib.Omega.{arith}
use Rattle.std.proofs.Common.{rules}
use Rattle.telling.specs.Told.{ShortestTold}
use Rattle.telling.proofs.Told.{told_none}
use Rattle.telling.proofs.shortest.print_shortest.Goals as goal

pub print_none-requires : goal.print_none-requires
print_none-requires g c =
    told_none _ (λ i. omega (arith, c.type_inv.bytes i)) _ _ (subst (ShortestTold _ _) c.in-Err.is c.requires) (search rules)
