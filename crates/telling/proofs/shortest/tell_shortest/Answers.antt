-- The call is lent cells enough.
use native.Mathlib.Omega.{arith}
use Rattle.telling.proofs.Told.{shortest_told}
use Rattle.telling.proofs.shortest.tell_shortest.Goals as goal

pub print_shortest-requires : goal.print_shortest-requires
print_shortest-requires g c =
    shortest_told _ (λ i. omega (arith, c.type_inv.bytes i)) _ _ _ _ c.requires c.shortest-answer.ensures
