-- Both calls are lent cells enough, and the area takes every witness.
use native.Mathlib.Omega.{arith}
use Rattle.telling.proofs.Told.{demand_told, margin_told}
use Rattle.telling.proofs.at.tell_at.Goals as goal

pub print_at-requires-clause-demand_told : goal.print_at-requires-clause-demand_told
print_at-requires-clause-demand_told g c =
    demand_told _ (λ i. omega (arith, c.type_inv.bytes i)) _ _ c.requires.room _ _ _ _
    c.requires.area_room c.demand-found.ensures

pub print_at-requires-clause-margin_told : goal.print_at-requires-clause-margin_told
print_at-requires-clause-margin_told g c =
    margin_told _ (λ i. omega (arith, c.type_inv.bytes i)) _ _
    (λ range. omega (arith, c.requires.room range)) _ _ c.margin-left.ensures
