-- The call is lent cells enough, and the area takes every witness.
use native.Mathlib.Omega.{arith}
use Rattle.telling_why.proofs.Told.{explain_told}
use Rattle.telling_why.proofs.tell_why.Goals as goal

pub print_answer-requires : goal.print_answer-requires
print_answer-requires g c =
    explain_told _ (λ i. omega (arith, c.type_inv.bytes i)) _ _ _ _ _ _ c.requires.room
    c.requires.area_room c.explain-explained.ensures
