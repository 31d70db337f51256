-- `first_with` meets its contract. No cell passed is the work wanted.
use borrow.Author.Tests.{eq-eqb, ne_eqb}
use native.Mathlib.Omega.{arith}
use Rattle.witness.proofs.Searches.{seek_is, seek_none}
use Rattle.witness.proofs.first_with.Goals as goal

-- the row found is the first
pub returns-then-cells-line : goal.returns-then-cells-line
returns-then-cells-line c =
    seek_is _ _ c.loop-k.k c.loop-k-test.true (eq-eqb _ _ c.if-cells-line.true) (λ i h. ne_eqb _ _ (c.loop-k.invariant i h))

pub returns : goal.returns
returns c = seek_none _ _ (λ i h. ne_eqb _ _ (c.loop-k.invariant i (omega (arith, c.loop-k-test.false))))
