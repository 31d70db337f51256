-- `find_curve` meets its contract: the call is lent cells enough.
use native.Mathlib.Omega.{arith}
use Rattle.telling.proofs.Told.{curve_told}
use Rattle.telling.proofs.curve.find_curve.Goals as goal

pub returns : goal.returns
returns c = curve_told _ (λ i. omega (arith, c.type_inv.bytes i)) _ _ c.requires _ _ c.verdict_by_interval.ensures
