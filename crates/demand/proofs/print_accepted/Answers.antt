-- The cells that its one call leaves show the curve up to the horizon that fits them.
use native.Mathlib.Omega.{arith}
use Rattle.printing.proofs.Showing.{shows_curve}
use Rattle.demand.proofs.print_accepted.Goals as goal

pub print_curve-requires : goal.print_curve-requires
print_curve-requires g c =
    let horizon = c.horizon_of-horizon.ensures in
    rw c.requires.rows
    (shows_curve _ (λ i. omega (arith, c.type_inv.bytes i)) c.requires.accepted _ _ _ _ horizon.in_range
    (rw c.requires.rows at horizon.fits) c.verdict_by_interval-verdict.ensures)
