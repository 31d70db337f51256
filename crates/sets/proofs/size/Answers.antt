-- `sets::size` meets its contract: the ones of a number below 2 ^ 64 are the rows below 64.
use native.Mathlib.Omega.{arith}
use lib.Count.{ones-le}
use Rattle.sets.proofs.Counts.{ones_all}
use Rattle.sets.proofs.size.Goals as goal

pub returns : goal.returns
returns c = record { value = ones_all 64 c.args.set c.ranges.set.fits; upper_bound = ones-le 64 c.args.set c.ranges.set.fits }

pub overflow_cast-result : goal.overflow_cast-result
overflow_cast-result c = omega (arith, ones-le 64 c.args.set c.ranges.set.fits)
