-- `interval_lines` meets its contract: an interval is out of range exactly when it is beyond the longest time.
use native.Mathlib.Omega.{arith}
use mathlib.Core.Path.{refl}
use borrow.Author.Tests.{lt-ltb, le-ltb}
use Rattle.fields.proofs.Deciding.{yes, no}
use Rattle.beginning.proofs.interval_lines.Goals as goal

pub returns-then-interval : goal.returns-then-interval
returns-then-interval c = record { counted = yes _ _ _ _ (lt-ltb _ _ c.if-interval.true) refl; few = tt }

pub returns : goal.returns
returns c = record { counted = no _ _ _ _ (le-ltb _ _ c.if-interval.false) refl; few = omega (arith, c.if-interval.false) }
