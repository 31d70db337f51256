-- `show_witness` meets its contract: the witness is written where its count is not more than the area's length.
use mathlib.Core.Path.{refl, ap}
use native.Mathlib.Omega.{arith}
use Rattle.std.specs.Prelude.{Ok}
use Rattle.beginning.proofs.Showing.{shown_too_long, shown_written}
use Rattle.witness.proofs.show_witness.Goals as goal

pub returns-then-area-count : goal.returns-then-area-count
returns-then-area-count c = shown_too_long _ _ _ _ _ _ (omega (arith, c.witness_count-count.ensures, c.if-area-count.true)) refl refl

pub returns : goal.returns
returns c =
    let written = c.write_witness.ensures in
    shown_written _ _ _ _ _ _ (omega (arith, c.witness_count-count.ensures, c.if-area-count.false)) (ap Ok written.counted) written.is
