-- `witness_count` meets its contract. The rows passed are counted, and the others are to come.
use lib.ListN.{length}
use mathlib.Core.Path.{ap}
use native.Mathlib.Omega.{arith}
use Rattle.witness.proofs.Steps.{starts, witness_few}
use Rattle.witness.proofs.witness_count.Goals as goal

pub loop-count-init : goal.loop-count-init
loop-count-init c =
    let begun = starts c.args.rows.now c.args.cells.now c.args.t c.requires.has_lines _ c.start-stand.ensures in
    record { in_time = begun.0; stands = begun.1; counted = omega (arith, ap length begun.2) }

pub overflow_add-count : goal.overflow_add-count
overflow_add-count c = omega (arith, witness_few c.args.rows.now c.args.t, c.loop-count.invariant.counted)
