use lib.ListN.{take}
use Rattle.meaning.specs.Fixed.{fixed_sum}
use Rattle.overruns.specs.Releases.{counted_tasks}
use Rattle.steps.specs.Rising.{IsNextRise}
use Rattle.steps.proofs.next_fixed_rise.Given as goal

abbrev pub invariant-loop-number : goal.invariant-loop-number
invariant-loop-number l = IsNextRise (fixed_sum (take l.number (counted_tasks l.tasks.tasks l.tasks.count))) l.horizon l.from l.next
