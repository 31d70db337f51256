use Rattle.fields.specs.Limits.{task_limit}
use Rattle.fields.specs.Values.{no_task}
use lib.ListN.{get_or}
use Rattle.overruns.specs.Releases.{first_due}
use Rattle.tables.proofs.Storing.{Stored}
use Rattle.overruns.proofs.running.Dues.new.Given as goal

abbrev pub invariant-loop-number : goal.invariant-loop-number
invariant-loop-number l = Stored (λ m. first_due (get_or l.tasks m no_task)) task_limit l.next l.number
