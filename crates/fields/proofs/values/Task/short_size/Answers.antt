-- `short_size` meets its contract: a jitter of 0 takes no bytes.
use Rattle.fields.proofs.Deciding.{judging}
use Rattle.fields.specs.Values.{short_task_size}
use Rattle.fields.proofs.values.Task.short_size.Goals as goal

pub returns-then-eq : goal.returns-then-eq
unfolding short_task_size
returns-then-eq c = search judging

pub returns : goal.returns
unfolding short_task_size
returns c = search judging
