-- `short_size` meets its contract: a fall-back that is the boundary takes no bytes.
use Rattle.fields.proofs.Deciding.{judging}
use Rattle.fields.specs.Values.{short_size}
use Rattle.fields.proofs.values.Mode.short_size.Goals as goal

pub returns-then-eq : goal.returns-then-eq
unfolding short_size
returns-then-eq c = search judging

pub returns : goal.returns
unfolding short_size
returns c = search judging
