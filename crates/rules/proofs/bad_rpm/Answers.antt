-- `bad_rpm` meets its contract, test by test.
use Rattle.fields.proofs.Deciding.{judging}
use Rattle.rules.specs.Rules.{bad_rpm}
use Rattle.rules.proofs.bad_rpm.Goals as goal

pub returns-then-eq : goal.returns-then-eq
unfolding bad_rpm
returns-then-eq c = search judging

pub returns-else-eq : goal.returns-else-eq
unfolding bad_rpm
returns-else-eq c = search judging
