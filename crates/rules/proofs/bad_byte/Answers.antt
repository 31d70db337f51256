-- `bad_byte` meets its contract, test by test.
use Rattle.fields.proofs.Deciding.{judging}
use Rattle.rules.specs.Rules.{bad_byte}
use Rattle.rules.proofs.bad_byte.Goals as goal

pub returns-then-byte-lt32 : goal.returns-then-byte-lt32
unfolding bad_byte
returns-then-byte-lt32 c = search judging

pub returns-else-byte-lt32 : goal.returns-else-byte-lt32
unfolding bad_byte
returns-else-byte-lt32 c = search judging
