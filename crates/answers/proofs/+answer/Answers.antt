-- The many cells are enough for every question.
use native.Mathlib.Omega.{arith}
use Rattle.answers.proofs.Enough.{many_enough}
use Rattle.answers.proofs.+answer.Goals as goal

pub tell_in-requires-clause-room : goal.tell_in-requires-clause-room
tell_in-requires-clause-room g t c = many_enough c.args.bytes.now (λ i. omega (arith, c.type_inv.bytes i)) c.args.question c.args.number
