use Rattle.std.proofs.Common.{take}
use Rattle.written.specs.Written.{words}
use Rattle.putting.specs.Putting.{Put}
use Rattle.putting.proofs.pieces.put_numbers.Given as goal

abbrev pub invariant-loop-at : goal.invariant-loop-at
invariant-loop-at l = Put (words (take l.at l.numbers)) l.initial.out l.out
