use Rattle.written.specs.Lent.{modes_lent}
use Rattle.putting.proofs.Standing.{Standing}
use Rattle.putting.proofs.UnbrokenColumns.{modes_left}
use Rattle.putting.proofs.kinds.put_modes.Given as goal

abbrev pub invariant-loop-number : goal.invariant-loop-number
invariant-loop-number l = Standing (modes_lent l.modes) (modes_left l.modes l.number) l.at l.initial.out l.out
