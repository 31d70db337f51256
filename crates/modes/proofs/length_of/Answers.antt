-- `length_of` meets its contract: the mode of a number begins the modes from there on, and past the last none is left.
use Rattle.modes.proofs.Left.{here, none_left}
use Rattle.modes.specs.Modes.{first_length}
use mathlib.Core.Path.{sym, ap}
use native.Mathlib.Omega.{arith}
use Rattle.modes.proofs.length_of.Goals as goal

pub returns-then-min-number : goal.returns-then-min-number
unfolding first_length
returns-then-min-number c =
    let a = c.args in
    sym (ap first_length (none_left a.modes a.count a.number (omega arith)))

pub returns : goal.returns
unfolding first_length
returns c =
    let a = c.args in
    sym (ap first_length (here a.modes a.count a.number (omega arith) (omega arith)))
