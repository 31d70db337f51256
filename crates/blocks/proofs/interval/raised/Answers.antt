-- `raised` meets its contract: the gap fits every line, or none, or each line is looked at.
use Prim.Native.Nat.{max}
use lib.ListN.{get_or}
use mathlib.Core.Path.{◌∙◌, ap}
use native.Mathlib.Omega.{arith}
use Rattle.blocks.proofs.Raising.{lane_added, lane_late}
use Rattle.blocks.proofs.interval.raised.Goals as goal

pub returns-then-back-s : goal.returns-then-back-s
returns-then-back-s c = λ i l.
    let a = c.args in
    c.raised_by.ensures i l ∙ ap (max (get_or a.most i 0)) (lane_added a.n a.cells.now a.s a.gap.0 a.row i (omega (arith, c.if-back-s.true)))

pub returns-then-s-back : goal.returns-then-s-back
returns-then-s-back c = λ i l.
    let a = c.args in
    lane_late a.n a.cells.now a.s a.gap.0 a.row i (get_or a.most i 0) l (omega (arith, c.if-s-back.true))
