-- `cell` meets its contract.
use Prim.Native.Nat.{◌+◌}
use mathlib.Core.Path.{◌≡◌, ◌∙◌}
use native.Mathlib.Omega.{arith}
use Rattle.meaning.proofs.ByInterval.{step_late, step_done}
use Rattle.tables.specs.Adding.{cell_of}
use Rattle.tables.proofs.Adding.{most_added_is}
use Rattle.tables.proofs.interval.cell.Goals as goal

pub returns-then-s-row : goal.returns-then-s-row
returns-then-s-row c = step_late _ _ _ _ _ _ (omega (arith, c.if-s-row.true))

-- the job length and the most that a follower adds are the cell
sum : (c : goal.After-most_added) → c.args.work + c.most_added.result ≡ cell_of c.args.bytes.now c.args.cells.now c.args.row c.args.work c.args.n c.args.s
sum c =
    let most = rw (c.new-followers.ensures.bytes, c.new-followers.ensures.count, c.new-followers.ensures.rest, c.new-followers.ensures.place) at c.most_added.ensures in
    step_done _ _ _ _ _ _ _ (omega (arith, c.if-s-row.false)) (most ∙ most_added_is _ _ _ c.requires.proper_row (omega arith) _ _)

pub overflow_add-result : goal.overflow_add-result
overflow_add-result c = omega (arith, sum c, c.requires.fits)

pub returns : goal.returns
returns c = sum c
