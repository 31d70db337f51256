-- `least_cell` meets its contract: one job is enough, or the rest is a follower's to do.
use Prim.Native.Nat.{◌+◌, ◌-◌}
use mathlib.Core.Path.{◌≡◌}
use native.Mathlib.Omega.{arith}
use Rattle.meaning.proofs.ByAmount.{least_one, least_done}
use Rattle.tables.proofs.Amounts.{soonest_via_is}
use Rattle.tables.proofs.Lines.{room_for_fewer}
use Rattle.tables.proofs.amount.least_cell.Goals as goal

pub returns-then-line-back : goal.returns-then-line-back
returns-then-line-back c = least_one _ _ _ _ _ _ (omega (arith, c.if-line-back.true)) c.requires.proper_row.deadline.1

pub soonest_via-requires : goal.soonest_via-requires
soonest_via-requires c =
    let fewer = room_for_fewer c.args.n c.args.line _ _ (omega (arith, c.requires.some_work, c.if-line-back.false)) c.requires.room in
    record { room = rw c.new-followers.ensures.count fewer }

pub returns : goal.returns
returns c =
    let a = c.args in
    let left = a.line + 1 - a.work in
    let same : a.line - a.work ≡ left - 1 = omega arith in
    let soonest = rw (c.new-followers.ensures.bytes, c.new-followers.ensures.count, c.new-followers.ensures.rest, c.new-followers.ensures.place) at c.soonest_via.ensures in
    least_done _ _ _ _ _ _ _ (omega (arith, c.if-line-back.false)) (rw (soonest, same) (soonest_via_is _ _ _ c.requires.proper_row (omega arith) _ left))
