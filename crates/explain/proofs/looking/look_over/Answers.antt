-- `look_over` meets its contract. Fixed demand runs along with the intervals, none of those passed is overrun, and the smallest margin is theirs.
use Prim.Native.Nat.{◌+◌, ◌^◌, ◌<◌}
use native.Mathlib.Omega.{arith}
use Rattle.overruns.proofs.Releases.{counted_waiting}
use Rattle.overruns.proofs.Sweeping.{fixed_few}
use Rattle.explain.proofs.Narrowing.{looking_start, looking_smaller, looking_kept, looking_overrun, looking_done}
use Rattle.explain.proofs.looking.look_over.Goals.{After-advance-fixed, then-margin-least, else-margin-least, else-loop-t-test, then-loop-t-test+else-t-work+else-t-horizon}
use Rattle.explain.proofs.looking.look_over.Goals as goal

pub loop-t-init : goal.loop-t-init
loop-t-init c = looking_start _ _ _ _ c.args.tasks.now.proper _ c.requires.in_range _ (counted_waiting _ _ c.args.tasks.now.proper _ c.new-dues.ensures.waiting)

-- fixed demand at the interval
small : (c : After-advance-fixed) → c.loop-t.fixed + c.advance-fixed.result < 2 ^ 48
small c = fixed_few _ _ _ c.args.tasks.now.proper c.args.horizon _ _ _ c.loop-t.invariant.sweeping _ _ c.advance-fixed.ensures.advanced (omega (arith, c.requires.in_range, c.loop-t-test.true))

pub overflow_add-fixed : goal.overflow_add-fixed
overflow_add-fixed c = omega (arith, small c)

pub overflow_add-work : goal.overflow_add-work
overflow_add-work c = omega (arith, small (goal.at.overflow_add-work c).After-advance-fixed, c.demand_of.type_inv)

pub returns-then-t-work : goal.returns-then-t-work
returns-then-t-work c =
    looking_overrun _ _ _ _ c.args.tasks.now.proper _ c.requires.in_range _ _ _ _ _ c.loop-t.invariant c.loop-t-test.true
    _ _ c.advance-fixed.ensures.advanced _ c.demand_of.ensures (omega (arith, c.if-t-work.true))

pub loop-t-preserved : goal.loop-t-preserved
loop-t-preserved c =
    elim c.if-margin-least.branch [
      | then-margin-least w ↦ rw (w.least-is, w.at-is) (looking_smaller _ _ _ _ c.args.tasks.now.proper _ c.requires.in_range _ _ _ _ _ c.loop-t.invariant c.loop-t-test.true
          _ _ c.advance-fixed.ensures.advanced _ c.demand_of.ensures (omega (arith, c.if-t-work.false)) (omega (arith, w.if-margin-least.true)))
      | else-margin-least w ↦ rw (w.least-is, w.at-is) (looking_kept _ _ _ _ c.args.tasks.now.proper _ c.requires.in_range _ _ _ _ _ c.loop-t.invariant c.loop-t-test.true
          _ _ c.advance-fixed.ensures.advanced _ c.demand_of.ensures (omega (arith, c.if-t-work.false)) (omega (arith, w.if-margin-least.false)))
    ]

-- the horizon was 0, or its interval came last
pub returns : goal.returns
returns c =
    rw c.smallest.ensures
    (elim c.loop-t-test.branch [
      | else-loop-t-test w ↦
          rw (w.least-is, w.at-is) (looking_done _ _ _ _ c.args.tasks.now.proper _ c.requires.in_range _ _ _ _ _ c.loop-t.invariant w.loop-t-test.false)
      | then-loop-t-test+else-t-work+else-t-horizon w ↦
          rw (w.least-is, w.at-is)
          (elim w.if-margin-least.branch [
            | then-margin-least v ↦
                rw (v.least-is, v.at-is)
                (looking_done _ _ _ _ c.args.tasks.now.proper _ c.requires.in_range _ _ _ _ _
                (looking_smaller _ _ _ _ c.args.tasks.now.proper _ c.requires.in_range _ _ _ _ _ c.loop-t.invariant w.loop-t-test.true
                _ _ w.advance-fixed.ensures.advanced _ w.demand_of.ensures (omega (arith, w.if-t-work.false)) (omega (arith, v.if-margin-least.true)))
                (omega arith))
            | else-margin-least v ↦
                rw (v.least-is, v.at-is)
                (looking_done _ _ _ _ c.args.tasks.now.proper _ c.requires.in_range _ _ _ _ _
                (looking_kept _ _ _ _ c.args.tasks.now.proper _ c.requires.in_range _ _ _ _ _ c.loop-t.invariant w.loop-t-test.true
                _ _ w.advance-fixed.ensures.advanced _ w.demand_of.ensures (omega (arith, w.if-t-work.false)) (omega (arith, v.if-margin-least.false)))
                (omega arith))
          ])
    ])
