-- `soonest_via` meets its contract. What is left of the walk and the soonest so far go together.
use mathlib.Core.Path.{sym, ◌∙◌}
use native.Mathlib.Omega.{arith}
use Rattle.meaning.proofs.ByAmount.{time_kept, time_none}
use Rattle.tables.specs.Amounts.{soonest_via}
use Rattle.tables.proofs.Followers.{walked_none, walked_all, walked_gap, walked_more, lowest_row, taken_past}
use Rattle.tables.proofs.Amounts.{sooner_or_none}
use Rattle.tables.proofs.Lines.{in_lines}
use Rattle.tables.proofs.amount.soonest_via.Goals as goal

pub loop-row-init : goal.loop-row-init
loop-row-init c = walked_none _ _ _ (omega (arith, c.ranges.followers))

pub bounds-cells-base : goal.bounds-cells-base
bounds-cells-base c = in_lines c.args.followers.count c.args.line _ _ _ (omega arith) (lowest_row c.loop-row.invariant c.in-Some.ensures) c.requires.room

pub pass-requires : goal.pass-requires
pass-requires c = c.in-Some.ensures.some

pub loop-row-preserved : goal.loop-row-preserved
loop-row-preserved c =
    let taken = taken_past c.in-Some.ensures c.pass.ensures in
    let gap = walked_gap c.loop-row.invariant taken in
    walked_more c.loop-row.invariant taken (rw (c.min-soonest.ensures, gap) (sooner_or_none _ _))

pub returns-then-soonest : goal.returns-then-soonest
unfolding soonest_via
returns-then-soonest c = sym (time_kept c.loop-row.soonest (omega (arith, c.if-soonest.true))) ∙ walked_all c.loop-row.invariant c.in_default.ensures

pub returns : goal.returns
unfolding soonest_via
returns c = sym (time_none c.loop-row.soonest (omega (arith, c.if-soonest.false))) ∙ walked_all c.loop-row.invariant c.in_default.ensures
