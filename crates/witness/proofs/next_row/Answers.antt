-- `next_row` meets its contract. No follower passed adds just the work wanted.
use native.Mathlib.Omega.{arith}
use Rattle.tables.proofs.Followers.{walked_row}
use Rattle.witness.proofs.Leading.{sought_start, sought_before, sought_hit, sought_next, sought_end, leading_is, leading_none}
use Rattle.witness.proofs.next_row.Goals as goal

pub loop-next-init : goal.loop-next-init
loop-next-init c = sought_start _ _ _ _ _ (omega (arith, c.well_formed.1.1.0, c.new-followers.ensures.rest))

pub added-requires-clause-row_lt_n : goal.added-requires-clause-row_lt_n
added-requires-clause-row_lt_n c = rw c.new-followers.ensures.count at (walked_row c.loop-next.invariant.walked c.in-Some.ensures)

pub returns-then-added-want : goal.returns-then-added-want
returns-then-added-want c =
    let all = c.new-followers.ensures in
    leading_is _ _ _ c.requires.proper_row (omega (arith, c.well_formed.1.1.0)) _ _ _ c.requires.want_nonzero _
    (rw (all.bytes, all.rest, all.place) at (sought_hit _ _ _ _ _ c.loop-next.invariant c.in-Some.ensures c.added.ensures c.if-added-want.true))
    (rw (all.bytes, all.rest, all.place) at (sought_before _ _ _ _ _ c.loop-next.invariant c.in-Some.ensures))

pub loop-next-preserved : goal.loop-next-preserved
loop-next-preserved c = sought_next _ _ _ _ _ c.loop-next.invariant c.in-Some.ensures c.added.ensures c.if-added-want.false

pub returns : goal.returns
returns c =
    let all = c.new-followers.ensures in
    leading_none _ _ _ c.requires.proper_row (omega (arith, c.well_formed.1.1.0)) _ _ _ c.requires.want_nonzero
    (rw (all.bytes, all.rest, all.place) at (sought_end _ _ _ _ _ c.loop-next.invariant c.in_default.ensures))
