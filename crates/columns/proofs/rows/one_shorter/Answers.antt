-- `one_shorter` meets its contract. What is seen so far is what the gaps passed have.
use mathlib.Core.Path.{◌≡◌, refl}
use lib.Dec.{ltb}
use lib.ListN.{length, get_or}
use native.Mathlib.Omega.{arith}
use Rattle.fields.specs.Deciding.{any_from}
use Rattle.fields.proofs.Deciding.{answers_lt}
use Rattle.written.specs.Judging.{one_shorter}
use Rattle.written.proofs.Alike.{any_further}
use Rattle.columns.proofs.rows.one_shorter.Goals as goal

pub loop-gap-init : goal.loop-gap-init
unfolding any_from
loop-gap-init c = refl

pub loop-gap-preserved : goal.loop-gap-preserved
loop-gap-preserved c =
    let l = c.loop-gap in
    let a = c.args in
    any_further (λ k. ltb (get_or a.gaps.now k 0) a.bound.0) l.gap-index l.shorter c.lt-shorter.result l.invariant (answers_lt _ _ _ c.lt-shorter.ensures)

pub returns : goal.returns
unfolding one_shorter
returns c =
    let l = c.loop-gap in
    let all : l.gap-index ≡ length c.args.gaps.now = omega arith in
    rw all at l.invariant
