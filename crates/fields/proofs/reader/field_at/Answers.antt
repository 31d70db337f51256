-- `field_at` meets its contract: its three refusals are the rules of the definition in their order.
use Prim.Native.Nat.{◌+◌, ◌≤◌}
use Rattle.fields.proofs.Deciding.{judging, told_le, told_refused, no, kept}
use Rattle.fields.specs.Reading.{field_at}
use lib.ListN.{length}
use native.Mathlib.Omega.{arith}
use Rattle.fields.proofs.reader.field_at.Goals as goal

pub returns-then-too_short : goal.returns-then-too_short
unfolding field_at
returns-then-too_short c = search judging

pub bounds-bytes-at : goal.bounds-bytes-at
bounds-bytes-at c =
    let room : c.args.at + 3 ≤ length c.args.bytes.now = told_le _ _ _ c.too_short.ensures c.if-too_short.false in omega (arith, room)

pub returns-then-eq : goal.returns-then-eq
unfolding field_at
returns-then-eq c = search (judging, told_refused)

pub overflow_add-at : goal.overflow_add-at
overflow_add-at c =
    let room : c.args.at + 3 ≤ length c.args.bytes.now = told_le _ _ _ c.too_short.ensures c.if-too_short.false in omega (arith, room)

pub overflow_add-start : goal.overflow_add-start
overflow_add-start c =
    let room : c.args.at + 3 ≤ length c.args.bytes.now = told_le _ _ _ c.too_short.ensures c.if-too_short.false in omega (arith, room)

pub returns-then-too_short-2 : goal.returns-then-too_short-2
unfolding field_at
returns-then-too_short-2 c = rw (← c.word_at.ensures, ← c.from-size.ensures) (search (judging, told_refused))

pub overflow_add-result : goal.overflow_add-result
overflow_add-result c =
    let a = c.args in
    let room-for-content : a.at + 3 + c.from-size.result ≤ length a.bytes.now = told_le _ _ _ c.too_short-2.ensures c.if-too_short-2.false in omega (arith, room-for-content)

pub returns : goal.returns
unfolding field_at
returns c =
    rw (← c.word_at.ensures, ← c.from-size.ensures)
    (kept _ _ _ _ _ c.too_short.ensures c.if-too_short.false
    (no _ _ _ _ (told_refused _ _ _ _ c.from-kind.ensures c.eq.ensures c.if-eq.false)
    (kept _ _ _ _ _ c.too_short-2.ensures c.if-too_short-2.false
    (rw c.from-kind.ensures))))
