-- `begin` meets its contract: the judge first, then the range, then the room.
use Prim.Native.Nat.{◌≤◌, ◌<◌}
use Rattle.std.proofs.lemmas.Result.{err_from_is_err_and}
use Rattle.sheet.proofs.Answering.{outlined_head}
use Rattle.beginning.proofs.Beginnings.{outline_rows, outlined_handed, begin_refused, begin_beyond, begin_short, begin_goes_on}
use Rattle.beginning.specs.Beginning.{rows, room_for}
use mathlib.Core.Path.{◌≡◌, refl}
use native.Mathlib.Nat.{mul-le-mul}
use native.Mathlib.Omega.{arith}
use Rattle.beginning.proofs.begin.Goals as goal

pub returns-in_err-head : goal.returns-in_err-head
returns-in_err-head c =
    let told = err_from_is_err_and c.from_residual.result c.from_residual.ensures.1 in
    rw (told.1, told.2) (begin_refused _ _ _ _ c.in_err-head.ensures)

pub returns-in_default : goal.returns-in_default
returns-in_default c = rw (c.from.ensures, c.in_default.is) (begin_beyond _ _ (outlined_head _ _ _ c.in_ok-head.ensures).0)

pub overflow_mul-head : goal.overflow_mul-head
overflow_mul-head c =
    let same-rows : c.in_ok-head.head.tally.rows ≡ rows c.args.bytes.now = outline_rows _ _ _ c.in_ok-head.ensures in
    let few : c.in_ok-head.head.tally.rows ≤ 32 = omega (arith, same-rows, c.outline_of.ensures.rows.most) in
    omega (arith, mul-le-mul few (rw c.in-Some.is at c.requires.few))

pub returns-then-room-head : goal.returns-then-room-head
returns-then-room-head c =
    let same-rows : c.in_ok-head.head.tally.rows ≡ rows c.args.bytes.now = outline_rows _ _ _ c.in_ok-head.ensures in
    let short : c.args.room < room_for c.args.bytes.now c.in-Some.lines = rw (← same-rows) c.if-room-head.true in
    rw (c.from-then-room-head.ensures, c.in-Some.is) (begin_short _ _ (outlined_head _ _ _ c.in_ok-head.ensures).0 _ short)

pub invariant_of-result : goal.invariant_of-result
invariant_of-result c = record { handed = outlined_handed _ _ _ (λ i. omega (arith, c.type_inv.bytes i)) c.in_ok-head.ensures }

pub returns : goal.returns
returns c =
    let same-rows : c.in_ok-head.head.tally.rows ≡ rows c.args.bytes.now = outline_rows _ _ _ c.in_ok-head.ensures in
    let enough : room_for c.args.bytes.now c.in-Some.lines ≤ c.args.room = rw (← same-rows) c.if-room-head.false in
    rw c.in-Some.is (begin_goes_on _ _ (outlined_head _ _ _ c.in_ok-head.ensures).0 _ enough _ refl)
