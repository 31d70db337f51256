-- `number_of` meets its contract: every digit passed is one, and their value so far is known.
use Prim.Native.Nat.{◌≤◌, ◌<◌}
use borrow.Author.Count.{below_none, below_more}
use native.Mathlib.Omega.{arith}
use Rattle.words.proofs.Digits.{value_none, value_more, value_small}
use Rattle.words.proofs.number_of.Goals as goal

pub loop-byte-init : goal.loop-byte-init
loop-byte-init c = (value_none _, below_none _)

pub overflow_mul-value : goal.overflow_mul-value
overflow_mul-value c =
    let l = c.loop-byte in
    let few : l.byte-index ≤ 4 = omega (arith, c.loop-byte-test.true, c.if-size-gt-DIGITS.false) in
    let small : l.value < 10000 = rw l.invariant.0 (value_small _ l.byte-index few l.invariant.1) in omega (arith, small)

pub overflow_add-value : goal.overflow_add-value
overflow_add-value c =
    let l = c.loop-byte in
    let few : l.byte-index ≤ 4 = omega (arith, c.loop-byte-test.true, c.if-size-gt-DIGITS.false) in
    let small : l.value < 10000 = rw l.invariant.0 (value_small _ l.byte-index few l.invariant.1) in omega (arith, small, c.if-not-is_ascii_digit.ensures.cases.1)

pub loop-byte-preserved : goal.loop-byte-preserved
loop-byte-preserved c =
    let l = c.loop-byte in
    (value_more _ l.byte-index l.value l.invariant.0, below_more _ l.byte-index l.invariant.1 c.if-not-is_ascii_digit.ensures.cases)
