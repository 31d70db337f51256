-- `sets::next_from` meets its contract: the trailing zeros of what is left from a place on lead to the next row.
use borrow.Author.Rules.{rules}
use mathlib.Core.Path.{sym}
use Prim.Native.Nat.{◌/◌, ◌^◌}
use native.Mathlib.Omega.{arith}
use lib.Count.{trailing_le}
use Rattle.sets.proofs.Search.{none, some_at, past}
use Rattle.sets.proofs.next_from.Goals as goal

pub returns-then-from-ge-WIDTH : goal.returns-then-from-ge-WIDTH
returns-then-from-ge-WIDTH c = sym (past 64 _ _ c.if-from-ge-WIDTH.true)

pub returns-then-rest-eq0 : goal.returns-then-rest-eq0
returns-then-rest-eq0 c = sym (none _ _ _ c.if-rest-eq0.true)

pub overflow_cast-row : goal.overflow_cast-row
overflow_cast-row c = omega (arith, trailing_le 64 (c.args.set / 2 ^ c.args.from))

pub overflow_add-row : goal.overflow_add-row
overflow_add-row c = omega (arith, trailing_le 64 (c.args.set / 2 ^ c.args.from))

pub returns : goal.returns
returns c = sym (some_at 64 _ _ (search rules) c.if-rest-eq0.false)
