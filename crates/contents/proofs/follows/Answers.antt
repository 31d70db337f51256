-- `follows` meets its contract: past the width a set has no row.
use native.Mathlib.Omega.{arith}
use mathlib.Core.Path.{◌≡◌, sym}
use borrow.Author.Tests.{ne_eqb}
use Rattle.sets.specs.Sets.{bit}
use Rattle.sets.proofs.Bits.{bit_zero_past}
use Rattle.contents.proofs.follows.Goals as goal

pub returns-then-row-ge-WIDTH : goal.returns-then-row-ge-WIDTH
returns-then-row-ge-WIDTH c =
    let a = c.args in
    let clear : bit a.followers a.row ≡ 0 = bit_zero_past 64 a.followers a.row (omega (arith, c.well_formed.0)) c.if-row-ge-WIDTH.true in
    sym (ne_eqb (bit a.followers a.row) 1 (λ e. omega (arith, clear, e)))
