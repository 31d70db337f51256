-- `fill_line` meets its contract. The lines before are right, and in the line the cells passed.
use Prim.Native.Nat.{◌+◌, ◌*◌}
use mathlib.Core.Path.{◌≡◌}
use native.Mathlib.Omega.{arith}
use Rattle.meaning.proofs.Filling.{filled_one}
use Rattle.filling.proofs.fill_line.Goals as goal

pub loop-k-preserved : goal.loop-k-preserved
loop-k-preserved g c =
    let k = c.loop-k.k in
    let base = c.args.line * c.args.rows.now.count in
    let next : base + k + 1 ≡ base + (k + 1) = omega arith in
    rw next at (filled_one _ _ _ _ _ _ _ c.loop-k-test.true (grind arith) c.cell.ensures c.loop-k.invariant)
