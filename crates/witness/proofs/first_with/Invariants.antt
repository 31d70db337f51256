use Prim.Native.Nat.{ℕ, ◌<◌}
use mathlib.Core.Path.{◌≡◌}
use Rattle.meaning.specs.Computed.{cell_at}
use Rattle.witness.proofs.first_with.Given as goal

abbrev pub invariant-loop-k : goal.invariant-loop-k
invariant-loop-k l = (i : ℕ) → i < l.k → cell_at l.n l.cells l.t i ≡ l.want → ⊥
