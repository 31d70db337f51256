-- Areas that are filled in steps: two steps that are one.
use mathlib.Core.Path.{◌∙◌}
use mathlib.Core.List.{List}
use Prim.Native.Nat.{ℕ, ◌≤◌}
use native.Mathlib.Omega.{arith}
use Rattle.meaning.specs.Cells.{Filled}

-- what is filled further on is filled from the first
pub filled_join : (n : ℕ) (Right : ℕ → ℕ → ℕ → Type 0) (old cells new : List ℕ) (less more : ℕ) → less ≤ more → Filled n Right old cells less
    → Filled n Right cells new more → Filled n Right old new more
filled_join n Right old cells new less more h first second = record {
  same_length = second.same_length ∙ first.same_length;
  right = second.right;
  kept = λ place l. second.kept place l ∙ first.kept place (omega arith);
}
