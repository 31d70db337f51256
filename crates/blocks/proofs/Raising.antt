-- What a follower adds in each line of a block by interval, and the cell that comes of the most of it.
use mathlib.Core.Bool.{cond}
use mathlib.Core.Path.{◌≡◌, ap, ◌∙◌}
use mathlib.Core.List.{List}
use Prim.Native.Nat.{ℕ, ◌+◌, ◌-◌, ◌*◌, ◌≤◌, ◌<◌, max}
use native.Mathlib.Omega.{arith}
use lib.Dec.{leb}
use lib.ListN.{get_or}
use borrow.Author.Tests.{le-leb, lt-leb}
use Rattle.meaning.specs.Computed.{cell_at, max_below, via_at, step_at}
use Rattle.tables.specs.Adding.{added_at}
use Rattle.tables.proofs.Adding.{added_late, added_cell}
use Rattle.blocks.specs.Blocks.{block_size, due_work}
use Rattle.blocks.proofs.Lanes.{lane_cell}

module _ (n : ℕ) (cells : List ℕ) (s gap row i : ℕ) where
  -- a gap that fits the first line leads back to a lane
  pub lane_added : gap ≤ s → get_or cells ((s - gap) * n + row + i * n) 0 ≡ added_at n cells (s + i) gap row
  lane_added h =
      let line : s - gap + i ≡ s + i - gap = omega arith in
      lane_cell n cells (s - gap) row i ∙ ap (λ (x : ℕ). cell_at n cells x row) line ∙ added_cell n cells (s + i) gap row (omega arith)

  -- a gap that is too long for the last line raises nothing
  pub lane_late : (most : ℕ) → i < block_size → s + block_size ≤ gap → most ≡ max most (added_at n cells (s + i) gap row)
  lane_late most l h = omega (arith, added_late n cells (s + i) gap row (omega arith))

module _ (deadline work s most : ℕ) where
  -- nothing before the deadline
  pub due_late : s < deadline → 0 ≡ due_work deadline work s most
  unfolding due_work
  due_late h = rw (lt-leb deadline s h)

  -- the sum from the deadline on
  pub due_sum : deadline ≤ s → work + most ≡ due_work deadline work s most
  unfolding due_work
  due_sum h = rw (le-leb deadline s h)

  -- with the most that a follower adds it is the cell
  pub due_is : (n : ℕ) (gap : ℕ → ℕ) (table : ℕ → ℕ → ℕ) → most ≡ max_below n (via_at gap table s) → due_work deadline work s most ≡ step_at n work deadline gap table s
  unfolding due_work step_at
  due_is n gap table e = ap (λ (x : ℕ). cond (leb deadline s) (work + x) 0) e
