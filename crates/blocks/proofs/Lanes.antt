-- Lanes: the cells of one row in the lines of a block, which stand n cells apart.
use mathlib.Core.Path.{◌≡◌, ap}
use mathlib.Core.List.{List}
use Prim.Native.Nat.{ℕ, ◌+◌, ◌*◌, ◌≤◌, ◌<◌}
use native.Mathlib.Omega.{arith}
use lib.ListN.{get_or}
use Rattle.meaning.specs.Computed.{cell_at}
use Rattle.blocks.specs.Blocks.{block_size}

-- where the lines stand in an area, so does a lane of them, as far as its last cell
pub lane_room : (n line row size : ℕ) → row < n → n * (line + block_size) ≤ size → line * n + row + n * block_size < size + n
lane_room n line row size h room = omega arith

-- a cell of a lane is that of the row in its line
pub lane_cell : (n : ℕ) (cells : List ℕ) (line row i : ℕ) → get_or cells (line * n + row + i * n) 0 ≡ cell_at n cells (line + i) row
lane_cell n cells line row i =
    let place : line * n + row + i * n ≡ (line + i) * n + row = omega arith in
    ap (λ (x : ℕ). get_or cells x 0) place
