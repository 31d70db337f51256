-- Areas of cells in lines of n, one cell a row: room for them, the lines of an area that is filled, and demand from a line.
use mathlib.Core.List.{List}
use Prim.Native.Nat.{ℕ, ◌+◌, ◌*◌, ◌≤◌, ◌<◌}
use native.Mathlib.Nat.{mul-le-mul_left}
use native.Mathlib.Omega.{arith}
use lib.Arith.{digits_lt}
use lib.ListN.{length}
use Rattle.meaning.specs.Graph.{Graph, Sound}
use Rattle.meaning.specs.Cells.{ByInterval, Filled}
use Rattle.meaning.specs.Computed.{cell_at}
use Rattle.meaning.specs.Demand.{IsDemand}
use Rattle.meaning.proofs.ByInterval.{demand_is}
use Rattle.sheet.specs.Meaning.{graph_of}
use Rattle.sheet.specs.Ready.{Ready}
use Rattle.fields.specs.declared.values.Sheet.{Sheet}
use Rattle.tables.specs.Lines.{HasLines, demand_in}

-- where there is room for some lines, there is for fewer
pub room_for_fewer : (rows count lines cells : ℕ) → lines ≤ count → rows * count ≤ cells → rows * lines ≤ cells
room_for_fewer rows count lines cells fewer room =
    let less : rows * lines ≤ rows * count = mul-le-mul_left {m = lines} {n = count} rows fewer in
    omega arith

-- a cell of one of the lines has its place before their end
pub in_lines : (n line lines k used : ℕ) → line < lines → k < n → n * lines ≤ used → line * n + k < used
in_lines n line lines k used l h u =
    let inside : line * n + k < lines * n = digits_lt l h in
    omega arith

-- an area that is filled at least so far has its lines
pub filled_has : (n : ℕ) (Right : ℕ → ℕ → ℕ → Type 0) (lines : ℕ) (old cells : List ℕ) (used : ℕ) → n * lines ≤ used → n * lines ≤ length old
    → Filled n Right old cells used → HasLines n Right cells lines
filled_has n Right lines old cells used far room filled = record {
  room = omega (arith, filled.same_length);
  right = λ line k l h. filled.right line k h (in_lines n line lines k used l h far);
}

-- and so has one that is filled just so far
pub filled_lines : (n : ℕ) (Right : ℕ → ℕ → ℕ → Type 0) (lines : ℕ) (old cells : List ℕ) → n * lines ≤ length old → Filled n Right old cells (n * lines)
    → HasLines n Right cells lines
filled_lines n Right lines old cells = filled_has n Right lines old cells (n * lines) (omega arith)

-- demand is the largest cell of a line by interval
pub line_demand : (g : Graph) → Sound g → (cells : List ℕ) (lines : ℕ) → HasLines g.rows (ByInterval g) cells lines → (t : ℕ) → t < lines
    → IsDemand g t (demand_in g.rows cells t)
line_demand g sound cells lines table t h = demand_is g sound t (cell_at g.rows cells t) (λ k l. table.right t k h l)

-- and so it is of the graph of a sheet
pub sheet_demand : (bytes : List ℕ) (sheet : Sheet) → Ready bytes sheet → (cells : List ℕ) (lines : ℕ)
    → HasLines sheet.tally.rows (ByInterval (graph_of bytes sheet)) cells lines → (t : ℕ) → t < lines
    → IsDemand (graph_of bytes sheet) t (demand_in sheet.tally.rows cells t)
unfolding graph_of
sheet_demand bytes sheet ready = line_demand (graph_of bytes sheet) ready.sound
