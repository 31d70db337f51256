-- How far back a row's cell reaches into the lines before, and what a column of cells changes.
use Rattle.std.specs.Prelude.{ℕ, ◌+◌, ◌*◌, ◌≤◌, ◌<◌, ◌≡◌, List, length, get_or}
use Rattle.beginning.specs.Beginning.{graph}
use Rattle.blocks.specs.Blocks.{block_size}

-- for a row of the sheet, by a table's `reach` of its deadline and its job length
abbrev pub row_reach : (ℕ → ℕ → ℕ) → List ℕ → ℕ → ℕ
row_reach reach bytes k = reach ((graph bytes).deadline k) ((graph bytes).length k)

-- lines that may be filled in blocks: where there are some, no row reaches back by less than a block
abbrev pub MayBlock : (ℕ → ℕ → ℕ) → List ℕ → ℕ → ℕ → Type 0
MayBlock reach bytes n lines = 0 < lines → (k : ℕ) → k < n → block_size ≤ row_reach reach bytes k

-- the first `count` cells of a column stand in row k from a line on, one a line, and nothing else has changed
pub record Put (n line k : ℕ) (column old new : List ℕ) (count : ℕ) : Type 0 where
  pub same_length : length new ≡ length old
  pub here : (i : ℕ) → i < count → get_or new ((line + i) * n + k) 0 ≡ get_or column i 0
  pub other : (place : ℕ) → ((i : ℕ) → i < count → place ≡ (line + i) * n + k → ⊥) → get_or new place 0 ≡ get_or old place 0
