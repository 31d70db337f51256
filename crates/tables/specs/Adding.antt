-- A cell of the table by interval, told by what the code has: a row, its job length, and the area of cells.
use Rattle.std.specs.Prelude.{cond, List, ℕ, ◌-◌, max, leb}
use Rattle.sets.specs.Sets.{width, fold_below}
use Rattle.meaning.specs.Computed.{cell_at, step_at}
use Rattle.sheet.specs.Meaning.{gap_of}
use Rattle.fields.specs.declared.values.Row.{Row}
use Rattle.tables.specs.Followers.{gap_to}

-- what row j adds after a gap, with s left: its cell at what the gap leaves of s, 0 where the gap is longer
unfoldable pub added_at : ℕ → List ℕ → ℕ → ℕ → ℕ → ℕ
added_at n cells s gap j =
    let cell = cell_at n cells (s - gap) j in
    cond (leb gap s) cell 0

-- the most that a follower adds
unfoldable pub most_added : List ℕ → List ℕ → ℕ → ℕ → ℕ → ℕ → ℕ
most_added bytes cells followers place n s = fold_below (λ j most. max most (added_at n cells s (gap_to bytes followers place j) j)) 0 followers width

-- the cell of a row in the line s, from the cells of the lines before
abbrev pub cell_of : List ℕ → List ℕ → Row → ℕ → ℕ → ℕ → ℕ
cell_of bytes cells row work n s = step_at n work row.deadline.0 (gap_of bytes row) (cell_at n cells) s
