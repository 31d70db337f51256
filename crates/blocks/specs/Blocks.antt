-- Blocks of lines of a table: the cells of one row in a few lines, one after the other.
use Rattle.std.specs.Prelude.{cond, List, ◌≡◌, ℕ, ◌+◌, ◌<◌, leb, get_or}

-- how many lines a block has; the code's constant is `BLOCK`
abbrev pub block_size : ℕ
block_size = 8

-- a number for each line of a block: f i in its line i
abbrev pub EachLine : (ℕ → ℕ) → List ℕ → Type 0
EachLine f block = (i : ℕ) → i < block_size → get_or block i 0 ≡ f i

-- a job length and what is added to it from the deadline on, nothing before
unfoldable pub due_work : ℕ → ℕ → ℕ → ℕ → ℕ
due_work deadline work s most =
    let sum = work + most in
    cond (leb deadline s) sum 0
