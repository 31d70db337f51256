-- The followers of a row by the numbers that the code has: a set of rows, and the place in the file where their gaps begin.
use Rattle.std.specs.Prelude.{ℕ, ◌+◌, ◌*◌, ◌≤◌, ◌<◌, ◌≡◌, List, length}
use Rattle.sets.specs.Sets.{bit, below}
use Rattle.fields.specs.Limits.{gap_size}
use Rattle.fields.specs.Reading.{word_at}
use Rattle.rules.specs.Rules.{follower_count}

-- the gap to row j: one stands for each row of the set, lowest first
abbrev pub gap_to : List ℕ → ℕ → ℕ → ℕ → ℕ
gap_to bytes followers place j = word_at bytes (place + gap_size * below followers j)

-- the followers are among n rows, and their gaps stand in the file
pub record Followed (bytes : List ℕ) (n followers place : ℕ) : Type 0 where
  pub exist : (j : ℕ) → bit followers j ≡ 1 → j < n
  pub inside : place + gap_size * follower_count followers ≤ length bytes
