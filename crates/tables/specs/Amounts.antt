-- The end times by way of a row's followers, told by the numbers that the code has: a set of rows, and the place of the first gap in the file.
use Rattle.std.specs.Prelude.{List, ℕ, ◌+◌, min}
use Rattle.sets.specs.Sets.{width, fold_below}
use Rattle.meaning.specs.Demand.{no_time}
use Rattle.meaning.specs.Computed.{cell_at, time_or_none}
use Rattle.tables.specs.Followers.{gap_to}

-- the sooner of a time and the one by way of row j: the gap to it, and its own cell in a line
abbrev pub sooner_via : List ℕ → List ℕ → ℕ → ℕ → ℕ → ℕ → ℕ → ℕ → ℕ
sooner_via bytes cells followers place n line j time = min time (time_or_none (gap_to bytes followers place j + cell_at n cells line j))

-- the soonest of them, `no_time` where there is none
unfoldable pub soonest_via : List ℕ → List ℕ → ℕ → ℕ → ℕ → ℕ → ℕ
soonest_via bytes cells followers place n line = fold_below (sooner_via bytes cells followers place n line) no_time followers width
