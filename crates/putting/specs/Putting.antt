-- What a routine asks of values, and what it leaves of the output that it is lent.
use Rattle.std.specs.Prelude.{ℕ, ◌^◌, ◌<◌, ◌≡◌, Ok, List, ◌++◌, length, drop, get_or}
use Rattle.sets.specs.Sets.{width}
use Rattle.fields.specs.Deciding.{first_broken}
use Rattle.fields.specs.Limits.{row_limit}
use Rattle.fields.specs.declared.values.Tally.{Tally}
use Rattle.written.specs.Judging.{entries_rules}
use Rattle.written.specs.Values.{Entry}

-- the bytes stand at the front, and behind them what was there
abbrev pub Put : List ℕ → List ℕ → List ℕ → Type 0
Put bytes old new = new ≡ bytes ++ drop (length bytes) old

-- the entries break no rule, counted on from some tally
abbrev pub Unbroken : List Entry → Type 0
Unbroken entries = (tally : Tally) × (first_broken (entries_rules tally entries) ≡ Ok tt)

-- no set, which is a number of `width` bits, has a row from `row_limit` on
abbrev pub Narrow : List ℕ → Type 0
Narrow sets = (k : ℕ) → get_or sets k 0 < 2 ^ width → get_or sets k 0 < 2 ^ row_limit
