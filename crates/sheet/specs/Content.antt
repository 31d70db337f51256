-- The rules of a row's gaps as they stand in the file.
use Rattle.std.specs.Prelude.{ℕ, ◌+◌, ◌*◌, List, Bool, ltb}
use Rattle.fields.specs.Deciding.{Rule, any_from}
use Rattle.fields.specs.Limits.{gap_size}
use Rattle.fields.specs.Reading.{word_at}
use Rattle.rules.specs.Rules.{follower_count, row_rules}
use Rattle.fields.specs.declared.units.Ticks.{Ticks}
use Rattle.fields.specs.declared.values.Row.{Row}
use Rattle.fields.specs.declared.values.Tally.{Tally}

-- rule 7 and rule 10: of the gaps from a place on, one is shorter than a bound
unfoldable pub gap_shorter : List ℕ → ℕ → ℕ → Ticks → Bool
gap_shorter bytes place count bound = any_from (λ k. ltb (word_at bytes (place + gap_size * k)) bound.0) 0 count

-- the rules of a row whose gaps stand in the file
unfoldable pub row_gap_rules : List ℕ → Tally → Row → List Rule
row_gap_rules bytes tally row =
    row_rules tally row
    (gap_shorter bytes row.gaps (follower_count row.followers) (record { 0 = 1 }))
    (gap_shorter bytes row.gaps (follower_count row.followers) row.deadline)
