-- A turn of a walk over the followers of a row.
use Rattle.std.specs.Prelude.{◌≡◌, ◌≢◌, ℕ, ◌+◌, ◌-◌, bit_and}
use lib.Count.{count_trailing_zeros}
use Rattle.fields.specs.Limits.{gap_size}
use Rattle.fields.specs.Reading.{ticks_at}
use Rattle.fields.specs.declared.units.Ticks.{Ticks}
use Rattle.tables.specs.declared.walk.Followers.{Followers}

-- the lowest row that is left, and the gap at the place
pub record IsLowest (walk : Followers) (row : ℕ) (gap : Ticks) : Type 0 where
  pub some : walk.rest ≢ 0
  pub lowest : row ≡ count_trailing_zeros 64 walk.rest
  pub its_gap : gap ≡ ticks_at walk.bytes.now walk.place

-- that row is passed: its bit is cleared, and the place is one gap on
pub record IsPast (old new : Followers) : Type 0 where
  pub same_file : new.bytes.now ≡ old.bytes.now
  pub same_count : new.count ≡ old.count
  pub cleared : new.rest ≡ bit_and old.rest (old.rest - 1)
  pub moved : new.place ≡ old.place + gap_size

-- a turn gives the lowest row that is left and the gap at the place; it clears the row's bit, and moves the place one gap on
pub record Taken (old new : Followers) (row : ℕ) (gap : Ticks) : Type 0 where
  pub some : old.rest ≢ 0
  pub lowest : row ≡ count_trailing_zeros 64 old.rest
  pub its_gap : gap ≡ ticks_at old.bytes.now old.place
  pub same_file : new.bytes.now ≡ old.bytes.now
  pub same_count : new.count ≡ old.count
  pub cleared : new.rest ≡ bit_and old.rest (old.rest - 1)
  pub moved : new.place ≡ old.place + gap_size
