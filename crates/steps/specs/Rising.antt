-- The steps of a curve: up to which horizon they are read off an area of cells, and at which intervals an amount rises.
use Rattle.std.specs.Prelude.{ℕ, ◌+◌, ◌-◌, ◌*◌, ◌≤◌, ◌<◌}
use Rattle.meaning.specs.Demand.{longest_time}

-- the largest horizon whose lines, one for each interval from 0 on and a cell a row, fit a number of cells
pub record IsHorizon (cells rows horizon : ℕ) : Type 0 where
  pub in_range : horizon ≤ longest_time
  pub fits : rows * (horizon + 1) ≤ cells
  pub largest : (other : ℕ) → other ≤ longest_time → rows * (other + 1) ≤ cells → other ≤ horizon

-- an amount that goes by the interval rises at one: it is above that at the interval before
abbrev pub Rises : (ℕ → ℕ) → ℕ → Type 0
Rises amount interval = amount (interval - 1) < amount interval

-- the first interval from one on at which it rises, one past the horizon where there is none
pub record IsNextRise (amount : ℕ → ℕ) (horizon from next : ℕ) : Type 0 where
  pub at_least : from ≤ next
  pub at_most : next ≤ horizon + 1
  pub rises : next ≤ horizon → Rises amount next
  pub first : (interval : ℕ) → from ≤ interval → interval < next → Rises amount interval → ⊥
