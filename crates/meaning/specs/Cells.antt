-- What the two tables of cells hold, and what a lent area is while and after it is filled with one of them.
use Rattle.std.specs.Prelude.{◌≡◌, List, ℕ, ◌+◌, ◌*◌, ◌≤◌, ◌<◌, length, get_or}
use Rattle.meaning.specs.Graph.{Graph}
use Rattle.meaning.specs.Sequence.{AllowedFrom, end_from, amount_from}
use Rattle.meaning.specs.Extreme.{Largest, Smallest}
use Rattle.meaning.specs.Demand.{longest_time, no_time}

-- row k and the rows of a list after it are a sequence that ends by s
abbrev pub InTimeFrom : Graph → ℕ → ℕ → List ℕ → Type 0
InTimeFrom g k s rest = AllowedFrom g k rest × (end_from g k rest ≤ s)

-- the cell by interval: the most work by s of a sequence that starts at row k, 0 where there is none
abbrev pub IsBestFrom : Graph → ℕ → ℕ → ℕ → Type 0
IsBestFrom g k s v = Largest (InTimeFrom g k s) (amount_from g k) v

-- row k and the rows of a list after it are a sequence with at least the work a that ends by the longest time
abbrev pub EnoughFrom : Graph → ℕ → ℕ → List ℕ → Type 0
EnoughFrom g k a rest = AllowedFrom g k rest × (a ≤ amount_from g k rest) × (end_from g k rest ≤ longest_time)

-- the cell by amount: the least end time of a sequence with enough work that starts at row k, `no_time` where there is none
abbrev pub IsLeastFrom : Graph → ℕ → ℕ → ℕ → Type 0
IsLeastFrom g k a v = Smallest (EnoughFrom g k a) (end_from g k) no_time v

-- the table by interval: the line s has the cells of the interval s
abbrev pub ByInterval : Graph → ℕ → ℕ → ℕ → Type 0
ByInterval g s k v = IsBestFrom g k s v

-- the amount of a line: lines count from 0 and amounts from 1
abbrev pub amount_of : ℕ → ℕ
amount_of line = line + 1

-- the table by amount: a line has the cells of its amount
abbrev pub ByAmount : Graph → ℕ → ℕ → ℕ → Type 0
ByAmount g line k v = IsLeastFrom g k (amount_of line) v

-- an area in lines of n cells: the first `used` cells are right, as `Right line k v` says of the value v of row k in a line, and the others keep what they held
pub record Filled (n : ℕ) (Right : ℕ → ℕ → ℕ → Type 0) (old new : List ℕ) (used : ℕ) : Type 0 where
  pub same_length : length new ≡ length old
  pub right : (line k : ℕ) → k < n → line * n + k < used → Right line k (get_or new (line * n + k) 0)
  pub kept : (place : ℕ) → used ≤ place → get_or new place 0 ≡ get_or old place 0
