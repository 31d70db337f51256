-- How many cells a question takes, and when its number is out of range.
use Rattle.std.specs.Prelude.{ℕ, ◌+◌, ◌≤◌, ◌≡◌, Bool, false, List}
use Rattle.beginning.specs.Beginning.{room_for, bad_amount}
use Rattle.printing.specs.Refusals.{bad_interval}
use Rattle.words.specs.declared.Question.{Question}
use Rattle.words.specs.declared.Question.TheVariants.{Fits, Curve, Chart, At, Shortest}

-- rule 11 of a question's number: an amount for the shortest interval, else an interval or a horizon
abbrev pub out_of_range : Question → ℕ → Bool
out_of_range Fits = bad_interval
out_of_range Curve = bad_interval
out_of_range Chart = bad_interval
out_of_range At = bad_interval
out_of_range Shortest = bad_amount

-- how many lines of cells it takes
abbrev pub lines_for : Question → ℕ → ℕ
lines_for Fits t = t + 1
lines_for Curve t = t + 1
lines_for Chart t = t + 1
lines_for At t = t + 1
lines_for Shortest b = b

-- the few cells, for which an ordinary stack is enough
abbrev pub few_cells : ℕ
few_cells = 1000000

-- a number of cells is enough for a question; where its number is out of range, no cells are asked for
abbrev pub HasRoom : List ℕ → Question → ℕ → ℕ → Type 0
HasRoom bytes question number cells = out_of_range question number ≡ false → room_for bytes (lines_for question number) ≤ cells
