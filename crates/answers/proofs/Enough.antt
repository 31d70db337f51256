-- How many cells are enough for a question.
use Prim.Native.Nat.{ℕ, ◌+◌, ◌≤◌}
use native.Mathlib.Nat.{mul-le-mul}
use native.Mathlib.Omega.{arith}
use mathlib.Core.Path.{◌≡◌}
use mathlib.Core.Bool.{false}
use mathlib.Core.List.{List}
use borrow.Author.Tests.{ltb-false}
use Rattle.meaning.specs.Demand.{longest_time}
use Rattle.fields.proofs.Deciding.{neither}
use Rattle.sheet.specs.Proper.{Bytes}
use Rattle.words.specs.declared.Question.{Question}
use Rattle.words.specs.declared.Question.TheVariants.{Fits, Curve, Chart, At, Shortest}
use Rattle.answers.specs.Room.{out_of_range, lines_for, HasRoom}
use Rattle.sheet.proofs.Counts.{rows_within}

-- a number that is in range takes no more lines than there are intervals up to the longest time
pub few_lines : (question : Question) (number : ℕ) → out_of_range question number ≡ false → lines_for question number ≤ longest_time + 1
few_lines Fits t range = omega (arith, ltb-false longest_time t range)
few_lines Curve t range = omega (arith, ltb-false longest_time t range)
few_lines Chart t range = omega (arith, ltb-false longest_time t range)
few_lines At t range = omega (arith, ltb-false longest_time t range)
few_lines Shortest b range = ltb-false (longest_time + 1) b (neither _ _ range).1

-- about as many lines as the number says
pub lines_about : (question : Question) (number : ℕ) → (number ≤ lines_for question number) × (lines_for question number ≤ number + 1)
lines_about Fits t = (omega arith, omega arith)
lines_about Curve t = (omega arith, omega arith)
lines_about Chart t = (omega arith, omega arith)
lines_about At t = (omega arith, omega arith)
lines_about Shortest b = (omega arith, omega arith)

-- so many cells are enough for every sheet, of which none has 64 rows
pub many_enough : (bytes : List ℕ) → Bytes bytes → (question : Question) (number : ℕ) → HasRoom bytes question number 4194304
many_enough bytes are question number range =
    mul-le-mul {n₂ = 64} {m₂ = 65536} (omega (arith, rows_within bytes are)) (omega (arith, few_lines question number range))
