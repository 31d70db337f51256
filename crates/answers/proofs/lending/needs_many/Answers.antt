-- A number that is out of range takes no cells, and of one in range the product of rows and lines is small.
use Prim.Native.Nat.{◌+◌, ◌≤◌}
use native.Mathlib.Nat.{mul-le-mul}
use native.Mathlib.Omega.{arith}
use Rattle.meaning.specs.Demand.{longest_time}
use Rattle.fields.specs.Limits.{row_limit}
use Rattle.sheet.proofs.Counts.{rows_within}
use Rattle.answers.proofs.Enough.{few_lines, lines_about}
use Rattle.answers.proofs.lending.needs_many.Goals as goal

pub returns-then-number : goal.returns-then-number
returns-then-number c told range =
    let a = c.args in
    absurd (omega (arith, c.if-number.true, few_lines a.question a.number range, (lines_about a.question a.number).0))

pub overflow_mul-result : goal.overflow_mul-result
overflow_mul-result c =
    let a = c.args in
    let rows : c.rows_of.result ≤ row_limit = rw c.rows_of.ensures (rows_within _ (λ i. omega (arith, c.type_inv.bytes i))) in
    let lines : c.lines_for.result ≤ longest_time + 2 =
    omega (arith, c.lines_for.ensures, (lines_about a.question a.number).1, c.if-number.false) in
    omega (arith, mul-le-mul rows lines)
