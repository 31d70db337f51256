-- An accepted sheet has at least one row, and no more than the limit.
use native.Mathlib.Omega.{arith}
use Rattle.sheet.proofs.Accepted.{accepted_proper}
use Rattle.sheet.proofs.Judgements.{judged_sheet}
use Rattle.demand.proofs.print_sheet.Goals as goal

pub print_accepted-requires-clause-some_rows : goal.print_accepted-requires-clause-some_rows
print_accepted-requires-clause-some_rows g c =
    let bytes = c.args.bytes.now in
    let found = judged_sheet bytes c.in-Ok.sheet c.in-Ok.ensures in
    let proper = accepted_proper bytes (λ i. omega (arith, c.type_inv.bytes i)) found.0 in
    rw found.1 (proper.rows_some, proper.rows_most)
