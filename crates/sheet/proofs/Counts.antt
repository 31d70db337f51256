-- How many modes, rows and tasks a judged sheet has at most, whatever its bytes are.
use Prim.Native.Nat.{ℕ, ◌≤◌}
use native.Mathlib.Omega.{arith}
use mathlib.Core.Path.{◌≡◌, refl}
use mathlib.Core.List.{List}
use Rattle.fields.specs.Limits.{mode_limit, row_limit, task_limit}
use Rattle.fields.specs.Values.{empty_sheet}
use Rattle.sheet.specs.Judging.{judged}
use Rattle.sheet.specs.Proper.{Bytes}
use Rattle.sheet.proofs.Accepted.{accepted_proper}
use Rattle.sheet.proofs.Refusals.{refused_empty}
use Rattle.sheet.specs.Answer.{Answer}
use Rattle.sheet.specs.Answer.{Accepted, Refused}
use Rattle.fields.specs.declared.values.Tally.{Tally}

-- a tally of no more than the limits
record Within (tally : Tally) : Type 0 where
  modes : tally.modes ≤ mode_limit
  rows : tally.rows ≤ row_limit
  tasks : tally.tasks ≤ task_limit

module _ (bytes : List ℕ) (are : Bytes bytes) where
  -- an accepted sheet has no more than the limits, and a refused one has none
  within : (answer : Answer) → (judged bytes).answer ≡ answer → Within (judged bytes).sheet.tally
  unfolding empty_sheet
  within Accepted e =
      let proper = accepted_proper bytes are e in
      record { modes = proper.modes_most; rows = proper.rows_most; tasks = proper.tasks_most }
  within (Refused number place) e = rw (refused_empty bytes number place e) (record { modes = omega arith; rows = omega arith; tasks = omega arith })

  pub modes_within : (judged bytes).sheet.tally.modes ≤ mode_limit
  modes_within = (within (judged bytes).answer refl).modes

  pub rows_within : (judged bytes).sheet.tally.rows ≤ row_limit
  rows_within = (within (judged bytes).answer refl).rows

  pub tasks_within : (judged bytes).sheet.tally.tasks ≤ task_limit
  tasks_within = (within (judged bytes).answer refl).tasks
