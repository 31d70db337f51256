use Prim.Native.Nat.{ℕ}
use lib.ListN.{get_or, take}
use mathlib.Core.List.{List}
use Rattle.fields.specs.Limits.{row_limit}
use Rattle.fields.specs.Reading.{rpm_at}
use Rattle.fields.specs.declared.values.Mode.{Mode}
use Rattle.modes.specs.Modes.{job_length}
use Rattle.tables.proofs.Storing.{Stored}
use Rattle.tables.proofs.interval.job_lengths.Given as goal

-- the job length of the row at the place of a number
abbrev pub length_at : List ℕ → List ℕ → List Mode → ℕ → ℕ → ℕ
length_at bytes places modes count k = (job_length (take count modes) (rpm_at bytes (get_or places k 0))).0

abbrev pub invariant-loop-number : goal.invariant-loop-number
invariant-loop-number l = Stored (length_at l.bytes l.places l.modes l.tally.modes) row_limit l.lengths l.number
