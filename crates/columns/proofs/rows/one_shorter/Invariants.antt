use lib.Dec.{ltb}
use lib.ListN.{get_or}
use mathlib.Core.Path.{◌≡◌}
use Rattle.fields.specs.Deciding.{any_from}
use Rattle.columns.proofs.rows.one_shorter.Given as goal

abbrev pub invariant-loop-gap : goal.invariant-loop-gap
invariant-loop-gap l = l.shorter ≡ any_from (λ k. ltb (get_or l.gaps k 0) l.bound.0) 0 l.gap-index
