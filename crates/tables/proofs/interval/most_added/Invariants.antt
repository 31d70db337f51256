use Prim.Native.Nat.{max}
use Rattle.tables.specs.Followers.{gap_to}
use Rattle.tables.specs.Adding.{added_at}
use Rattle.tables.proofs.Followers.{Walked}
use Rattle.tables.proofs.interval.most_added.Given as goal

abbrev pub invariant-loop-row : goal.invariant-loop-row
invariant-loop-row l =
    Walked (λ j most. max most (added_at l.followers.count l.cells l.s (gap_to l.followers.bytes.now l.followers.rest l.followers.place j) j)) 0 l.followers l.left l.most

abbrev pub decreases-loop-row : goal.decreases-loop-row
decreases-loop-row l = l.left.rest
