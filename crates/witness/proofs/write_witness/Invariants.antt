use Prim.Native.Nat.{ℕ, ◌≤◌}
use lib.ListN.{length}
use mathlib.Core.List.{List, ◌++◌}
use mathlib.Core.Path.{◌≡◌}
use Rattle.meaning.specs.Computed.{witness_of}
use Rattle.beginning.specs.Beginning.{graph}
use Rattle.witness.specs.Stands.{Written, Stands, rest_of}
use Rattle.witness.proofs.write_witness.Given as goal

abbrev pub invariant-loop-row : goal.invariant-loop-row
invariant-loop-row l = record {
  in_time : l.stand.left ≤ l.t;
  stands : Stands (graph l.rows.bytes.now) l.stand;
  before : List ℕ;
  whole : before ++ rest_of (graph l.rows.bytes.now) l.stand ≡ witness_of (graph l.rows.bytes.now) l.t;
  written : Written before l.initial.area l.area l.count;
}

abbrev pub decreases-loop-row : goal.decreases-loop-row
decreases-loop-row l = length (rest_of (graph l.rows.bytes.now) l.stand)
