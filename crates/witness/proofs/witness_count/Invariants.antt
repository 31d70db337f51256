use Prim.Native.Nat.{◌+◌, ◌≤◌}
use lib.ListN.{length}
use mathlib.Core.Path.{◌≡◌}
use Rattle.meaning.specs.Computed.{witness_of}
use Rattle.beginning.specs.Beginning.{graph}
use Rattle.witness.specs.Stands.{Stands, rest_of}
use Rattle.witness.proofs.witness_count.Given as goal

abbrev pub invariant-loop-count : goal.invariant-loop-count
invariant-loop-count l = record {
  in_time : l.stand.left ≤ l.t;
  stands : Stands (graph l.rows.bytes.now) l.stand;
  counted : l.count + length (rest_of (graph l.rows.bytes.now) l.stand) ≡ length (witness_of (graph l.rows.bytes.now) l.t);
}

abbrev pub decreases-loop-count : goal.decreases-loop-count
decreases-loop-count l = length (rest_of (graph l.rows.bytes.now) l.stand)
