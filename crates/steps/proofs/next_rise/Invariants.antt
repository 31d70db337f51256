use Prim.Native.Nat.{ℕ, ◌-◌, ◌≤◌, ◌<◌}
use mathlib.Core.Path.{◌≡◌}
use Rattle.steps.specs.Rising.{Rises}
use Rattle.tables.specs.Lines.{demand_in}
use Rattle.steps.proofs.next_rise.Given as goal

abbrev pub invariant-loop-interval : goal.invariant-loop-interval
invariant-loop-interval l = record {
  before : l.last ≡ demand_in l.rows l.cells (l.interval - 1);
  passed : (interval : ℕ) → l.from ≤ interval → interval < l.interval → Rises (demand_in l.rows l.cells) interval → ⊥;
}
