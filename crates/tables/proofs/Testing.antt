-- The test of an interval by the lines of a table is right.
use mathlib.Core.Path.{sym, subst, ◌∙◌}
use mathlib.Core.Logic.{⊎_elim, inl, inr}
use mathlib.Core.Bool.{false≢true}
use mathlib.Core.List.{List}
use Prim.Native.Nat.{ℕ, suc, ◌+◌, ◌-◌, ◌≤◌}
use native.Mathlib.Numerals.{add-one}
use native.Mathlib.Omega.{arith}
use borrow.Author.Tests.{ltb-true, ltb-false, leb-true, leb-false, lt-ltb, le-ltb}
use Rattle.meaning.specs.Graph.{Graph, Sound}
use Rattle.meaning.specs.Cells.{ByInterval, ByAmount}
use Rattle.meaning.specs.Computed.{cell_for, min_below, demand_of}
use Rattle.meaning.specs.Demand.{longest_time, no_time, IsShortest}
use Rattle.meaning.specs.Fixed.{Task, fixed_sum}
use Rattle.meaning.proofs.Existence.{demand_of_lem}
use Rattle.meaning.proofs.Margins.{meets, overruns, meets_by_amount, overruns_by_amount}
use Rattle.meaning.proofs.Tests.{lt_or}
use Rattle.tables.specs.Lines.{HasLines}
use Rattle.tables.specs.Testing.{over_at, reached_at, Decides, IsTest}
use Rattle.tables.proofs.Amounts.{line_shortest}
use Rattle.tables.proofs.Lines.{line_demand}

module _ (g : Graph) (sound : Sound g) (tasks : List Task) (cells : List ℕ) (horizon : ℕ) where
  -- demand and fixed demand together are more than the interval, or they are not
  by_interval : HasLines g.rows (ByInterval g) cells (horizon + 1) → Decides g tasks horizon (over_at g.rows cells)
  by_interval lines t h =
      let demand = line_demand g sound cells (horizon + 1) lines t (omega arith) in (
        (λ e. overruns g tasks t _ demand (ltb-true t _ e)),
        (λ e. meets g tasks t _ demand (ltb-false t _ e)),
      )

  -- what fixed demand leaves of the interval and one more is reached by then, or it is not
  by_amount : horizon ≤ longest_time → HasLines g.rows (ByAmount g) cells (horizon + 1) → Decides g tasks horizon (reached_at g.rows cells)
  by_amount short lines t h =
      let f : ℕ = fixed_sum tasks t in
      let x : ℕ = min_below g.rows no_time (cell_for g.rows cells (t - f + 1)) in
      let shortest : IsShortest g (suc (t - f)) x =
      subst (λ (a : ℕ). IsShortest g a x) (add-one (t - f)) (line_shortest g cells (horizon + 1) lines (t - f + 1) (omega arith) (omega arith)) in
      let over = overruns_by_amount g tasks t (demand_of g t) (demand_of_lem g sound t) x (omega arith) shortest in
      let met = meets_by_amount g tasks t (demand_of g t) (demand_of_lem g sound t) x (omega arith) shortest in (
        (λ e. ⊎_elim (λ l. over.1 (inl l)) (λ l. over.1 (inr (leb-true x t (rw (le-ltb t f l) at e)))) (lt_or t f)),
        (λ e. ⊎_elim (λ l. absurd (false≢true (sym e ∙ rw (lt-ltb t f l)))) (λ l. met.1 (l, leb-false x t (rw (le-ltb t f l) at e))) (lt_or t f)),
      )

-- so each table has its test
pub interval_decides : IsTest ByInterval over_at
interval_decides g sound n is tasks cells horizon short = rw (← is) (by_interval g sound tasks cells horizon)

pub amount_decides : IsTest ByAmount reached_at
amount_decides g sound n is tasks cells horizon short = rw (← is) (by_amount g sound tasks cells horizon short)
