-- What one follower gives in the table by amount, what the sooner of two gives, and that the soonest over the rows of the set is the soonest over all rows of the graph.
use mathlib.Core.Path.{◌≡◌, refl, sym, ap, ◌∙◌}
use mathlib.Core.Logic.{⊎_elim}
use mathlib.Core.List.{List}
use Prim.Native.Nat.{ℕ, ◌+◌, ◌-◌, ◌^◌, ◌≤◌, ◌<◌, min}
use native.Mathlib.Omega.{arith}
use Rattle.sets.specs.Sets.{bit}
use Rattle.sets.proofs.Bits.{bit_or, bit_zero_past}
use Rattle.sets.proofs.Folds.{fold_as_min}
use Rattle.meaning.specs.Graph.{Graph}
use Rattle.meaning.specs.Cells.{ByAmount}
use Rattle.meaning.specs.Computed.{cell_at, cell_for, min_below, time_or_none, via_least_at}
use Rattle.meaning.specs.Demand.{no_time, IsShortest}
use Rattle.meaning.proofs.Tests.{le_or}
use Rattle.meaning.proofs.Folds.{min_skip}
use Rattle.meaning.proofs.ByAmount.{time_or, via_least_is, via_least_none, shortest_is}
use Rattle.sheet.specs.Meaning.{gap_of}
use Rattle.sheet.specs.Proper.{ProperRow}
use Rattle.fields.specs.declared.values.Row.{Row}
use Rattle.tables.specs.Followers.{gap_to}
use Rattle.tables.specs.Lines.{HasLines}
use Rattle.tables.specs.Amounts.{soonest_via}
use Rattle.tables.proofs.Followers.{gap_of_follower, gap_of_other, gap_positive}

-- the sooner of two times is tried for being too long like each of them
pub sooner_or_none : (a b : ℕ) → time_or_none (min a b) ≡ min (time_or_none a) (time_or_none b)
sooner_or_none a b = grind (arith, time_or a, time_or b, time_or (min a b))

module _ (bytes : List ℕ) (n : ℕ) (row : Row) (proper : ProperRow bytes n row) (fits : row.followers < 2 ^ 64) (cells : List ℕ) (left : ℕ) where
  -- the time by way of row j
  via : ℕ → ℕ
  via = via_least_at (gap_of bytes row) (cell_for n cells) left

  via_follower : (j : ℕ) → bit row.followers j ≡ 1 → via j ≡ time_or_none (gap_to bytes row.followers row.gaps j + cell_at n cells (left - 1) j)
  unfolding via
  via_follower j e =
      let same : gap_of bytes row j ≡ gap_to bytes row.followers row.gaps j = gap_of_follower bytes row j e in
      via_least_is (gap_of bytes row) (cell_for n cells) left j (rw same (gap_positive bytes n row proper fits j e))
      ∙ ap (λ (x : ℕ). time_or_none (x + cell_at n cells (left - 1) j)) same

  via_other : (j : ℕ) → bit row.followers j ≡ 0 → via j ≡ no_time
  unfolding via
  via_other j e = via_least_none (gap_of bytes row) (cell_for n cells) left j (omega (arith, gap_of_other bytes row j e))

  -- no row past n gives a time, and none past the width of the set
  via_past_rows : (j : ℕ) → n ≤ j → via j ≡ no_time
  via_past_rows j l = ⊎_elim (via_other j) (λ e. absurd (omega (arith, proper.followers_exist j e))) (bit_or row.followers j)

  via_past_set : (j : ℕ) → 64 ≤ j → via j ≡ no_time
  via_past_set j l = via_other j (bit_zero_past 64 row.followers j fits l)

  -- the soonest over the set is the soonest over all rows
  pub soonest_via_is : soonest_via bytes cells row.followers row.gaps n (left - 1) ≡ min_below n no_time (via_least_at (gap_of bytes row) (cell_for n cells) left)
  unfolding soonest_via via
  soonest_via_is =
      fold_as_min
      no_time
      row.followers
      (λ j. time_or_none (gap_to bytes row.followers row.gaps j + cell_at n cells (left - 1) j))
      via
      (λ m. min_below m no_time via)
      refl
      (λ j. refl)
      via_follower
      (λ j e. omega (arith, via_other j e))
      64
      ∙ ⊎_elim
      (λ l. min_skip no_time via n 64 l.0 (λ m a _. via_past_rows m a))
      (λ l. sym (min_skip no_time via 64 n (omega (arith, l.0)) (λ m a _. via_past_set m a)))
      (le_or n 64)

-- the shortest interval for an amount is the smallest cell of its line
pub line_shortest : (g : Graph) (cells : List ℕ) (lines : ℕ) → HasLines g.rows (ByAmount g) cells lines → (amount : ℕ) → 1 ≤ amount → amount ≤ lines
    → IsShortest g amount (min_below g.rows no_time (cell_for g.rows cells amount))
line_shortest g cells lines table amount some most =
    let same : amount - 1 + 1 ≡ amount = omega arith in
    shortest_is g amount (cell_for g.rows cells amount) (λ k h. rw same at (table.right (amount - 1) k (omega arith) h))
