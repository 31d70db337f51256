-- What one follower adds, and that the most over the rows of the set is the most over all rows of the graph.
use mathlib.Core.Path.{◌≡◌, refl, sym, ap, ◌∙◌}
use mathlib.Core.Logic.{⊎_elim}
use mathlib.Core.List.{List}
use Prim.Native.Nat.{ℕ, ◌-◌, ◌^◌, ◌≤◌, ◌<◌}
use native.Mathlib.Omega.{arith}
use borrow.Author.Tests.{le-leb, lt-leb}
use Rattle.sets.specs.Sets.{bit}
use Rattle.sets.proofs.Bits.{bit_or, bit_zero_past}
use Rattle.sets.proofs.Folds.{fold_as_max}
use Rattle.meaning.specs.Computed.{cell_at, max_below, via_at}
use Rattle.meaning.proofs.Tests.{le_or}
use Rattle.meaning.proofs.Folds.{max_skip}
use Rattle.meaning.proofs.ByInterval.{via_take, via_late, via_none}
use Rattle.sheet.specs.Meaning.{gap_of}
use Rattle.sheet.specs.Proper.{ProperRow}
use Rattle.fields.specs.declared.values.Row.{Row}
use Rattle.tables.specs.Followers.{gap_to}
use Rattle.tables.specs.Adding.{added_at, most_added}
use Rattle.tables.proofs.Followers.{gap_of_follower, gap_of_other, gap_positive}

module _ (n : ℕ) (cells : List ℕ) (s gap j : ℕ) where
  -- a gap that is too long leaves nothing
  pub added_late : s < gap → 0 ≡ added_at n cells s gap j
  unfolding added_at
  added_late h = rw (lt-leb gap s h)

  -- another leaves the cell
  pub added_cell : gap ≤ s → cell_at n cells (s - gap) j ≡ added_at n cells s gap j
  unfolding added_at
  added_cell h = rw (le-leb gap s h)

module _ (bytes : List ℕ) (n : ℕ) (row : Row) (proper : ProperRow bytes n row) (fits : row.followers < 2 ^ 64) (cells : List ℕ) (s : ℕ) where
  -- what row j adds
  abbrev pub via : ℕ → ℕ
  via = via_at (gap_of bytes row) (cell_at n cells) s

  pub via_follower : (j : ℕ) → bit row.followers j ≡ 1 → via j ≡ added_at n cells s (gap_to bytes row.followers row.gaps j) j
  via_follower j e =
      let gap = gap_to bytes row.followers row.gaps j in
      let same : gap_of bytes row j ≡ gap = gap_of_follower bytes row j e in
      let positive : 0 < gap_of bytes row j = rw same (gap_positive bytes n row proper fits j e) in
      ⊎_elim
      (λ l. via_take (gap_of bytes row) (cell_at n cells) s j positive (rw same l.0) ∙ ap (λ (x : ℕ). cell_at n cells (s - x) j) same ∙ added_cell n cells s gap j l.0)
      (λ l. via_late (gap_of bytes row) (cell_at n cells) s j (rw same l.0) ∙ added_late n cells s gap j l.0)
      (le_or gap s)

  pub via_other : (j : ℕ) → bit row.followers j ≡ 0 → via j ≡ 0
  via_other j e = via_none (gap_of bytes row) (cell_at n cells) s j (omega (arith, gap_of_other bytes row j e))

  -- no row past n adds anything, and none past the width of the set
  via_past_rows : (j : ℕ) → n ≤ j → via j ≡ 0
  via_past_rows j l = ⊎_elim (via_other j) (λ e. absurd (omega (arith, proper.followers_exist j e))) (bit_or row.followers j)

  via_past_set : (j : ℕ) → 64 ≤ j → via j ≡ 0
  via_past_set j l = via_other j (bit_zero_past 64 row.followers j fits l)

  -- the most over the set is the most over all rows
  pub most_added_is : most_added bytes cells row.followers row.gaps n s ≡ max_below n (via_at (gap_of bytes row) (cell_at n cells) s)
  unfolding most_added
  most_added_is =
      fold_as_max
      row.followers
      (λ j. added_at n cells s (gap_to bytes row.followers row.gaps j) j)
      via
      (λ m. max_below m via)
      refl
      (λ j. refl)
      via_follower
      via_other
      64
      ∙ ⊎_elim
      (λ l. max_skip via n 64 l.0 (λ m a _. via_past_rows m a))
      (λ l. sym (max_skip via 64 n (omega (arith, l.0)) (λ m a _. via_past_set m a)))
      (le_or n 64)
