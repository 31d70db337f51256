-- The cells of a sheet's row in a line, and in the lines of a block: right where the lines that they are calculated from are.
use mathlib.Core.Path.{◌≡◌, sym, ap, ap₂, ◌∙◌}
use mathlib.Core.List.{List}
use Prim.Native.Nat.{ℕ, ◌+◌, ◌-◌, ◌^◌, ◌≤◌, ◌<◌}
use native.Mathlib.Omega.{arith}
use Rattle.meaning.specs.Cells.{ByInterval, ByAmount, amount_of}
use Rattle.meaning.specs.Computed.{cell_at, cell_for, step_at, least_at, best_step, least_step}
use Rattle.meaning.specs.Demand.{longest_time}
use Rattle.meaning.proofs.Bounds.{best_fits}
use Rattle.meaning.proofs.ByInterval.{best_step_is}
use Rattle.meaning.proofs.ByAmount.{least_step_is}
use Rattle.fields.specs.declared.values.Row.{Row}
use Rattle.sheet.specs.Judging.{judged}
use Rattle.sheet.specs.Meaning.{row_of, gap_of, graph_of}
use Rattle.tables.specs.Adding.{cell_of}
use Rattle.tables.specs.Lines.{HasLines}
use Rattle.tables.specs.Seen.{row_in, work_in}
use Rattle.tables.specs.declared.rows.Rows.{Rows}
use Rattle.beginning.specs.Beginning.{graph}
use Rattle.filling.specs.Reaching.{row_reach}

module _ (rows : Rows) (k : ℕ) (h : k < rows.count) where
  in_sheet : k < (judged rows.bytes.now).sheet.tally.rows
  in_sheet = omega (arith, rows.laid.rows)

  -- no row reaches back into its own line, by interval nor by amount
  pub deadline_some : 1 ≤ (graph rows.bytes.now).deadline k
  unfolding graph_of
  deadline_some = rows.laid.ready.sound.deadline_positive k in_sheet

  pub length_some : 1 ≤ (graph rows.bytes.now).length k
  unfolding graph_of
  length_some = rows.laid.ready.sound.length_positive k in_sheet

  same_row : row_in rows k ≡ row_of (judged rows.bytes.now).sheet k
  same_row = sym (rows.laid.row k h)

  -- a row reaches back as far as the sheet's
  pub reach_is : (reach : ℕ → ℕ → ℕ) → reach (row_in rows k).deadline.0 (work_in rows k) ≡ row_reach reach rows.bytes.now k
  unfolding graph_of
  reach_is reach = ap₂ reach (ap (λ (row : Row). row.deadline.0) same_row) (rows.laid.length k h)

  -- a cell in the line s, where all that it reaches is in lines that the area has
  module _ (cells : List ℕ) (line s : ℕ) where
    -- the cell by interval
    abbrev best_in : ℕ
    best_in = cell_of rows.bytes.now cells (row_in rows k) (work_in rows k) rows.count s

    step_is : best_in ≡ best_step (graph rows.bytes.now) (cell_at rows.count cells) s k
    unfolding graph_of
    step_is =
        let g = graph rows.bytes.now in
        let table = cell_at rows.count cells in
        ap (λ (row : Row). step_at rows.count (work_in rows k) row.deadline.0 (gap_of rows.bytes.now row) table s) same_row
        ∙ ap (λ (work : ℕ). step_at rows.count work (g.deadline k) (g.gap k) table s) (rows.laid.length k h)
        ∙ ap (λ (n : ℕ). step_at n (g.length k) (g.deadline k) (g.gap k) table s) rows.laid.rows

    module _ (has : HasLines rows.count (ByInterval (graph rows.bytes.now)) cells line) (far : s < line + (graph rows.bytes.now).deadline k) where
      -- is right
      pub cell_right : ByInterval (graph rows.bytes.now) s k best_in
      unfolding graph_of
      cell_right =
          let g = graph rows.bytes.now in
          rw step_is
          (best_step_is g rows.laid.ready.sound (cell_at rows.count cells) s k in_sheet
          (λ j hj p q. has.right (s - g.gap k j) j (omega (arith, rows.laid.ready.sound.gap_at_least_deadline k j in_sheet hj p)) (omega (arith, rows.laid.rows))))

      -- and fits
      pub cell_fits : s ≤ longest_time → best_in < 2 ^ 32
      unfolding graph_of
      cell_fits most = best_fits (graph rows.bytes.now) rows.laid.ready.sound longest_time rows.laid.ready.lengths_most (omega arith) k s best_in most cell_right

    -- the cell by amount
    abbrev least_in : ℕ
    least_in = least_at rows.count (work_in rows k) (row_in rows k).deadline.0 (gap_of rows.bytes.now (row_in rows k)) (cell_for rows.count cells) (amount_of s)

    time_is : least_in ≡ least_step (graph rows.bytes.now) (cell_for rows.count cells) (amount_of s) k
    unfolding graph_of
    time_is =
        let g = graph rows.bytes.now in
        let table = cell_for rows.count cells in
        ap (λ (row : Row). least_at rows.count (work_in rows k) row.deadline.0 (gap_of rows.bytes.now row) table (amount_of s)) same_row
        ∙ ap (λ (work : ℕ). least_at rows.count work (g.deadline k) (g.gap k) table (amount_of s)) (rows.laid.length k h)
        ∙ ap (λ (n : ℕ). least_at n (g.length k) (g.deadline k) (g.gap k) table (amount_of s)) rows.laid.rows

    -- is right
    pub time_right : HasLines rows.count (ByAmount (graph rows.bytes.now)) cells line → s < line + (graph rows.bytes.now).length k
        → ByAmount (graph rows.bytes.now) s k least_in
    unfolding graph_of
    time_right has far =
        let g = graph rows.bytes.now in
        let some = length_some in
        rw time_is
        (least_step_is g rows.laid.ready.sound (cell_for rows.count cells) (amount_of s) k in_sheet
        (λ j hj p q.
        let back : ℕ = g.length k in
        let place : amount_of s - back - 1 ≡ s - back = omega (arith, some) in
        let amount : amount_of (s - back) ≡ amount_of s - back = omega (arith, some) in
        rw place (rw amount at (has.right (s - back) j (omega (arith, some)) (omega (arith, rows.laid.rows))))))
