-- The start of a witness of a sheet, and a step of it.
use mathlib.Core.Path.{◌≡◌, sym, ap}
use mathlib.Core.List.{List}
use Prim.Native.Nat.{ℕ, ◌+◌, ◌≤◌, ◌<◌}
use native.Mathlib.Omega.{arith}
use lib.ListN.{length}
use Rattle.meaning.specs.Cells.{ByInterval}
use Rattle.meaning.specs.Computed.{witness_of}
use Rattle.meaning.proofs.Bounds.{witness_at_most}
use Rattle.meaning.proofs.Existence.{witness_of_lem}
use Rattle.fields.specs.Limits.{row_limit}
use Rattle.sheet.specs.Meaning.{gap_of, graph_of}
use Rattle.tables.specs.Lines.{HasLines}
use Rattle.tables.specs.Seen.{row_in, work_in}
use Rattle.tables.specs.declared.rows.Rows.{Rows}
use Rattle.beginning.specs.Beginning.{graph}
use Rattle.witness.specs.Stands.{Passed, Stands, start_of, onward_of, rest_of}
use Rattle.witness.specs.declared.Stand.{Stand}
use Rattle.witness.proofs.Witnesses.{start_rest, start_stands, passed_last, passed_found, passed_more}

module _ (rows : Rows) where
  -- the graph has as many rows as a line has cells
  same_rows : rows.count ≡ (graph rows.bytes.now).rows
  unfolding graph_of
  same_rows = rows.laid.rows

  -- and no more than the arrays
  pub graph_few : (graph rows.bytes.now).rows ≤ row_limit
  graph_few = omega (arith, same_rows, rows.laid.rows, rows.laid.ready.proper.rows_most)

  -- at the start all of the time is left, and all of the witness is to come
  pub starts : (cells : List ℕ) (t : ℕ) → HasLines rows.count (ByInterval (graph rows.bytes.now)) cells (t + 1) → (stand : Stand) → stand ≡ start_of rows.count cells t
      → (stand.left ≤ t) × Stands (graph rows.bytes.now) stand × (rest_of (graph rows.bytes.now) stand ≡ witness_of (graph rows.bytes.now) t)
  unfolding start_of
  starts cells t table stand e =
      let g = graph rows.bytes.now in
      let lines = rw same_rows at table in
      rw (e, same_rows) (omega arith, start_stands g rows.laid.ready.sound cells t lines, start_rest g rows.laid.ready.sound cells t lines)

  -- a witness has no more rows than its time has ticks
  pub witness_few : (t : ℕ) → length (witness_of (graph rows.bytes.now) t) ≤ t
  witness_few t = witness_at_most (graph rows.bytes.now) rows.laid.ready.sound t _ (witness_of_lem (graph rows.bytes.now) rows.laid.ready.sound t)

  module _ (cells : List ℕ) (stand : Stand) (table : HasLines rows.count (ByInterval (graph rows.bytes.now)) cells (stand.left + 1))
      (stands : Stands (graph rows.bytes.now) stand) (some : 0 < stand.work) where
    lines : HasLines (graph rows.bytes.now).rows (ByInterval (graph rows.bytes.now)) cells (stand.left + 1)
    lines = rw same_rows at table

    -- the row where it stands is one of the sheet's
    pub step_row : stand.row < rows.count
    step_row = omega (arith, stands.row_in some, same_rows)

    -- and one that the arrays have
    pub step_few : stand.row < row_limit
    step_few = omega (arith, step_row, same_rows, graph_few)

    own_is : work_in rows stand.row ≡ (graph rows.bytes.now).length stand.row
    unfolding graph_of
    own_is = rows.laid.length stand.row step_row

    gaps_are : gap_of rows.bytes.now (row_in rows stand.row) ≡ (graph rows.bytes.now).gap stand.row
    unfolding graph_of
    gaps_are = ap (gap_of rows.bytes.now) (sym (rows.laid.row stand.row step_row))

    -- the step goes on as the graph has it
    onward_is : onward_of (gap_of rows.bytes.now (row_in rows stand.row)) cells (work_in rows stand.row) rows.count stand
        ≡ onward_of ((graph rows.bytes.now).gap stand.row) cells ((graph rows.bytes.now).length stand.row) (graph rows.bytes.now).rows stand
    onward_is = rw (gaps_are, own_is, same_rows)

    -- where the work left is the row's own, it is the last
    pub step_last : stand.work ≤ work_in rows stand.row → Passed (graph rows.bytes.now) stand stand.row record { row = stand.row; left = stand.left; work = 0 }
    step_last l = passed_last (graph rows.bytes.now) rows.laid.ready.sound cells stand lines stands some (omega (arith, own_is))

    -- where it is more, the witness goes on to a row of the sheet
    pub step_found : work_in rows stand.row < stand.work
        → (onward_of (gap_of rows.bytes.now (row_in rows stand.row)) cells (work_in rows stand.row) rows.count stand).row < rows.count
    step_found l =
        let found = passed_found (graph rows.bytes.now) rows.laid.ready.sound cells stand lines stands some (omega (arith, own_is)) in
        omega (arith, ap (λ (next : Stand). next.row) onward_is, found, same_rows)

    pub step_more : work_in rows stand.row < stand.work
        → Passed (graph rows.bytes.now) stand stand.row (onward_of (gap_of rows.bytes.now (row_in rows stand.row)) cells (work_in rows stand.row) rows.count stand)
    step_more l = rw onward_is (passed_more (graph rows.bytes.now) rows.laid.ready.sound cells stand lines stands some (omega (arith, own_is)))
