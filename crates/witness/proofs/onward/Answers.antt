-- `onward` meets its contract. The row that leads on adds some work, so that it is a follower and its gap fits.
use mathlib.Core.Path.{◌≡◌}
use mathlib.Core.List.{List}
use Prim.Native.Nat.{ℕ, ◌+◌, ◌-◌, ◌*◌, ◌^◌, ◌≤◌, ◌<◌}
use native.Mathlib.Omega.{arith}
use lib.ListN.{length}
use Rattle.sets.specs.Sets.{below}
use Rattle.meaning.specs.Computed.{seek, cell_at}
use Rattle.fields.specs.Limits.{gap_size}
use Rattle.fields.specs.Reading.{ticks_at}
use Rattle.fields.specs.declared.units.Ticks.{Ticks}
use Rattle.fields.specs.declared.values.Row.{Row}
use Rattle.sheet.specs.Meaning.{gap_of}
use Rattle.sheet.specs.Proper.{ProperRow}
use Rattle.tables.specs.Seen.{row_in, work_in}
use Rattle.tables.specs.declared.rows.Rows.{Rows}
use Rattle.tables.proofs.Seen.{seen_proper}
use Rattle.witness.specs.Stands.{leads, onward_of}
use Rattle.witness.specs.declared.Stand.{Stand}
use Rattle.witness.proofs.Leading.{lead_inside, lead_gap, lead_fits}
use Rattle.witness.proofs.onward.Goals as goal

-- what the goals need of the row that was read, and of the row that was found
module _ (rows : Rows) (stand : Stand) (cells : List ℕ) (counted : stand.row < rows.count) (less : work_in rows stand.row < stand.work)
    (goes : (onward_of (gap_of rows.bytes.now (row_in rows stand.row)) cells (work_in rows stand.row) rows.count stand).row < rows.count)
    (row : Row) (is : row ≡ row_in rows stand.row) (fits : row.followers < 2 ^ 64)
    (next : ℕ) (found : next ≡ seek rows.count 0 (leads (gap_of rows.bytes.now row) (cell_at rows.count cells) stand.left (stand.work - work_in rows stand.row)))
    (before : ℕ) (count : before ≡ below row.followers next) where
  proper : ProperRow rows.bytes.now rows.count row
  proper = rw is (seen_proper rows stand.row counted)

  within : next < rows.count
  unfolding onward_of
  within = rw (found, is) goes

  inside : row.gaps + gap_size * before + 1 < length rows.bytes.now
  inside = rw count (lead_inside rows.bytes.now rows.count row proper fits cells stand.left _ (omega arith) next within found)

  module _ (gap : Ticks) (at : gap ≡ ticks_at rows.bytes.now (row.gaps + gap_size * before)) where
    gap_is : gap.0 ≡ gap_of rows.bytes.now row next
    gap_is = rw (at, count) (lead_gap rows.bytes.now rows.count row proper fits cells stand.left _ (omega arith) next within found)

    gap_fits : gap.0 ≤ stand.left
    gap_fits = rw gap_is (lead_fits rows.bytes.now rows.count row proper fits cells stand.left _ (omega arith) next within found)

    same : record { row = next; left = stand.left - gap.0; work = stand.work - work_in rows stand.row }
        ≡ onward_of (gap_of rows.bytes.now (row_in rows stand.row)) cells (work_in rows stand.row) rows.count stand
    unfolding onward_of
    same = rw (gap_is, found, is)

pub gap_at-gap-requires : goal.gap_at-gap-requires
gap_at-gap-requires c =
    inside c.args.rows.now c.args.stand c.args.cells.now c.requires.counted c.requires.work_left c.requires.goes_on c.row-row.result c.row-row.ensures
    (omega (arith, c.row-row.type_inv)) c.next_row-next.result c.next_row-next.ensures _ c.below_row.ensures.value

pub overflow_sub-result : goal.overflow_sub-result
overflow_sub-result c =
    gap_fits c.args.rows.now c.args.stand c.args.cells.now c.requires.counted c.requires.work_left c.requires.goes_on c.row-row.result c.row-row.ensures
    (omega (arith, c.row-row.type_inv)) c.next_row-next.result c.next_row-next.ensures _ c.below_row.ensures.value _ c.gap_at-gap.ensures

pub returns : goal.returns
returns c =
    same c.args.rows.now c.args.stand c.args.cells.now c.requires.counted c.requires.work_left c.requires.goes_on c.row-row.result c.row-row.ensures
    (omega (arith, c.row-row.type_inv)) c.next_row-next.result c.next_row-next.ensures _ c.below_row.ensures.value _ c.gap_at-gap.ensures
