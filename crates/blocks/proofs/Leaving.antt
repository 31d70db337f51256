-- What a job leaves of the amount of each line of a block, and the cell by amount that comes of the soonest time for it.
use mathlib.Core.Path.{◌≡◌}
use mathlib.Core.List.{List}
use Prim.Native.Nat.{ℕ, ◌+◌, ◌-◌, ◌^◌, ◌<◌}
use native.Mathlib.Omega.{arith}
use Rattle.meaning.specs.Cells.{amount_of}
use Rattle.meaning.specs.Computed.{cell_for, least_at}
use Rattle.meaning.proofs.ByAmount.{least_done}
use Rattle.fields.specs.declared.values.Row.{Row}
use Rattle.sheet.specs.Meaning.{gap_of}
use Rattle.sheet.specs.Proper.{ProperRow}
use Rattle.tables.specs.Amounts.{soonest_via}
use Rattle.tables.proofs.Amounts.{soonest_via_is}

-- a job that leaves something of a line's amount leaves as much more of each later one, so the soonest time for that is the later line's cell
pub left_done : (bytes : List ℕ) (n : ℕ) (row : Row) → ProperRow bytes n row → row.followers < 2 ^ 64 → (cells : List ℕ) (work line left i time : ℕ)
    → time ≡ soonest_via bytes cells row.followers row.gaps n (left + i) → left + work ≡ line
    → time ≡ least_at n work row.deadline.0 (gap_of bytes row) (cell_for n cells) (amount_of (line + i))
left_done bytes n row proper fits cells work line left i time e h =
    let amount = amount_of (line + i) in
    let same : left + i ≡ amount - work - 1 = omega arith in
    least_done n work row.deadline.0 (gap_of bytes row) (cell_for n cells) amount time (omega arith)
    (rw (e, same) (soonest_via_is bytes n row proper fits cells (amount - work)))
