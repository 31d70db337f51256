-- `put_rows` meets its contract: each turn writes the row of its number, with the gaps behind those of the rows before, behind those rows.
use Rattle.std.proofs.Common.{ap, arith, ◌+◌, ℕ}
use Rattle.putting.proofs.Standing.{next_room, next_standing, all_standing}
use Rattle.putting.proofs.UnbrokenColumns.{row_there, gaps_there, row_first, rows_over}
use Rattle.putting.proofs.kinds.put_rows.Goals as goal

pub bounds-rows-number : goal.bounds-rows-number
bounds-rows-number c = (row_there c.args.rows _ _ c.loop-number.invariant.standing.unbroken c.loop-number-test.true).1

pub offset_bounds-rows-number : goal.offset_bounds-rows-number
offset_bounds-rows-number c = omega (arith, row_there c.args.rows _ _ c.loop-number.invariant.standing.unbroken c.loop-number-test.true)

pub bounds-rows-number-in-loop-number-2 : goal.bounds-rows-number-in-loop-number-2
bounds-rows-number-in-loop-number-2 c = (row_there c.args.rows _ _ c.loop-number.invariant.standing.unbroken c.loop-number-test.true).0

pub slice_bounds-put_row-end-in-loop-number : goal.slice_bounds-put_row-end-in-loop-number
slice_bounds-put_row-end-in-loop-number c =
    let i = c.loop-number.invariant in
    omega (arith, gaps_there c.args.rows _ _ i.standing.unbroken i.inside c.loop-number-test.true, c.size.ensures.value)

pub put_row-at-requires-clause-room : goal.put_row-at-requires-clause-room
put_row-at-requires-clause-room c =
    let i = c.loop-number.invariant in
    let first = row_first c.args.rows _ _ i.standing.unbroken _ (ap (λ (n : ℕ). c.loop-number.from + n) c.size.ensures.value) i.inside c.loop-number-test.true in
    next_room i.standing first c.loop-number.auto.out c.requires.room

pub loop-number-preserved : goal.loop-number-preserved
loop-number-preserved c =
    let i = c.loop-number.invariant in
    let call = c.put_row-at in
    let first = row_first c.args.rows _ _ i.standing.unbroken _ (ap (λ (n : ℕ). c.loop-number.from + n) c.size.ensures.value) i.inside c.loop-number-test.true in
    record {
      inside = omega (arith, gaps_there c.args.rows _ _ i.standing.unbroken i.inside c.loop-number-test.true, c.size.ensures.value);
      standing = next_standing i.standing first call.result call.new.out call.ensures.size call.ensures.put;
    }

pub returns : goal.returns
returns c =
    let i = c.loop-number.invariant in
    let all = all_standing i.standing (rows_over c.args.rows _ _ i.standing.unbroken c.loop-number-test.false) in
    record { size = all.far; put = all.put }
