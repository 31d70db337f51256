-- `judge_rows` meets its contract. The rows that are left, with the gaps that are left, decide as all of them do.
use Prim.Native.Nat.{ℕ, ◌+◌, ◌<◌, min}
use native.Mathlib.Nat.{sub-zero}
use native.Mathlib.Omega.{arith}
use mathlib.Core.List.{List, ◌∷◌}
use mathlib.Core.Path.{◌≡◌, ◌∙◌, sym}
use borrow.Author.Tests.{eqb-true, eqb-false}
use lib.ListN.{length, get_or, take, drop}
use Rattle.std.proofs.lemmas.Result.{err_from_is_err_and}
use Rattle.rules.specs.Rules.{follower_count}
use Rattle.written.specs.Judging.{count_entry}
use Rattle.written.specs.Values.{RowEntry}
use Rattle.written.proofs.EntriesFrom.{rows_from, rows_next, rows_end, rows_part}
use Rattle.written.proofs.EntriesKept.{entry_kept, row_says}
use Rattle.columns.proofs.Onward.{onward_next, onward_stop, onward_end}
use Rattle.columns.proofs.rows.judge_rows.Goals as goal
use Rattle.columns.proofs.rows.judge_rows.Goals.{then-rows-count-via-then-rows-count, then-rows-count-via-else-rows-count+then-rows-count-2, then-rows-count-via-else-rows-count+else-rows-count-2+then-not-is_empty}

-- the next row has the gaps that are split off, and those behind it have the others
split : (speeds deadlines sets left gaps others : List ℕ) (at n : ℕ) → at < length speeds → at < length deadlines → at < length sets
    → n ≡ min (follower_count (get_or sets at 0)) (length left) → gaps ≡ take n left → others ≡ drop n left
    → rows_from speeds deadlines sets left at 0
    ≡ RowEntry (record { 0 = get_or speeds at 0 }) (record { 0 = get_or deadlines at 0 }) (get_or sets at 0) gaps ∷ rows_from speeds deadlines sets others (at + 1) 0
split speeds deadlines sets left gaps others at n more-speeds more-deadlines more-sets many front back =
    rw (front, back) (rw sub-zero at (rows_next speeds deadlines sets left at 0 n more-speeds more-deadlines more-sets (omega arith)))

pub returns-in_err-judge_one_row : goal.returns-in_err-judge_one_row
returns-in_err-judge_one_row c =
    let l = c.loop-at in
    let r = c.args.rows in
    let parts = c.split_at.ensures in
    let next =
    split r.speeds.now r.deadlines.now r.sets.now l.left.now c.split_at.result.0.now c.split_at.result.1.now l.at c.min-in-loop-at.result (omega arith) (omega arith) (omega arith)
    (omega (arith, c.min-in-loop-at.ensures, c.size.ensures.value)) parts.front parts.back in
    let told = err_from_is_err_and c.from_residual.result c.from_residual.ensures.1 in
    rw (told.1, told.2) (onward_stop _ _ _ _ _ (rw next at l.invariant) _ c.in_err-judge_one_row.ensures)

pub count_row-so_far-requires : goal.count_row-so_far-requires
count_row-so_far-requires c = (row_says _ _ _ _ _ (entry_kept _ _ (sym c.in_ok-judge_one_row.ensures))).2

pub loop-at-preserved : goal.loop-at-preserved
unfolding count_entry
loop-at-preserved c =
    let l = c.loop-at in
    let r = c.args.rows in
    let parts = c.split_at.ensures in
    let next =
    split r.speeds.now r.deadlines.now r.sets.now l.left.now c.split_at.result.0.now c.split_at.result.1.now l.at c.min-in-loop-at.result (omega arith) (omega arith) (omega arith)
    (omega (arith, c.min-in-loop-at.ensures, c.size.ensures.value)) parts.front parts.back in
    rw c.count_row-so_far.ensures (onward_next _ _ _ _ _ (rw next at l.invariant) c.in_ok-judge_one_row.ensures)

pub returns-then-rows-count : goal.returns-then-rows-count
returns-then-rows-count c =
    let l = c.loop-at in
    let r = c.args.rows in
    let parted =
    rows_part r.speeds.now r.deadlines.now r.sets.now l.left.now l.at 0 (omega arith)
    (λ no-speed no-deadline no-set no_gap. elim c.then-rows-count.branch [
      | then-rows-count-via-then-rows-count w ↦ omega arith
      | then-rows-count-via-else-rows-count+then-rows-count-2 w ↦ omega arith
      | then-rows-count-via-else-rows-count+else-rows-count-2+then-not-is_empty w ↦ omega (arith, eqb-false _ _ (sym w.is_empty.ensures ∙ w.if-not-is_empty.true))
    ]) in
    c.cut.ensures ∙ sym (rw parted at l.invariant)

pub returns : goal.returns
returns c =
    let l = c.loop-at in
    let r = c.args.rows in
    let none : length l.left.now ≡ 0 = eqb-true _ _ (sym c.is_empty.ensures ∙ c.if-not-is_empty.false) in
    let over = rows_end r.speeds.now r.deadlines.now r.sets.now l.left.now l.at 0 (omega arith) (omega arith) (omega arith) (omega arith) in
    onward_end _ _ _ (rw over at l.invariant)
