-- `judge_modes` meets its contract. The modes that are left decide as all of them do.
use native.Mathlib.Omega.{arith}
use mathlib.Core.Path.{◌∙◌, sym}
use Rattle.std.proofs.lemmas.Result.{err_from_is_err_and}
use Rattle.written.specs.Judging.{count_entry}
use Rattle.written.proofs.EntriesFrom.{modes_next, modes_end, modes_part}
use Rattle.written.proofs.EntriesKept.{entry_kept, mode_says}
use Rattle.columns.proofs.Onward.{onward_next, onward_stop, onward_end}
use Rattle.columns.proofs.mode_columns.judge_modes.Goals as goal
use Rattle.columns.proofs.mode_columns.judge_modes.Goals.{then-modes-count-via-then-modes-count, then-modes-count-via-else-modes-count+then-modes-count-2}

pub returns-in_err-judge_one_mode : goal.returns-in_err-judge_one_mode
returns-in_err-judge_one_mode c =
    let l = c.loop-at in
    let m = c.args.modes in
    let next = modes_next m.boundaries.now m.lengths.now m.fallbacks.now l.at (omega arith) (omega arith) (omega arith) in
    let told = err_from_is_err_and c.from_residual.result c.from_residual.ensures.1 in
    rw (told.1, told.2) (onward_stop _ _ _ _ _ (rw next at l.invariant) _ c.in_err-judge_one_mode.ensures)

pub count_mode-so_far-requires : goal.count_mode-so_far-requires
count_mode-so_far-requires c = mode_says _ _ (entry_kept _ _ (sym c.in_ok-judge_one_mode.ensures))

pub loop-at-preserved : goal.loop-at-preserved
unfolding count_entry
loop-at-preserved c =
    let l = c.loop-at in
    let m = c.args.modes in
    let next = modes_next m.boundaries.now m.lengths.now m.fallbacks.now l.at (omega arith) (omega arith) (omega arith) in
    rw c.count_mode-so_far.ensures (onward_next _ _ _ _ _ (rw next at l.invariant) c.in_ok-judge_one_mode.ensures)

pub returns-then-modes-count : goal.returns-then-modes-count
returns-then-modes-count c =
    let l = c.loop-at in
    let m = c.args.modes in
    let parted =
    modes_part m.boundaries.now m.lengths.now m.fallbacks.now l.at (λ one other last. omega arith)
    (λ one other last. elim c.then-modes-count.branch [
      | then-modes-count-via-then-modes-count w ↦ omega arith
      | then-modes-count-via-else-modes-count+then-modes-count-2 w ↦ omega arith
    ]) in
    c.cut.ensures ∙ sym (rw parted at l.invariant)

pub returns : goal.returns
returns c =
    let l = c.loop-at in
    let m = c.args.modes in
    let over = modes_end m.boundaries.now m.lengths.now m.fallbacks.now l.at (omega arith) (omega arith) (omega arith) in
    onward_end _ _ _ (rw over at l.invariant)
