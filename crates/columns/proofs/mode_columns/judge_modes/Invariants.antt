use Rattle.written.specs.Lent.{modes_lent}
use Rattle.written.proofs.EntriesFrom.{modes_from}
use Rattle.columns.proofs.Onward.{Onward}
use Rattle.columns.proofs.mode_columns.judge_modes.Given as goal

abbrev pub invariant-loop-at : goal.invariant-loop-at
invariant-loop-at l = Onward l.initial.so_far (modes_lent l.modes) l.so_far (modes_from l.modes.boundaries.now l.modes.lengths.now l.modes.fallbacks.now l.at)
