-- `judge_row_in_file` meets its contract: two looks at the gaps answer what the rules ask of them.
use Rattle.sheet.specs.Content.{row_gap_rules}
use Rattle.sheet.proofs.judging.judge_row_in_file.Goals as goal

pub returns : goal.returns
unfolding row_gap_rules
returns c = rw (← c.size-gaps.ensures.value, ← c.gap_shorter-zero_gap.ensures, ← c.gap_shorter-short_gap.ensures) c.judge_row.ensures
