-- `sets::below_row` meets its contract: the low part of the set has the rows below a row and no other, and from row 64 on these are all rows of the set.
use borrow.Author.Rules.{rules}
use mathlib.Core.Path.{sym, ◌∙◌}
use Rattle.sets.proofs.Counts.{below_past, mask_pos, below_low}
use Rattle.sets.proofs.below_row.Goals as goal

pub returns-then-row-ge-WIDTH : goal.returns-then-row-ge-WIDTH
returns-then-row-ge-WIDTH c =
    let all = c.size.ensures in
    record { value = all.value ∙ sym (below_past 64 c.args.set c.args.row (search rules) c.if-row-ge-WIDTH.true); upper_bound = all.upper_bound }

pub returns : goal.returns
returns c =
    let low = c.size-2.ensures in
    record { value = low.value ∙ below_low 64 c.args.set c.args.row (search rules) (search rules); upper_bound = low.upper_bound }

pub nonzero_rem-set : goal.nonzero_rem-set
nonzero_rem-set c = mask_pos 64 c.args.set c.args.row (search rules) (search rules)
