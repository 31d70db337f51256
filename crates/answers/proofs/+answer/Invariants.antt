-- How often it can still call itself: once where it was not asked to answer in many cells.
use Rattle.std.proofs.Common.{cond}
use Rattle.answers.proofs.+answer.Given as goal

abbrev pub decreases-answer : goal.decreases-answer
decreases-answer g l = cond l.many 0 1
