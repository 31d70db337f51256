-- `wrong_length` meets its contract: it reads the tag's line.
use Rattle.fields.proofs.Deciding.{judging}
use Rattle.rules.specs.Rules.{wrong_length}
use Rattle.rules.proofs.wrong_length.Goals as goal
use Rattle.rules.proofs.wrong_length.Goals.{then-size-line, else-size-line}

pub returns-then-line-size : goal.returns-then-line-size
unfolding wrong_length
returns-then-line-size c =
    rw (← c.line_of-line.ensures)
    (elim c.if-size-line.branch [ then-size-line w ↦ search judging | else-size-line w ↦ search judging ])

pub returns-then-line : goal.returns-then-line
unfolding wrong_length
returns-then-line c = rw (← c.line_of-line.ensures) (search judging)

pub returns-else-line : goal.returns-else-line
unfolding wrong_length
returns-else-line c = rw (← c.line_of-line.ensures) (search judging)
