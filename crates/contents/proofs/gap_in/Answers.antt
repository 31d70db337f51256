-- `gap_in` meets its contract.
use mathlib.Core.Path.{refl}
use Rattle.fields.proofs.Deciding.{yes, no, told}
use Rattle.contents.proofs.gap_in.Goals as goal

pub returns-then-follows : goal.returns-then-follows
returns-then-follows c =
    yes _ _ _ _ (told _ _ _ c.follows.ensures c.if-follows.true) (rw (← c.below_row.ensures.value) c.word_at.ensures)

pub returns : goal.returns
returns c = no _ _ _ _ (told _ _ _ c.follows.ensures c.if-follows.false) refl
