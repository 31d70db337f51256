-- `keep_place` meets its contract: the place of a row is stored, and for another field nothing is.
use Rattle.fields.proofs.Deciding.{yes, no}
use Rattle.sheet.proofs.Outlining.{told_row}
use mathlib.Core.Path.{refl}
use Rattle.sheet.proofs.judging.keep_place.Goals as goal

pub returns-then-eq : goal.returns-then-eq
returns-then-eq c = yes _ _ _ _ (told_row _ _ _ c.eq.ensures c.if-eq.true) refl

pub returns-else-eq : goal.returns-else-eq
returns-else-eq c = no _ _ _ _ (told_row _ _ _ c.eq.ensures c.if-eq.false) refl
