-- `jitter_at` meets its contract: 0, or the word that the definition reads.
use Rattle.fields.proofs.Deciding.{yes, no}
use borrow.Author.Tests.{eq-eqb, ne_eqb}
use mathlib.Core.Path.{refl}
use Rattle.sheet.proofs.judging.jitter_at.Goals as goal

pub returns-then-field-eq-TASK : goal.returns-then-field-eq-TASK
returns-then-field-eq-TASK c = yes _ _ _ _ (eq-eqb _ _ c.if-field-eq-TASK.true) refl

pub returns : goal.returns
returns c = rw c.word_at.ensures (no _ _ _ _ (ne_eqb _ _ c.if-field-eq-TASK.false) refl)
