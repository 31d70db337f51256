-- `fallback_at` meets its contract: the word that it reads is the definition's.
use Rattle.fields.proofs.Deciding.{yes, no}
use borrow.Author.Tests.{eq-eqb, ne_eqb}
use mathlib.Core.Path.{refl}
use Rattle.sheet.proofs.judging.fallback_at.Goals as goal

pub returns-then-field-eq-MODE : goal.returns-then-field-eq-MODE
returns-then-field-eq-MODE c = rw c.word_at.ensures (yes _ _ _ _ (eq-eqb _ _ c.if-field-eq-MODE.true) refl)

pub returns : goal.returns
returns c = rw c.word_at-2.ensures (no _ _ _ _ (ne_eqb _ _ c.if-field-eq-MODE.false) refl)
