-- `length_in` meets its contract: up to the fall-back the mode's own length, above it the larger of two.
use Rattle.fields.proofs.Deciding.{yes, no, told_upto}
use Rattle.modes.proofs.Larger.{larger}
use Rattle.modes.specs.Modes.{length_in}
use mathlib.Core.Path.{◌∙◌, refl}
use Rattle.modes.proofs.length_in.Goals as goal

pub returns-then-le : goal.returns-then-le
unfolding length_in
returns-then-le c = yes _ _ _ _ (told_upto _ _ _ _ c.le.ensures c.if-le.true) refl

pub returns : goal.returns
unfolding length_in
returns c = no _ _ _ _ (told_upto _ _ _ _ c.le.ensures c.if-le.false) (c.max.ensures ∙ larger c.args.mode.length c.args.next)
