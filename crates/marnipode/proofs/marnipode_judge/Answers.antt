-- `marnipode_judge` meets its contract.
use mathlib.Core.Path.{◌∙◌}
use Rattle.marnipode.proofs.Outlines.{judge_outlined}
use Rattle.marnipode.proofs.marnipode_judge.Goals as goal

pub returns : goal.returns
returns c = c.from.ensures ∙ judge_outlined _ _ _ c.outline_of.ensures
