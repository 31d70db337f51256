-- `marnipode_label` meets its contract.
use mathlib.Core.Path.{◌∙◌}
use Rattle.marnipode.proofs.Outlines.{label_outlined}
use Rattle.marnipode.proofs.marnipode_label.Goals as goal

pub returns : goal.returns
returns c = c.from.ensures ∙ label_outlined _ _ _ c.outline_of.ensures
