-- `Head::empty` meets its contract by computation.
use Rattle.fields.specs.Values.{empty_sheet}
use mathlib.Core.Path.{refl}
use Rattle.sheet.proofs.Head.empty.Goals as goal

pub returns : goal.returns
unfolding empty_sheet
returns c = refl
