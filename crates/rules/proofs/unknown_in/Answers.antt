-- `unknown_in` meets its contract: the set's next row from the number of rows on decides.
use mathlib.Core.Path.{◌∙◌, ap}
use Rattle.std.specs.Prelude.{is_some}
use Rattle.rules.specs.Rules.{unknown_in}
use Rattle.rules.proofs.unknown_in.Goals as goal

pub returns : goal.returns
unfolding unknown_in
returns c = c.is_some.ensures ∙ ap is_some c.next_from.ensures
