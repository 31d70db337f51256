-- What was told of the answer holds of the overrun in it.
use mathlib.Core.Path.{subst}
use Rattle.std.specs.Prelude.{Ok}
use Rattle.telling_why.specs.Told.{ExplainTold}
use Rattle.telling_why.proofs.print_explained.Goals as goal

pub print_overrun-requires : goal.print_overrun-requires
print_overrun-requires g c =
    let a = c.args in
    (a.horizon, subst (λ explained. ExplainTold a.bytes.now a.horizon a.area.now (Ok explained)) c.in-Fails.is c.requires)
