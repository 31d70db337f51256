-- What was told of an answer is so of the explanation in it.
use mathlib.Core.Path.{subst}
use Rattle.telling_why.specs.Told.{ExplainTold}
use Rattle.telling_why.proofs.print_answer.Goals as goal

pub print_explained-requires : goal.print_explained-requires
print_explained-requires g c = subst (ExplainTold _ _ _) c.in-Ok.is c.requires
