-- `smallest` meets its contract: an interval of 0 is none.
use Rattle.explain.specs.Looking.{smallest_at}
use Rattle.fields.specs.Deciding.{pick}
use borrow.Author.Tests.{eq-eqb, ne_eqb}
use mathlib.Core.Path.{refl}
use Rattle.explain.proofs.looking.smallest.Goals as goal

pub returns-then-interval-eq0 : goal.returns-then-interval-eq0
unfolding smallest_at pick
returns-then-interval-eq0 c = rw (eq-eqb c.args.interval 0 c.if-interval-eq0.true) refl

pub returns : goal.returns
unfolding smallest_at pick
returns c = rw (ne_eqb c.args.interval 0 c.if-interval-eq0.false) refl
