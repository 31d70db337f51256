-- `jittered` meets its contract: of the jitters those are counted that are not 0.
use Prim.Native.Nat.{ℕ}
use borrow.Author.Rules.{rules}
use borrow.Author.Tests.{tests}
use mathlib.Core.Bool.{Bool, not}
use mathlib.Core.List.{List, [], ◌∷◌}
use mathlib.Core.Path.{◌≡◌, ◌∙◌, refl}
use lib.Dec.{eqb}
use lib.ListN.{length}
use Rattle.std.specs.Prelude.{filter}
use Rattle.std.proofs.lemmas.Iterator.{YieldsList-from_slice}
use Rattle.std.proofs.lemmas.Iterator.Consumers.{YieldsList-from_filter, count_from_yields_List}
use Rattle.written.specs.Judging.{jitter_count}
use Rattle.writer.proofs.Counting.{one_counted}
use Rattle.writer.proofs.jittered.Goals as goal

abbrev late : ℕ → Bool
late jitter = not (eqb jitter 0)

all_late : (jitters : List ℕ) → length (filter late jitters) ≡ jitter_count jitters
unfolding jitter_count
all_late [] = refl
all_late (jitter ∷ jitters) = one_counted (eqb jitter 0) jitter _ _ (all_late jitters)

pub returns : goal.returns
returns c =
    count_from_yields_List _ _ c.count.ensures.ran
    (YieldsList-from_filter _ late (YieldsList-from_slice c.args.jitters.now cc) c.filter.ensures.closure (λ x b q k. search (rules, tests)))
    ∙ all_late c.args.jitters.now
