-- `bands` meets its contract: of the pairs those are counted that differ.
use Prim.Native.Nat.{ℕ}
use borrow.Author.Rules.{rules}
use borrow.Author.Tests.{tests}
use mathlib.Core.Bool.{Bool, not}
use mathlib.Core.List.{List, [], ◌∷◌}
use mathlib.Core.Path.{◌≡◌, ◌∙◌, refl}
use lib.Dec.{eqb}
use lib.ListN.{length}
use Rattle.std.specs.Prelude.{filter, zip}
use Rattle.std.proofs.lemmas.Iterator.{YieldsList-from_slice, YieldsList-from_zip}
use Rattle.std.proofs.lemmas.Iterator.Consumers.{YieldsList-at, YieldsList-from_filter, count_from_yields_List}
use Rattle.written.specs.Judging.{band_count}
use Rattle.writer.proofs.Counting.{one_counted}
use Rattle.writer.proofs.bands.Goals as goal

-- a boundary and a fall-back that is another speed
abbrev banded : ℕ × ℕ → Bool
banded pair = not (eqb pair.1 pair.0)

all_banded : (boundaries fallbacks : List ℕ) → length (filter banded (zip boundaries fallbacks)) ≡ band_count boundaries fallbacks
unfolding band_count
all_banded [] fallbacks = refl
all_banded (boundary ∷ boundaries) [] = refl
all_banded (boundary ∷ boundaries) (fallback ∷ fallbacks) = one_counted (eqb fallback boundary) (boundary, fallback) _ _ (all_banded boundaries fallbacks)

pub returns : goal.returns
returns c =
    let modes = c.args.modes in
    count_from_yields_List _ _ c.count.ensures.ran
    (YieldsList-from_filter _ banded
    (YieldsList-at c.filter.ensures.source (YieldsList-from_zip (YieldsList-from_slice modes.boundaries.now cc) (YieldsList-from_slice modes.fallbacks.now cc)))
    c.filter.ensures.closure (λ x b q k. search (rules, tests)))
    ∙ all_banded modes.boundaries.now modes.fallbacks.now
