-- `unknown_among` meets its contract: `any` looks for a set that names a row which does not exist.
use borrow.Author.Rules.{rules}
use borrow.Author.Tests.{tests}
use lib.ListN.{get_or}
use Prim.Native.Nat.{ℕ}
use mathlib.Core.Bool.{Bool}
use mathlib.Core.Path.{◌∙◌, refl}
use native.Mathlib.Omega.{arith}
use Rattle.std.proofs.lemmas.Iterator.{YieldsList-from_range}
use Rattle.std.proofs.lemmas.Iterator.Search.{any_from_yields_List}
use Rattle.fields.proofs.AnyFrom.{any_of_range}
use Rattle.rules.specs.Rules.{unknown_in}
use Rattle.written.specs.Judging.{unknown_among}
use Rattle.columns.proofs.rows.unknown_among.Goals as goal

pub returns : goal.returns
unfolding unknown_among
returns c =
    let a = c.args in
    let unknown : ℕ → Bool = λ k. unknown_in (get_or a.sets.now k 0) a.count in
    any_from_yields_List unknown _ _ c.any.result c.any.ensures.ran (YieldsList-from_range 0 a.count a.count refl (omega arith)) (λ x b q k. search (rules, tests))
    ∙ any_of_range unknown 0 a.count
