-- `unknown_follower` meets its contract: `any` looks for a row that names one which does not exist, and the array has the rows at those places.
use borrow.Author.Rules.{rules}
use borrow.Author.Tests.{tests}
use lib.ListN.{get_or}
use Prim.Native.Nat.{ℕ, ◌+◌}
use mathlib.Core.Bool.{Bool}
use mathlib.Core.Path.{◌∙◌, refl, sym, ap}
use native.Mathlib.Omega.{arith}
use Rattle.std.proofs.lemmas.Iterator.{YieldsList-from_range}
use Rattle.std.proofs.lemmas.Iterator.Search.{any_from_yields_List}
use Rattle.fields.proofs.AnyFrom.{any_of_range, any_alike}
use Rattle.fields.specs.Reading.{row_at}
use Rattle.fields.specs.Values.{no_row}
use Rattle.fields.specs.declared.values.Row.{Row}
use Rattle.rules.specs.Rules.{unknown_in, unknown_follower}
use Rattle.sheet.proofs.rows.unknown_follower.Goals as goal

pub returns : goal.returns
unfolding unknown_follower
returns c rows from =
    let a = c.args in
    let unknown : Row → Bool = λ row. unknown_in row.followers a.count in
    let there : ℕ → Bool = λ k. unknown (row_at a.bytes.now (get_or a.places.now k 0)) in
    any_from_yields_List there _ _ c.any.result c.any.ensures.ran (YieldsList-from_range 0 a.count a.count refl (omega arith)) (λ x b q k. search (rules, tests))
    ∙ any_of_range there 0 a.count
    ∙ any_alike there (λ k. unknown (get_or rows k no_row)) 0 0 a.count (λ k h. ap unknown (sym (from.each (0 + k) (omega arith))))
