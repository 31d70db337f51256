-- `out_of_order` meets its contract: of the tags below, `any` looks for one that is missing.
use borrow.Author.Rules.{rules}
use borrow.Author.Tests.{tests}
use mathlib.Core.Path.{◌∙◌, refl}
use native.Mathlib.Omega.{arith}
use Rattle.std.proofs.lemmas.Iterator.{YieldsList-from_range}
use Rattle.std.proofs.lemmas.Iterator.Search.{any_from_yields_List}
use Rattle.fields.proofs.AnyFrom.{any_of_range}
use Rattle.fields.proofs.Deciding.{judging}
use Rattle.rules.specs.Rules.{out_of_order, missing}
use Rattle.rules.proofs.out_of_order.Goals as goal

pub returns-then-tag-last : goal.returns-then-tag-last
unfolding out_of_order
returns-then-tag-last c = search judging

pub returns-then-tag-last-2 : goal.returns-then-tag-last-2
unfolding out_of_order
returns-then-tag-last-2 c = rw (← c.line_of.ensures) (search judging)

pub returns : goal.returns
unfolding out_of_order
returns c =
    let a = c.args in
    let found =
    any_from_yields_List (missing a.last) _ _ c.any.result c.any.ensures.ran (YieldsList-from_range 0 a.tag a.tag refl (omega arith)) (λ x b q k. search (rules, tests)) ∙ any_of_range (missing a.last) 0 a.tag in
    search (judging, found)
