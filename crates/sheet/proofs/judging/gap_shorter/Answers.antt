-- `gap_shorter` meets its contract: `any` looks for a gap that is shorter than the bound.
use borrow.Author.Rules.{rules}
use borrow.Author.Tests.{tests}
use lib.Dec.{ltb}
use Prim.Native.Nat.{ℕ, ◌+◌, ◌*◌}
use mathlib.Core.Bool.{Bool}
use mathlib.Core.Path.{◌∙◌, refl}
use native.Mathlib.Omega.{arith}
use Rattle.std.proofs.lemmas.Iterator.{YieldsList-from_range}
use Rattle.std.proofs.lemmas.Iterator.Search.{any_from_yields_List}
use Rattle.fields.proofs.AnyFrom.{any_of_range}
use Rattle.fields.specs.Reading.{word_at}
use Rattle.sheet.specs.Content.{gap_shorter}
use Rattle.sheet.proofs.judging.gap_shorter.Goals as goal

pub returns : goal.returns
unfolding gap_shorter
returns c =
    let a = c.args in
    let shorter : ℕ → Bool = λ k. ltb (word_at a.bytes.now (a.place + 2 * k)) a.bound.0 in
    any_from_yields_List shorter _ _ c.any.result c.any.ensures.ran (YieldsList-from_range 0 a.count a.count refl (omega arith)) (λ x b q k. search (rules, tests))
    ∙ any_of_range shorter 0 a.count
