-- `bad_text` meets its contract.
use borrow.Author.Rules.{rules}
use borrow.Author.Tests.{tests}
use mathlib.Core.Path.{◌≡◌, ◌∙◌, ap}
use mathlib.Core.List.{List}
use Prim.Native.Nat.{ℕ, ◌+◌, ◌-◌}
use lib.ListN.{take, drop}
use Rattle.std.specs.List.{list_any}
use native.Mathlib.Omega.{arith}
use Rattle.std.proofs.lemmas.Iterator.{YieldsList-from_slice}
use Rattle.std.proofs.lemmas.Iterator.Search.{any_from_yields_List}
use Rattle.fields.proofs.AnyFrom.{any_of_part}
use Rattle.rules.specs.Rules.{bad_text, bad_byte}
use Rattle.rules.proofs.text.bad_text.Goals as goal

pub returns : goal.returns
unfolding bad_text
returns c =
    let a = c.args in
    let part : List ℕ = take (a.start + a.size - a.start) (drop a.start a.bytes.now) in
    let size : a.start + a.size - a.start ≡ a.size = omega arith in
    any_from_yields_List bad_byte _ _ c.any.result c.any.ensures.ran (YieldsList-from_slice part cc) (λ x b q k. search (rules, tests))
    ∙ ap (λ (n : ℕ). list_any bad_byte (take n (drop a.start a.bytes.now))) size
    ∙ any_of_part bad_byte a.bytes.now a.start a.size c.requires
