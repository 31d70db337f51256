-- `bad_fallback` meets its contract, test by test.
use Rattle.fields.proofs.Deciding.{judging}
use Rattle.rules.specs.Rules.{bad_fallback}
use mathlib.Core.Bool.{true≢false, false}
use mathlib.Core.Path.{◌≡◌, ◌∙◌, sym}
use Rattle.rules.proofs.bad_fallback.Goals as goal
use Rattle.rules.proofs.bad_fallback.Goals.{then-eq, else-eq}

pub returns-then-lt : goal.returns-then-lt
unfolding bad_fallback
returns-then-lt c = elim c.if-eq.branch [ then-eq w ↦ search judging | else-eq w ↦ search judging ]

pub returns-else-lt : goal.returns-else-lt
unfolding bad_fallback
returns-else-lt c =
    elim c.if-eq.branch [
      | then-eq w ↦ absurd (true≢false (sym w.if-eq.true ∙ sym w.value-is ∙ c.if-lt.false))
      | else-eq w ↦ let inside : w.lt.result ≡ false = sym w.value-is ∙ c.if-lt.false in search judging
    ]

pub returns-else-size-ne-MODE : goal.returns-else-size-ne-MODE
unfolding bad_fallback
returns-else-size-ne-MODE c = search judging
