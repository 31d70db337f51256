-- `outline_end` meets its contract, rule by rule.
use Rattle.fields.proofs.Deciding.{yes, no, told}
use Rattle.sheet.specs.Judging.{refusal, end_judged}
use Rattle.sheet.specs.Outline.{outline_of}
use borrow.Author.Tests.{lt-ltb, le-ltb}
use mathlib.Core.Path.{refl, ap}
use Rattle.sheet.proofs.judging.outline_end.Goals as goal

pub returns-then-unknown_follower : goal.returns-then-unknown_follower
unfolding end_judged refusal
returns-then-unknown_follower c rows from =
    let unknown = told _ _ _ (c.unknown_follower.ensures rows from) c.if-unknown_follower.true in
    ap outline_of (yes _ _ _ _ unknown refl)

pub returns-then-next-bytes : goal.returns-then-next-bytes
unfolding end_judged refusal
returns-then-next-bytes c rows from =
    let known = told _ _ _ (c.unknown_follower.ensures rows from) c.if-unknown_follower.false in
    ap outline_of (no _ _ _ _ known (yes _ _ _ _ (lt-ltb _ _ c.if-next-bytes.true) refl))

-- where no test holds, the sheet is accepted
pub returns : goal.returns
unfolding end_judged
returns c rows from =
    let known = told _ _ _ (c.unknown_follower.ensures rows from) c.if-unknown_follower.false in
    ap outline_of (no _ _ _ _ known (no _ _ _ _ (le-ltb _ _ c.if-next-bytes.false) refl))
