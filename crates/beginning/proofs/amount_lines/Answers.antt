-- `amount_lines` meets its contract: an amount is out of range exactly when it is 0 or beyond the longest time and one.
use native.Mathlib.Omega.{arith}
use mathlib.Core.Bool.{true}
use mathlib.Core.Path.{◌≡◌, refl}
use Rattle.fields.proofs.Deciding.{yes, no}
use Rattle.beginning.specs.Beginning.{bad_amount}
use Rattle.beginning.proofs.Beginnings.{amount_zero, amount_beyond, amount_in_range}
use Rattle.beginning.proofs.amount_lines.Goals.{then-amount-eq0-via-then-amount-eq0, then-amount-eq0-via-else-amount-eq0+then-amount}
use Rattle.beginning.proofs.amount_lines.Goals as goal

pub returns-then-amount-eq0 : goal.returns-then-amount-eq0
returns-then-amount-eq0 c =
    let bad : bad_amount c.args.amount ≡ true = elim c.then-amount-eq0.branch [
      | then-amount-eq0-via-then-amount-eq0 w ↦ amount_zero c.args.amount w.if-amount-eq0.true
      | then-amount-eq0-via-else-amount-eq0+then-amount w ↦ amount_beyond c.args.amount (omega (arith, w.if-amount.true))
    ] in
    record { counted = yes _ _ _ _ bad refl; few = tt }

pub returns : goal.returns
returns c =
    record {
      counted = no _ _ _ _ (amount_in_range c.args.amount (omega (arith, c.if-amount-eq0.false)) (omega (arith, c.if-amount.false))) refl;
      few = omega (arith, c.if-amount.false);
    }
