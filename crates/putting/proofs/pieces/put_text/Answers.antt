-- `put_text` meets its contract. The bytes passed are copied to the front of the output, and behind them it is as it was.
use Prim.Native.Nat.{ℕ}
use native.Mathlib.Nat.{zero-add}
use native.Mathlib.Numerals.{add-one}
use native.Mathlib.Omega.{arith}
use mathlib.Core.Path.{◌≡◌, ◌∙◌, refl, ap}
use mathlib.Core.List.{List}
use lib.ListN.{length, get_or, set}
use lib.Seq.{paste-suc, take-length}
use Rattle.putting.proofs.pieces.put_text.Goals as goal

pub loop-at-init : goal.loop-at-init
loop-at-init c = refl

pub loop-at-preserved : goal.loop-at-preserved
loop-at-preserved c =
    let l = c.loop-at in
    let a = c.args in
    let byte = get_or a.text.now l.at 0 in
    let further = simp zero-add at (paste-suc a.out.now 0 a.text.now l.at 0 (omega (arith, c.requires)) (omega arith)) in
    rw add-one (ap (λ (r : List ℕ). set r l.at byte) l.invariant ∙ further)

pub returns : goal.returns
returns c =
    let l = c.loop-at in
    let text = c.args.text.now in
    let all : l.at ≡ length text = omega arith in
    l.invariant ∙ rw (all, take-length text) refl
