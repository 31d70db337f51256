-- `job_length` meets its contract. The modes that are left decide as all of them do.
use Prim.Native.Nat.{◌+◌}
use Rattle.modes.proofs.Left.{here, none_left}
use Rattle.fields.specs.Deciding.{pick}
use Rattle.fields.proofs.Deciding.{told_upto}
use Rattle.fields.specs.Values.{no_mode}
use Rattle.modes.specs.Modes.{first_length, length_in, job_length}
use Rattle.fields.specs.declared.values.Mode.{Mode}
use lib.Dec.{leb}
use lib.ListN.{get_or, take, drop}
use mathlib.Core.Bool.{true, false}
use mathlib.Core.List.{List}
use mathlib.Core.Path.{◌≡◌, ◌∙◌, sym, ap}
use native.Mathlib.Omega.{arith}
use Rattle.modes.proofs.job_length.Goals as goal

pub returns-then-le : goal.returns-then-le
unfolding pick job_length
returns-then-le c =
    let a = c.args in
    let number = c.loop-number.number in
    let m = get_or a.modes number no_mode in
    let behind = drop (number + 1) (take a.count a.modes) in
    let turn : job_length (take a.count a.modes) a.speed ≡ pick (leb a.speed.0 m.boundary.0) (length_in m (first_length behind) a.speed) (job_length behind a.speed) =
    c.loop-number.invariant ∙ ap (λ (l : List Mode). job_length l a.speed) (here a.modes a.count c.loop-number.number (omega arith) (omega arith)) in
    let reached : leb a.speed.0 m.boundary.0 ≡ true = told_upto _ _ _ _ c.le.ensures c.if-le.true in
    sym (turn ∙ rw (reached, ← c.length_of-next.ensures) (sym c.length_in.ensures))

pub loop-number-preserved : goal.loop-number-preserved
unfolding pick job_length
loop-number-preserved c =
    let a = c.args in
    let number = c.loop-number.number in
    let m = get_or a.modes number no_mode in
    let behind = drop (number + 1) (take a.count a.modes) in
    let turn : job_length (take a.count a.modes) a.speed ≡ pick (leb a.speed.0 m.boundary.0) (length_in m (first_length behind) a.speed) (job_length behind a.speed) =
    c.loop-number.invariant ∙ ap (λ (l : List Mode). job_length l a.speed) (here a.modes a.count c.loop-number.number (omega arith) (omega arith)) in
    let past : leb a.speed.0 m.boundary.0 ≡ false = told_upto _ _ _ _ c.le.ensures c.if-le.false in
    turn ∙ rw past

pub returns : goal.returns
unfolding job_length
returns c =
    let a = c.args in
    let number = c.loop-number.number in
    sym (c.loop-number.invariant ∙ ap (λ (l : List Mode). job_length l a.speed) (none_left a.modes a.count number (omega arith)))
