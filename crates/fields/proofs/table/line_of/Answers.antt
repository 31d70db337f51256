-- `line_of` meets its contract: the constant table is the definition's, which has a line for tag 0 in front.
use Prim.Native.Nat.{suc, ◌-◌, ◌≤◌}
use Rattle.fields.specs.Fields.{line_of, fields, no_line}
use lib.ListN.{get_or-eq_default}
use mathlib.Core.List.{◌∷◌}
use mathlib.Core.Path.{◌≡◌, sym, ap}
use native.Mathlib.Omega.{arith}
use Rattle.fields.proofs.table.line_of.Goals as goal

pub returns-in-1-to-5 : goal.returns-in-1-to-5
unfolding line_of fields
returns-in-1-to-5 c =
    let tag = c.args.tag in
    let next : tag ≡ suc (tag - 1) = omega arith in
    sym (ap line_of next)

pub returns-in_default : goal.returns-in_default
unfolding line_of fields
returns-in_default c =
    let zero : c.args.tag ≡ 0 = omega arith in
    sym (ap line_of zero)

pub returns-in_default-2 : goal.returns-in_default-2
unfolding line_of fields
returns-in_default-2 c = let past : 6 ≤ c.args.tag = omega arith in sym (get_or-eq_default (no_line ∷ fields) no_line past)
