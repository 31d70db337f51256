-- `mode_numbered` meets its contract: a mode that the sheet counts stands in the array.
use Prim.Native.Nat.{◌<◌}
use native.Mathlib.Omega.{arith}
use Rattle.fields.specs.Limits.{mode_limit}
use Rattle.sheet.proofs.Answering.{outlined_head}
use Rattle.contents.proofs.Told.{mode_held, mode_told, mode_past, mode_none}
use Rattle.contents.proofs.mode_numbered.Goals as goal

pub returns-in_default : goal.returns-in_default
returns-in_default c = mode_none _ _ _ c.in_default.ensures _

pub returns-then-head-number : goal.returns-then-head-number
returns-then-head-number c = mode_past _ _ (outlined_head _ _ _ c.in-Ok.ensures).1 _ (omega arith)

pub bounds-head-number : goal.bounds-head-number
bounds-head-number c = mode_held _ _ (outlined_head _ _ _ c.in-Ok.ensures).1 _ (λ i. omega (arith, c.type_inv.bytes i)) (omega arith)

pub offset_bounds-head-number : goal.offset_bounds-head-number
offset_bounds-head-number c =
    let within : c.args.number < mode_limit = mode_held _ _ (outlined_head _ _ _ c.in-Ok.ensures).1 _ (λ i. omega (arith, c.type_inv.bytes i)) (omega arith) in omega (arith, within)

pub returns : goal.returns
returns c = mode_told _ _ (outlined_head _ _ _ c.in-Ok.ensures).1 _ (omega arith)
