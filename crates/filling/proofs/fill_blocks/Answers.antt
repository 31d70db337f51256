-- `fill_blocks` meets its contract. The blocks passed are filled.
use native.Mathlib.Omega.{arith}
use Rattle.tables.proofs.Lines.{room_for_fewer, filled_has}
use Rattle.filling.proofs.fill_blocks.Goals as goal

pub fill_block-requires-clause-has_lines : goal.fill_block-requires-clause-has_lines
fill_block-requires-clause-has_lines g c =
    filled_has _ _ _ _ _ _ (omega arith) (room_for_fewer _ _ _ _ (omega arith) c.requires.room) c.loop-block.invariant
