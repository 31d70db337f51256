-- `block_cells` meets its contract: the length and the most that a follower adds are the cell of each line.
use Prim.Native.Nat.{ℕ, ◌^◌, ◌<◌}
use mathlib.Core.List.{List}
use mathlib.Core.Path.{◌≡◌, ◌∙◌}
use native.Mathlib.Omega.{arith}
use Rattle.fields.specs.declared.values.Row.{Row}
use Rattle.sheet.specs.Proper.{ProperRow}
use Rattle.tables.specs.Adding.{most_added, cell_of}
use Rattle.tables.proofs.Adding.{most_added_is}
use Rattle.blocks.specs.Blocks.{block_size, due_work}
use Rattle.blocks.proofs.Raising.{due_is}
use Rattle.blocks.proofs.interval.block_cells.Goals as goal

-- the cell of a line, with the most that a follower adds there
cell_is : (bytes : List ℕ) (n : ℕ) (row : Row) → ProperRow bytes n row → row.followers < 2 ^ 64 → (cells : List ℕ) (s work most : ℕ)
    → most ≡ most_added bytes cells row.followers row.gaps n s → due_work row.deadline.0 work s most ≡ cell_of bytes cells row work n s
cell_is bytes n row proper fits cells s work most e = due_is _ _ _ _ _ _ _ (e ∙ most_added_is bytes n row proper fits cells s)

pub due_work-requires : goal.due_work-requires
due_work-requires c =
    let h : c.loop-i.i < block_size = omega arith in
    let same =
    cell_is _ _ _ c.requires.proper_row (omega arith) _ _ c.args.work _ (rw (c.new-followers.ensures.bytes, c.new-followers.ensures.count, c.new-followers.ensures.rest, c.new-followers.ensures.place) at c.most_in_block-most.ensures c.loop-i.i h) in
    omega (arith, same, c.requires.fits c.loop-i.i h)

pub returns : goal.returns
returns c = λ i h.
    c.loop-i.invariant.right i (omega arith)
    ∙ cell_is _ _ _ c.requires.proper_row (omega arith) _ _ c.args.work _ (rw (c.new-followers.ensures.bytes, c.new-followers.ensures.count, c.new-followers.ensures.rest, c.new-followers.ensures.place) at c.most_in_block-most.ensures i h)
