use Prim.Native.Nat.{ℕ, ◌+◌, ◌-◌, ◌≤◌, ◌<◌}
use Rattle.fields.specs.Limits.{row_limit}
use Rattle.fields.specs.declared.values.Row.{Row}
use Rattle.sheet.specs.Judging.{judged, walk}
use Rattle.sheet.specs.Outline.{sheet_from, RowsAt}
use lib.ListN.{length}
use mathlib.Core.List.{List}
use mathlib.Core.Path.{◌≡◌}
use Rattle.sheet.proofs.outline_of.Given as goal

abbrev pub invariant-loop-field : goal.invariant-loop-field
invariant-loop-field l =
    (n : ℕ) × (rows : List Row) × (l.at ≤ length l.bytes) × (length l.bytes < n + l.at) × (judged l.bytes ≡ walk l.bytes n l.at (sheet_from l.head rows)) × RowsAt l.bytes (sheet_from l.head rows) l.places × (length l.places ≡ row_limit)

abbrev pub decreases-loop-field : goal.decreases-loop-field
decreases-loop-field l = length l.bytes - l.at
