-- What the calculations ask of a sheet; every accepted one is so.
use Rattle.std.specs.Prelude.{ℕ, ◌≤◌, ◌<◌, List}
use Rattle.meaning.specs.Graph.{Sound}
use Rattle.meaning.specs.Demand.{longest_time}
use Rattle.sheet.specs.Meaning.{length_of, graph_of}
use Rattle.sheet.specs.Proper.{Proper}
use Rattle.fields.specs.declared.values.Sheet.{Sheet}

-- its values are those of an accepted sheet, its graph is sound, and no job is longer than the longest time
pub record Ready (bytes : List ℕ) (sheet : Sheet) : Type 0 where
  pub proper : Proper bytes sheet
  pub sound : Sound (graph_of bytes sheet)
  pub lengths_most : (k : ℕ) → k < sheet.tally.rows → length_of sheet k ≤ longest_time
