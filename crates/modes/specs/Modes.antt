-- The job length of a speed, by the modes of a sheet.
use Rattle.std.specs.Prelude.{List, [], ◌∷◌, ltb, leb}
use Rattle.fields.specs.Deciding.{pick}
use Rattle.fields.specs.declared.units.Rpm.{Rpm}
use Rattle.fields.specs.declared.units.Ticks.{Ticks}
use Rattle.fields.specs.declared.values.Mode.{Mode}

-- the larger of two job lengths
abbrev pub longer : Ticks → Ticks → Ticks
longer one other = pick (ltb one.0 other.0) other one

-- the job length of the first of some modes, 0 where there is none
unfoldable pub first_length : List Mode → Ticks
first_length [] = record { 0 = 0 }
first_length (mode ∷ modes) = mode.length

-- the job length of a speed that a mode reaches: up to the fall-back the mode's own; in the band above it the larger of the mode's own and the next mode's
unfoldable pub length_in : Mode → Ticks → Rpm → Ticks
length_in mode next speed = pick (leb speed.0 mode.fallback.0) mode.length (longer mode.length next)

-- the job length of a speed: by the slowest mode that reaches it, 0 where none does; a boundary is still reached
unfoldable pub job_length : List Mode → Rpm → Ticks
job_length [] speed = record { 0 = 0 }
job_length (mode ∷ modes) speed = pick (leb speed.0 mode.boundary.0) (length_in mode (first_length modes) speed) (job_length modes speed)
