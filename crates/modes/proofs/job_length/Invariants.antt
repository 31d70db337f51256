use Rattle.modes.specs.Modes.{job_length}
use lib.ListN.{take, drop}
use mathlib.Core.Path.{◌≡◌}
use Rattle.modes.proofs.job_length.Given as goal

abbrev pub invariant-loop-number : goal.invariant-loop-number
invariant-loop-number l = job_length (take l.count l.modes) l.speed ≡ job_length (drop l.number (take l.count l.modes)) l.speed
