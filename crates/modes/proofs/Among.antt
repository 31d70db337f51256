-- The job length of a speed that a mode reaches is the length of one of the modes, with or without bands.
use Prim.Native.Nat.{ℕ, zero, suc, ◌≤◌, ◌<◌}
use native.Mathlib.Omega.{arith}
use mathlib.Core.Path.{◌≡◌, refl}
use mathlib.Core.Bool.{Bool, true, false}
use mathlib.Core.List.{List, [], ◌∷◌}
use lib.Dec.{ltb, leb}
use lib.ListN.{length, get_or}
use borrow.Author.Tests.{leb-false, ltb-true}
use Rattle.fields.specs.Deciding.{pick}
use Rattle.fields.specs.Values.{no_mode}
use Rattle.fields.specs.declared.units.Rpm.{Rpm}
use Rattle.fields.specs.declared.units.Ticks.{Ticks}
use Rattle.fields.specs.declared.values.Mode.{Mode}
use Rattle.modes.specs.Modes.{longer, first_length, length_in, job_length}

module _ (F : Ticks → Type 0) where
  -- what holds of every mode's length
  abbrev Each : List Mode → Type 0
  Each modes = (i : ℕ) → i < length modes → F (get_or modes i no_mode).length

  -- the larger of a mode's own length and the next mode's
  longer_of : (mode : Mode) (modes : List Mode) → Each (mode ∷ modes) → (b : Bool) → ltb mode.length.0 (first_length modes).0 ≡ b → F (pick b (first_length modes) mode.length)
  unfolding first_length pick
  longer_of mode modes each false e = each 0 (omega arith)
  longer_of mode [] each true e = absurd (let more : mode.length.0 < 0 = ltb-true _ _ e in omega arith)
  longer_of mode (next ∷ modes) each true e = each 1 (omega arith)

  length_in_of : (mode : Mode) (modes : List Mode) (speed : Rpm) → Each (mode ∷ modes) → F (length_in mode (first_length modes) speed)
  unfolding length_in pick
  length_in_of mode modes speed each = first (leb speed.0 mode.fallback.0)
    where
      first : (b : Bool) → F (pick b mode.length (longer mode.length (first_length modes)))
      first true = each 0 (omega arith)
      first false = longer_of mode modes each (ltb mode.length.0 (first_length modes).0) refl

  -- where a boundary is at or above the speed
  pub job_length_of : (modes : List Mode) (speed : Rpm) → Each modes → (k : ℕ) → k < length modes → speed.0 ≤ (get_or modes k no_mode).boundary.0 → F (job_length modes speed)
  unfolding job_length pick
  job_length_of [] speed each k h l = absurd (omega arith)
  job_length_of (mode ∷ modes) speed each k h l =
      first (job_length_of modes speed (λ i h. each (suc i) (omega arith))) (leb speed.0 mode.boundary.0) refl k h l
    where
      first : ((k : ℕ) → k < length modes → speed.0 ≤ (get_or modes k no_mode).boundary.0 → F (job_length modes speed))
          → (b : Bool) → leb speed.0 mode.boundary.0 ≡ b
          → (k : ℕ) → k < suc (length modes) → speed.0 ≤ (get_or (mode ∷ modes) k no_mode).boundary.0 → F (pick b (length_in mode (first_length modes) speed) (job_length modes speed))
      first later true e k h l = length_in_of mode modes speed each
      first later false e zero h l = absurd (omega (arith, leb-false speed.0 mode.boundary.0 e))
      first later false e (suc k) h l = later k (omega arith) l
