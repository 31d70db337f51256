-- What bands do to job lengths: nothing where every fall-back is its boundary, and else they only make them longer.
use Prim.Native.Nat.{ℕ, zero, suc, ◌≤◌, ◌<◌}
use native.Mathlib.Omega.{arith}
use mathlib.Core.Path.{◌≡◌, refl}
use mathlib.Core.Bool.{Bool, true, false}
use mathlib.Core.List.{List, [], ◌∷◌}
use lib.Dec.{ltb, leb}
use lib.ListN.{length, get_or}
use borrow.Author.Tests.{le-leb, lt-leb, leb-true, ltb-true}
use Rattle.fields.specs.Deciding.{pick}
use Rattle.fields.specs.Values.{no_mode}
use Rattle.fields.specs.declared.units.Rpm.{Rpm}
use Rattle.fields.specs.declared.units.Ticks.{Ticks}
use Rattle.fields.specs.declared.values.Mode.{Mode}
use Rattle.modes.specs.Modes.{longer, first_length, length_in, job_length}

-- the job length where fall-backs say nothing: that of the slowest mode that reaches the speed
abbrev pub length_by_boundary : List Mode → Rpm → Ticks
length_by_boundary [] speed = record { 0 = 0 }
length_by_boundary (mode ∷ modes) speed = pick (leb speed.0 mode.boundary.0) mode.length (length_by_boundary modes speed)

-- a mode that has no band gives its own length to every speed that it reaches
own_length : (mode : Mode) (next : Ticks) (speed : Rpm) → mode.fallback.0 ≡ mode.boundary.0 → speed.0 ≤ mode.boundary.0 → length_in mode next speed ≡ mode.length
unfolding length_in pick
own_length mode next speed no-band reached =
    let below : leb speed.0 mode.fallback.0 ≡ true = le-leb speed.0 mode.fallback.0 (omega arith) in
    rw below refl

-- where no mode has a band, the job length is by the boundaries alone
pub no_bands : (modes : List Mode) (speed : Rpm) → ((k : ℕ) → k < length modes → (get_or modes k no_mode).fallback.0 ≡ (get_or modes k no_mode).boundary.0)
    → job_length modes speed ≡ length_by_boundary modes speed
unfolding job_length pick
no_bands [] speed none = refl
no_bands (mode ∷ modes) speed none = first (no_bands modes speed (λ k h. none (suc k) (omega arith))) (leb speed.0 mode.boundary.0) refl
  where
    first : job_length modes speed ≡ length_by_boundary modes speed → (b : Bool) → leb speed.0 mode.boundary.0 ≡ b
        → pick b (length_in mode (first_length modes) speed) (job_length modes speed) ≡ pick b mode.length (length_by_boundary modes speed)
    first later true e = own_length mode (first_length modes) speed (none 0 (omega arith)) (leb-true speed.0 mode.boundary.0 e)
    first later false e = later

-- the larger of two is not below the first
longer_least : (one other : Ticks) (b : Bool) → ltb one.0 other.0 ≡ b → one.0 ≤ (pick b other one).0
unfolding pick
longer_least one other true e = let more : one.0 < other.0 = ltb-true one.0 other.0 e in omega arith
longer_least one other false e = omega arith

-- with its band a mode gives no less than its own length
own_least : (mode : Mode) (next : Ticks) (speed : Rpm) → mode.length.0 ≤ (length_in mode next speed).0
unfolding length_in pick
own_least mode next speed = first (leb speed.0 mode.fallback.0)
  where
    first : (b : Bool) → mode.length.0 ≤ (pick b mode.length (longer mode.length next)).0
    first true = omega arith
    first false = longer_least mode.length next (ltb mode.length.0 next.0) refl

-- with bands a job is never shorter than without
pub bands_lengthen : (modes : List Mode) (speed : Rpm) → (length_by_boundary modes speed).0 ≤ (job_length modes speed).0
unfolding job_length pick
bands_lengthen [] speed = omega arith
bands_lengthen (mode ∷ modes) speed = first (bands_lengthen modes speed) (leb speed.0 mode.boundary.0)
  where
    first : (length_by_boundary modes speed).0 ≤ (job_length modes speed).0 → (b : Bool) → (pick b mode.length (length_by_boundary modes speed)).0 ≤ (pick b (length_in mode (first_length modes) speed) (job_length modes speed)).0
    first later true = own_least mode (first_length modes) speed
    first later false = later

-- a speed at a boundary belongs to the slower mode where that has no band
pub boundary_slower : (modes : List Mode) (k : ℕ) → k < length modes
    → ((i : ℕ) → i < k → (get_or modes i no_mode).boundary.0 < (get_or modes k no_mode).boundary.0)
    → (get_or modes k no_mode).fallback.0 ≡ (get_or modes k no_mode).boundary.0 → job_length modes (get_or modes k no_mode).boundary ≡ (get_or modes k no_mode).length
unfolding job_length pick
boundary_slower [] k h rise no-band = absurd (omega arith)
boundary_slower (mode ∷ modes) zero h rise no-band =
    let reached : leb mode.boundary.0 mode.boundary.0 ≡ true = le-leb mode.boundary.0 mode.boundary.0 (omega arith) in
    rw reached (own_length mode (first_length modes) mode.boundary no-band (omega arith))
boundary_slower (mode ∷ modes) (suc k) h rise no-band =
    let above : leb (get_or modes k no_mode).boundary.0 mode.boundary.0 ≡ false = lt-leb (get_or modes k no_mode).boundary.0 mode.boundary.0 (rise 0 (omega arith)) in
    rw above (boundary_slower modes k (omega arith) (λ i l. rise (suc i) (omega arith)) no-band)
