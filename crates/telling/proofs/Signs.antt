-- The sign and the size of a number, found without leaving what a signed number of 64 bits can hold.
use Prim.Native.Nat.{ℕ, zero, suc, ◌-◌, ◌^◌, ◌≤◌, ◌<◌}
use native.Mathlib.Omega.{arith}
use mathlib.Core.Path.{◌≡◌, refl, ap}
use mathlib.Core.Bool.{true, false, true≢false}
use lib.Dec.{T}
use borrow.Author.Tests.{lt-ltb, ltb-true}
use lib.IntN.{ℤ, pos, negsuc, ◌+ℤ◌, ◌-ℤ◌, nat_abs}
use lib.Signed.{lt_z, non_neg}
use mir.Syntax.{w64}
use mir.Val.{Fits, SFits}
use Rattle.telling.specs.Told.{sign_of}
use Rattle.telling.specs.declared.at.Signed.TheVariants.{Spare, Missing}

-- one more than a number below -1
one_more : (n : ℕ) → negsuc (suc n) +ℤ pos 1 ≡ negsuc n
one_more n = rw (lt-ltb 1 (suc (suc n)) (omega arith)) (ap negsuc (omega arith))

-- a number from 0 on is not below it
none_below : (n : ℕ) → lt_z (pos n) (pos 0) ≡ true → ⊥
none_below n below = omega (arith, ltb-true n 0 below)

-- of a number below 0, the opposite of one more than it is one less than its size
pub opposite_is : (z : ℤ) → lt_z z (pos 0) ≡ true → pos 0 -ℤ (z +ℤ pos 1) ≡ pos (nat_abs z - 1)
opposite_is (pos n) below = absurd (none_below n below)
opposite_is (negsuc zero) below = refl
opposite_is (negsuc (suc n)) below = rw (one_more n) (ap pos (omega arith))

-- what is on the way to it fits where the number does
pub one_more_fits : (z : ℤ) → lt_z z (pos 0) ≡ true → SFits w64 z → SFits w64 (z +ℤ pos 1)
one_more_fits (pos n) below fit = absurd (none_below n below)
one_more_fits (negsuc zero) below fit = record { sfits = omega arith }
one_more_fits (negsuc (suc n)) below fit = rw (one_more n) (record { sfits = omega (arith, fit.sfits) })

pub size_fits : (z : ℤ) → lt_z z (pos 0) ≡ true → SFits w64 z → (1 ≤ nat_abs z) × (nat_abs z - 1 < 2 ^ 63)
size_fits (pos n) below fit = absurd (none_below n below)
size_fits (negsuc n) below fit = (omega arith, omega (arith, fit.sfits))

-- a number that is not below 0 is its own size
pub whole_fits : (z : ℤ) → lt_z z (pos 0) ≡ false → SFits w64 z → T (non_neg z) × Fits w64 (nat_abs z)
whole_fits (pos n) other fit = (tt, record { fits = omega (arith, fit.sfits) })
whole_fits (negsuc n) other fit = absurd (true≢false other)

-- which sign it has
pub below_sign : (z : ℤ) → lt_z z (pos 0) ≡ true → sign_of z ≡ Missing (nat_abs z)
below_sign (pos n) below = absurd (none_below n below)
below_sign (negsuc n) below = refl

pub whole_sign : (z : ℤ) → lt_z z (pos 0) ≡ false → sign_of z ≡ Spare (nat_abs z)
whole_sign (pos n) other = refl
whole_sign (negsuc n) other = absurd (true≢false other)
