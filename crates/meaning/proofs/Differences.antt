-- A difference of two numbers below 2 ^ 63, as a signed 64-bit number has it.
use mathlib.Core.Path.{◌≡◌, ◌∙◌, sym, ap₂, subst}
use mathlib.Core.Logic.{⊎_elim}
use Prim.Native.Nat.{ℕ, suc, ◌^◌, ◌<◌}
use native.Mathlib.Omega.{arith}
use lib.IntN.{ℤ, pos, ◌-ℤ◌, sub_ℕ}
use lib.Signed.{mag}
use mir.Syntax.{w64}
use mir.Val.{to_z, of_z, SFits}
use mir.Facts.{to_z_pos, to_z-of_z}
use Rattle.meaning.proofs.Tests.{le_or}
use Rattle.meaning.proofs.Margins.{difference}

-- a difference is no larger than what it is made from
size_sub : (M t n : ℕ) → t < M → n < M → mag (sub_ℕ t n) < M
size_sub M t n a b = ⊎_elim (λ p. rw p.1 (omega arith)) (λ p. rw p.1 (omega arith)) (le_or (suc t) n)

-- both numbers are what their bits say
bits_sub : (t n : ℕ) → t < 2 ^ 63 → n < 2 ^ 63 → to_z w64 t -ℤ to_z w64 n ≡ pos t -ℤ pos n
bits_sub t n a b = ap₂ ◌-ℤ◌ (to_z_pos w64 a) (to_z_pos w64 b)

-- the difference fits
pub sub_fits64 : (t n : ℕ) → t < 2 ^ 63 → n < 2 ^ 63 → SFits w64 (to_z w64 t -ℤ to_z w64 n)
sub_fits64 t n a b = record { sfits = subst (λ (z : ℤ). mag z < 2 ^ 63) (sym (bits_sub t n a b ∙ difference t n)) (size_sub (2 ^ 63) t n a b) }

-- and is the true one
pub sub_is64 : (t n : ℕ) → t < 2 ^ 63 → n < 2 ^ 63 → to_z w64 (of_z w64 (to_z w64 t -ℤ to_z w64 n)) ≡ pos t -ℤ pos n
sub_is64 t n a b = to_z-of_z (sub_fits64 t n a b) ∙ bits_sub t n a b
