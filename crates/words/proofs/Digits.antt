-- The value of a word's digits as it grows digit by digit, and how large it is.
use Prim.Native.Nat.{ℕ, zero, suc, ◌+◌, ◌-◌, ◌*◌, ◌^◌, ◌≤◌, ◌<◌}
use native.Mathlib.Nat.{pow-succ', pow-le-pow_right}
use native.Mathlib.Numerals.{add-one}
use native.Mathlib.Omega.{arith}
use mathlib.Core.Path.{◌≡◌, refl}
use mathlib.Core.List.{List}
use lib.ListN.{get_or}
use Rattle.words.specs.Numbers.{IsDigit, value_upto}

module _ (word : List ℕ) where
  -- no digits have the value 0
  pub value_none : 0 ≡ value_upto word 0
  unfolding value_upto
  value_none = refl

  -- one more digit
  pub value_more : (i value : ℕ) → value ≡ value_upto word i → value * 10 + (get_or word i 0 - 48) ≡ value_upto word (i + 1)
  unfolding value_upto
  value_more i value e = rw (e, add-one i) refl

  -- the value of so many digits is below that power of ten
  value_below : (count : ℕ) → ((i : ℕ) → i < count → IsDigit (get_or word i 0)) → value_upto word count < 10 ^ count
  unfolding value_upto
  value_below zero digits = omega arith
  value_below (suc count) digits =
      let before : value_upto word count < 10 ^ count = value_below count (λ i l. digits i (omega arith)) in
      let digit = digits count (omega arith) in
      rw (pow-succ' 10 count) (omega (arith, before, digit.1))

  -- up to four digits leave room for another
  pub value_small : (count : ℕ) → count ≤ 4 → ((i : ℕ) → i < count → IsDigit (get_or word i 0)) → value_upto word count < 10000
  value_small count few digits = omega (arith, value_below count digits, pow-le-pow_right {n = 10} (omega arith) {i = count} {j = 4} few)
