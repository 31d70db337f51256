-- One bit of a set, and what clear bits say of the whole set: a halving drops the lowest bit, so a number whose bits are all clear is 0.
use mathlib.Core.Path.{◌≡◌, sym, ap, ◌∙◌, subst}
use mathlib.Core.Logic.{◌⊎◌, inl, inr, ⊎_elim, ◌↔◌}
use mathlib.Core.Bool.{true}
use Prim.Native.Nat.{ℕ, zero, suc, ◌+◌, ◌/◌, ◌%◌, ◌^◌, ◌≤◌, ◌<◌, max}
use native.Mathlib.Nat.{add_comm, pow-suc, div-one, one-mul, div-eq_of_lt, div-lt_iff_lt-mul, eq-zero-or-pos, le-add_right, lt_of_lt_of_le, lt_of_le_of_lt, lt_of_not-le, le-max_left, le-max_right, zero-lt-suc}
use native.Mathlib.Numerals.{add-one}
use native.Mathlib.Omega.{arith}
use lib.Arith.{lt-one}
use lib.Pow.{pow_pos, pow_mono, shr-shr}
use borrow.Author.Tests.{eqb-true}
use Rattle.sets.specs.Sets.{bit, member}

-- one place up is one halving more
pub shr_suc : (s j : ℕ) → s / 2 ^ suc j ≡ s / 2 ^ j / 2
shr_suc s j = ap (λ (x : ℕ). s / 2 ^ x) (sym (add-one j)) ∙ sym (shr-shr s j 1)

-- and it is the same to halve first
pub shr_first : (s j : ℕ) → s / 2 ^ suc j ≡ s / 2 / 2 ^ j
shr_first s j = ap (λ (x : ℕ). s / 2 ^ x) (sym (add-one j) ∙ add_comm j 1) ∙ sym (shr-shr s 1 j)

-- the bits from j on, moved down
pub bit_shr : (s j i : ℕ) → bit s (j + i) ≡ bit (s / 2 ^ j) i
bit_shr s j i = ap (λ (x : ℕ). x % 2) (sym (shr-shr s j i))

pub bit_or : (s j : ℕ) → (bit s j ≡ 0) ⊎ (bit s j ≡ 1)
bit_or s j = ⊎_elim inl (λ p. inr (omega arith)) (eq-zero-or-pos (bit s j))

pub member_true : (s j : ℕ) → member s j ≡ true → bit s j ≡ 1
member_true s j e = eqb-true (bit s j) 1 e

-- ---- the width of a set

pub bit_zero_past : (w s j : ℕ) → s < 2 ^ w → w ≤ j → bit s j ≡ 0
bit_zero_past w s j h l = ap (λ (x : ℕ). x % 2) (div-eq_of_lt (lt_of_lt_of_le h (pow_mono l)))

-- a row of the set is below the width
pub bit_within : (w s j : ℕ) → s < 2 ^ w → bit s j ≡ 1 → j < w
bit_within w s j h e = lt_of_not-le (λ (l : w ≤ j). omega (arith, e, bit_zero_past w s j h l))

clear_zero : (w s : ℕ) → s < 2 ^ w → ((j : ℕ) → j < w → bit s j ≡ 0) → s ≡ 0
clear_zero zero s h c = lt-one h
clear_zero (suc w) s h c =
    let half : s / 2 ≡ 0 =
    clear_zero w (s / 2) (omega (arith, pow-suc 2 w)) (λ j l. ap (λ (x : ℕ). x % 2) (sym (shr_first s j)) ∙ c (suc j) (omega arith)) in
    let low : s % 2 ≡ 0 = ap (λ (x : ℕ). x % 2) (sym (div-one s)) ∙ c 0 (zero-lt-suc w) in
    omega arith

-- a set is empty exactly when it has no row below its width
pub empty : (w s : ℕ) → s < 2 ^ w → (s ≡ 0) ↔ ((j : ℕ) → j < w → bit s j ≡ 0)
empty w s h = ((λ e j l. bit_zero_past 0 s j (rw e (zero-lt-suc 0)) (omega arith)), clear_zero w s h)

lt_pow : (n : ℕ) → n < 2 ^ n
lt_pow zero = zero-lt-suc 0
lt_pow (suc n) = omega (arith, lt_pow n, pow-suc 2 n)

-- what is left above n is nothing exactly when the set is below 2 ^ n
pub shr_zero : (n s : ℕ) → (s / 2 ^ n ≡ 0) ↔ (s < 2 ^ n)
shr_zero n s =
    ((λ e. subst (λ (x : ℕ). s < x) (one-mul (2 ^ n)) ((div-lt_iff_lt-mul (pow_pos n)).0 (rw e (zero-lt-suc 0)))), (λ h. div-eq_of_lt h))

-- all rows of a set are below n exactly when the set is below 2 ^ n
pub all_below : (n s : ℕ) → (s < 2 ^ n) ↔ ((j : ℕ) → n ≤ j → bit s j ≡ 0)
all_below n s = (
  (λ h j l. bit_zero_past n s j h l),
  (λ c. (shr_zero n s).0 (clear_zero (s / 2 ^ n) (s / 2 ^ n) (lt_pow (s / 2 ^ n)) (λ i l. sym (bit_shr s n i) ∙ c (n + i) (le-add_right n i)))),
)

-- the larger of two sets reaches n exactly when one of them does
pub max_shr : (n s t : ℕ) → (max s t / 2 ^ n ≡ 0) ↔ ((s / 2 ^ n ≡ 0) × (t / 2 ^ n ≡ 0))
max_shr n s t = (
  (λ e.
      let h : max s t < 2 ^ n = (shr_zero n (max s t)).0 e in
      ((shr_zero n s).1 (lt_of_le_of_lt (le-max_left s t) h), (shr_zero n t).1 (lt_of_le_of_lt (le-max_right s t) h))),
  (λ p.
      let h : s < 2 ^ n = (shr_zero n s).0 p.0 in
      let k : t < 2 ^ n = (shr_zero n t).0 p.1 in
      (shr_zero n (max s t)).1 (omega arith)),
)
