-- How many rows of a set stand below a place: a row more at each bit that is set, and the ones of the low part of the number.
use mathlib.Core.Path.{◌≡◌, refl, sym, ap, ◌∙◌}
use Prim.Native.Nat.{ℕ, zero, suc, ◌+◌, ◌*◌, ◌/◌, ◌%◌, ◌^◌, ◌≤◌, ◌<◌}
use native.Mathlib.Nat.{add_comm, mod-lt, mod-le, mod-eq_of_lt, one-mul, le_refl, le_trans, le-add_right, lt_of_le_of_lt, not-suc-le-zero, le_of_suc-le-suc}
use native.Mathlib.Numerals.{add-one}
use native.Mathlib.Decide.{le_ind}
use native.Mathlib.Omega.{arith}
use lib.Arith.{lt-one}
use lib.Dec.{lit<}
use lib.Pow.{pow_pos, shl_exact, mod-pow-add}
use lib.Count.{ones, ones_cat}
use Rattle.sets.specs.Sets.{bit, below}
use Rattle.sets.proofs.Bits.{bit_zero_past}

pub below_step : (s j : ℕ) → below s (j + 1) ≡ below s j + bit s j
unfolding below
below_step s j = ap (below s) (add-one j)

pub below_mono : (s i j : ℕ) → i ≤ j → below s i ≤ below s j
unfolding below
below_mono s i j l = le_ind (λ (m : ℕ). below s i ≤ below s m) (le_refl (below s i)) (λ m k e. le_trans e (le-add_right (below s m) (bit s m))) j l

pub below_le : (s j : ℕ) → below s j ≤ j
unfolding below
below_le s zero = le_refl 0
below_le s (suc j) = omega (arith, below_le s j)

-- a row of the set is not among those below it
pub below_lt : (w s j : ℕ) → bit s j ≡ 1 → j < w → below s j < below s w
unfolding below
below_lt w s j e l = omega (arith, e, below_mono s (suc j) w l)

-- clear places are not counted
pub below_clear : (s j k : ℕ) → j ≤ k → ((i : ℕ) → j ≤ i → i < k → bit s i ≡ 0) → below s k ≡ below s j
unfolding below
below_clear s j k l c =
    le_ind
    (λ (m : ℕ). m ≤ k → below s m ≡ below s j)
    (λ _. refl)
    (λ m n e h. omega (arith, e (omega arith), c m n h))
    k
    l
    (le_refl k)

-- no row stands past the width
pub below_past : (w s j : ℕ) → s < 2 ^ w → w ≤ j → below s j ≡ below s w
below_past w s j h l = below_clear s w j l (λ i k _. bit_zero_past w s i h k)

-- ---- the ones of a number

ones_bit : (r : ℕ) → r < 2 → ones r ≡ r
unfolding ones
ones_bit zero h = refl
ones_bit (suc zero) h = refl
ones_bit (suc (suc r)) h = absurd (not-suc-le-zero (le_of_suc-le-suc (le_of_suc-le-suc h)))

-- the ones of the low part are the rows below
pub ones_below : (s j : ℕ) → ones (s % 2 ^ j) ≡ below s j
unfolding below ones
ones_below s zero = ap ones (lt-one (mod-lt s (pow_pos 0)))
ones_below s (suc j) =
    ap (λ (x : ℕ). ones (s % 2 ^ x)) (sym (add-one j) ∙ add_comm j 1)
    ∙ ap ones (mod-pow-add s 1 j)
    ∙ ones_cat j (bit s j) (s % 2 ^ j) (mod-lt s (pow_pos j))
    ∙ ap (λ (x : ℕ). x + ones (s % 2 ^ j)) (ones_bit (bit s j) (mod-lt (s / 2 ^ j) (pow_pos 1)))
    ∙ add_comm (bit s j) (ones (s % 2 ^ j))
    ∙ ap (λ (x : ℕ). x + bit s j) (ones_below s j)

-- all ones of a number are the rows below its width
pub ones_all : (w s : ℕ) → s < 2 ^ w → ones s ≡ below s w
ones_all w s h = ap ones (sym (mod-eq_of_lt h)) ∙ ones_below s w

-- The bit of row j as a shift makes it in a word of w bits, and the part of the set below that bit.
module _ (w s j : ℕ) (f : s < 2 ^ w) (h : j < w) where
  mask : (1 * 2 ^ j) % 2 ^ w ≡ 2 ^ j
  mask = shl_exact 1 j w (lit< tt) (omega arith) ∙ one-mul (2 ^ j)

  pub mask_pos : 0 < (1 * 2 ^ j) % 2 ^ w
  mask_pos = rw mask (pow_pos j)

  -- the low part has the rows below j and no other
  pub below_low : below (s % ((1 * 2 ^ j) % 2 ^ w)) w ≡ below s j
  below_low =
      let low : ℕ = s % ((1 * 2 ^ j) % 2 ^ w) in
      sym (ones_all w low (lt_of_le_of_lt (mod-le s ((1 * 2 ^ j) % 2 ^ w)) f)) ∙ rw mask (ones_below s j)
