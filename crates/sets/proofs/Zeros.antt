-- What the trailing zeros of a number say of its bits: they lead to its lowest set bit, by halving until the number is odd.
use mathlib.Core.Path.{◌≡◌, refl, sym, ap, ap₂, ◌∙◌, subst}
use Prim.Native.Nat.{ℕ, zero, suc, ◌+◌, ◌-◌, ◌*◌, ◌/◌, ◌%◌, ◌^◌, ◌<◌, min}
use native.Mathlib.Nat.{add-zero, zero-add, suc-add, mul-one, mul_assoc, pow-suc, zero-min, min-zero, lt_irrefl, not-suc-le-zero, le_of_suc-le-suc}
use native.Mathlib.Omega.{arith}
use lib.Arith.{lt-one}
use lib.Bits.{bit_and, and_step, and_self, shifted_half, shifted_even}
use lib.Count.{count_trailing_zeros, under}
use Rattle.sets.specs.Sets.{bit}
use Rattle.sets.proofs.Bits.{shr_first}

-- the bit there is set
pub tz_set : (w n : ℕ) → 0 < n → n < 2 ^ w → bit n (count_trailing_zeros w n) ≡ 1
unfolding count_trailing_zeros
tz_set zero n p h = absurd (lt_irrefl 0 (subst (λ (x : ℕ). 0 < x) (lt-one h) p))
tz_set (suc w) n p h = go (tz_set w (n / 2)) (n % 2) refl
  where
    go : (0 < n / 2 → n / 2 < 2 ^ w → bit (n / 2) (count_trailing_zeros w (n / 2)) ≡ 1)
        → (r : ℕ) → n % 2 ≡ r → bit n (under r (count_trailing_zeros w (n / 2))) ≡ 1
    go ih zero e =
        ap (λ (x : ℕ). x % 2) (shr_first n (count_trailing_zeros w (n / 2)))
        ∙ ih (omega (arith, e, p)) (omega (arith, h, pow-suc 2 w))
    go ih (suc r) e = omega (arith, e)

-- those below it are clear
pub tz_clear : (w n i : ℕ) → i < count_trailing_zeros w n → bit n i ≡ 0
unfolding count_trailing_zeros
tz_clear zero n i h = absurd (not-suc-le-zero h)
tz_clear (suc w) n i h = go (tz_clear w (n / 2)) (n % 2) refl i h
  where
    go : ((i : ℕ) → i < count_trailing_zeros w (n / 2) → bit (n / 2) i ≡ 0)
        → (r : ℕ) → n % 2 ≡ r → (i : ℕ) → i < under r (count_trailing_zeros w (n / 2)) → bit n i ≡ 0
    go ih zero e zero l = omega (arith, e)
    go ih zero e (suc i) l = ap (λ (x : ℕ). x % 2) (shr_first n i) ∙ ih i (le_of_suc-le-suc l)
    go ih (suc r) e i l = absurd (not-suc-le-zero l)

-- zeros put below a number are counted with its own
pub tz_high : (j d x : ℕ) → count_trailing_zeros (j + d) (x * 2 ^ j) ≡ j + count_trailing_zeros d x
unfolding count_trailing_zeros
tz_high zero d x = ap₂ count_trailing_zeros (zero-add d) (mul-one x) ∙ sym (zero-add (count_trailing_zeros d x))
tz_high (suc j) d x =
    ap (λ (k : ℕ). count_trailing_zeros k (x * 2 ^ suc j)) (suc-add j d)
    ∙ ap (λ (r : ℕ). under r (count_trailing_zeros (j + d) (x * 2 ^ suc j / 2))) (shifted_even x j)
    ∙ ap (λ (y : ℕ). suc (count_trailing_zeros (j + d) y)) (shifted_half x j)
    ∙ ap suc (tz_high j d x)
    ∙ sym (suc-add j (count_trailing_zeros d x))

-- a number and the one before it share the bits above the lowest set bit, and no other
pub and_pred : (w n : ℕ) → 0 < n → n < 2 ^ w → bit_and n (n - 1) ≡ n / 2 ^ suc (count_trailing_zeros w n) * 2 ^ suc (count_trailing_zeros w n)
unfolding count_trailing_zeros
and_pred zero n p h = absurd (lt_irrefl 0 (subst (λ (x : ℕ). 0 < x) (lt-one h) p))
and_pred (suc w) n p h = go (and_pred w (n / 2)) (n % 2) refl
  where
    go : (0 < n / 2 → n / 2 < 2 ^ w → bit_and (n / 2) (n / 2 - 1) ≡ n / 2 / 2 ^ suc (count_trailing_zeros w (n / 2)) * 2 ^ suc (count_trailing_zeros w (n / 2)))
        → (r : ℕ) → n % 2 ≡ r → bit_and n (n - 1) ≡ n / 2 ^ suc (under r (count_trailing_zeros w (n / 2))) * 2 ^ suc (under r (count_trailing_zeros w (n / 2)))
    go ih zero e =
        let t = count_trailing_zeros w (n / 2) in
        let lo : (n - 1) / 2 ≡ n / 2 - 1 = omega (arith, e, p) in
        and_step n (n - 1)
        ∙ ap₂ (λ (x y : ℕ). bit_and (n / 2) x * 2 + min y ((n - 1) % 2)) lo e
        ∙ ap (λ (x : ℕ). bit_and (n / 2) (n / 2 - 1) * 2 + x) (zero-min ((n - 1) % 2))
        ∙ add-zero (bit_and (n / 2) (n / 2 - 1) * 2)
        ∙ ap (λ (x : ℕ). x * 2) (ih (omega (arith, e, p)) (omega (arith, h, pow-suc 2 w)))
        ∙ mul_assoc (n / 2 / 2 ^ suc t) (2 ^ suc t) 2
        ∙ ap₂ (λ (x y : ℕ). x * y) (sym (shr_first n (suc t))) (sym (pow-suc 2 (suc t)))
    go ih (suc r) e =
        let q : (n - 1) / 2 ≡ n / 2 = omega (arith, e) in
        let z : (n - 1) % 2 ≡ 0 = omega (arith, e) in
        and_step n (n - 1)
        ∙ ap₂ (λ (x y : ℕ). bit_and (n / 2) x * 2 + min (n % 2) y) q z
        ∙ ap₂ (λ (x y : ℕ). x * 2 + y) (and_self (n / 2)) (min-zero (n % 2))
        ∙ add-zero (n / 2 * 2)
