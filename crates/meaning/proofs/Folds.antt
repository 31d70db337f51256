-- The largest and the smallest of a function's values below a number.
use mathlib.Core.Path.{◌≡◌, refl, ◌∙◌, ap}
use mathlib.Core.Logic.{◌⊎◌, inl, inr, ⊎_elim}
use Prim.Native.Nat.{ℕ, zero, suc, ◌+◌, ◌≤◌, ◌<◌, max, min}
use native.Mathlib.Nat.{eq-or-lt_of_le, eq-zero-or-pos, not-suc-le-zero}
use native.Mathlib.Numerals.{add-one}
use native.Mathlib.Omega.{arith}
use Rattle.meaning.specs.Computed.{max_below, min_below}
use Rattle.meaning.proofs.Tests.{le_or, lt_or}

-- no value is above the largest
pub max_ge : (n : ℕ) (f : ℕ → ℕ) (j : ℕ) → j < n → f j ≤ max_below n f
max_ge zero f j h = absurd (not-suc-le-zero h)
max_ge (suc n) f j h =
    ⊎_elim
    (λ e. rw e (omega arith))
    (λ l. omega (arith, max_ge n f j l))
    (eq-or-lt_of_le {n = j} {m = n} (omega arith))

-- the largest is one of the values, and above 0, or it is 0
pub max_at : (n : ℕ) (f : ℕ → ℕ) → ((j : ℕ) × (j < n) × (max_below n f ≡ f j) × (0 < f j)) ⊎ (max_below n f ≡ 0)
max_at zero f = inr refl
max_at (suc n) f =
    ⊎_elim
    (λ p. ⊎_elim
    (λ q. inl (q.0, omega (arith, q.1), omega (arith, q.2), q.3))
    (λ q. ⊎_elim (λ z. inr (omega arith)) (λ z. inl (n, omega arith, omega arith, z)) (eq-zero-or-pos (f n)))
    (max_at n f))
    (λ p. inl (n, omega arith, omega arith, omega arith))
    (le_or (f n) (max_below n f))

-- one more value
pub max_more : (f : ℕ → ℕ) (j most new : ℕ) → most ≡ max_below j f → new ≡ max most (f j) → new ≡ max_below (j + 1) f
max_more f j most new p q = rw (add-one j) (q ∙ ap (λ (x : ℕ). max x (f j)) p)

-- values of 0 may be passed over
pub max_skip : (f : ℕ → ℕ) (i j : ℕ) → i ≤ j → ((m : ℕ) → i ≤ m → m < j → f m ≡ 0) → max_below j f ≡ max_below i f
max_skip f i zero h z = let e : i ≡ 0 = omega arith in rw e
max_skip f i (suc j) h z =
    ⊎_elim
    (λ e. rw e)
    (λ l.
    let before : max_below j f ≡ max_below i f = max_skip f i j (omega arith) (λ m a b. z m a (omega arith)) in
    omega (arith, z j (omega arith) (omega arith)))
    (eq-or-lt_of_le h)

-- functions with the same values have the same largest
pub max_same : (n : ℕ) (f h : ℕ → ℕ) → ((j : ℕ) → j < n → f j ≡ h j) → max_below n f ≡ max_below n h
max_same zero f h e = refl
max_same (suc n) f h e =
    let before : max_below n f ≡ max_below n h = max_same n f h (λ j l. e j (omega arith)) in
    omega (arith, e n (omega arith))

-- the smallest is at most every value
pub min_le : (n none : ℕ) (f : ℕ → ℕ) (j : ℕ) → j < n → min_below n none f ≤ f j
min_le zero none f j h = absurd (not-suc-le-zero h)
min_le (suc n) none f j h =
    ⊎_elim
    (λ e. rw e (omega arith))
    (λ l. omega (arith, min_le n none f j l))
    (eq-or-lt_of_le {n = j} {m = n} (omega arith))

-- the smallest is at most `none`
pub min_le_none : (n none : ℕ) (f : ℕ → ℕ) → min_below n none f ≤ none
min_le_none zero none f = omega arith
min_le_none (suc n) none f = omega (arith, min_le_none n none f)

-- the smallest is one of the values, and below `none`, or it is `none`
pub min_at : (n none : ℕ) (f : ℕ → ℕ) → ((j : ℕ) × (j < n) × (min_below n none f ≡ f j) × (f j < none)) ⊎ (min_below n none f ≡ none)
min_at zero none f = inr refl
min_at (suc n) none f =
    ⊎_elim
    (λ p. ⊎_elim
    (λ q. inl (q.0, omega (arith, q.1), omega (arith, q.2), q.3))
    (λ q. ⊎_elim (λ z. inl (n, omega arith, omega arith, z)) (λ z. inr (omega arith)) (lt_or (f n) none))
    (min_at n none f))
    (λ p. inl (n, omega arith, omega arith, omega (arith, min_le_none n none f)))
    (le_or (min_below n none f) (f n))

-- one more value
pub min_more : (none : ℕ) (f : ℕ → ℕ) (j fewest new : ℕ) → fewest ≡ min_below j none f → new ≡ min fewest (f j) → new ≡ min_below (j + 1) none f
min_more none f j fewest new p q = rw (add-one j) (q ∙ ap (λ (x : ℕ). min x (f j)) p)

-- values of `none` may be passed over
pub min_skip : (none : ℕ) (f : ℕ → ℕ) (i j : ℕ) → i ≤ j → ((m : ℕ) → i ≤ m → m < j → f m ≡ none) → min_below j none f ≡ min_below i none f
min_skip none f i zero h z = let e : i ≡ 0 = omega arith in rw e
min_skip none f i (suc j) h z =
    ⊎_elim
    (λ e. rw e)
    (λ l.
    let before : min_below j none f ≡ min_below i none f = min_skip none f i j (omega arith) (λ m a b. z m a (omega arith)) in
    omega (arith, z j (omega arith) (omega arith), min_le_none i none f))
    (eq-or-lt_of_le h)

-- functions with the same values have the same smallest
pub min_same : (n none : ℕ) (f h : ℕ → ℕ) → ((j : ℕ) → j < n → f j ≡ h j) → min_below n none f ≡ min_below n none h
min_same zero none f h e = refl
min_same (suc n) none f h e =
    let before : min_below n none f ≡ min_below n none h = min_same n none f h (λ j l. e j (omega arith)) in
    omega (arith, e n (omega arith))
