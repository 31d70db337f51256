-- What is made of the rows of a set, place by place: a clear place changes nothing, and a set one is one step.
use mathlib.Core.Path.{◌≡◌, refl, sym, ap, ◌∙◌}
use mathlib.Core.Logic.{⊎_elim}
use Prim.Native.Nat.{ℕ, zero, suc, ◌+◌, ◌≤◌, ◌<◌, max, min}
use native.Mathlib.Nat.{le_refl}
use native.Mathlib.Numerals.{add-one}
use native.Mathlib.Decide.{le_ind}
use native.Mathlib.Omega.{arith}
use Rattle.sets.specs.Sets.{bit, on_bit, fold_below}
use Rattle.sets.proofs.Bits.{bit_or}

module _ {ℓ} {A : Type ℓ} (f : ℕ → A → A) (a : A) (s : ℕ) where
  on_suc : (j : ℕ) → bit s j ≡ 1 → fold_below f a s (suc j) ≡ f j (fold_below f a s j)
  unfolding fold_below
  on_suc j e = ap (λ (r : ℕ). on_bit r (f j) (fold_below f a s j)) e

  off_suc : (j : ℕ) → bit s j ≡ 0 → fold_below f a s (suc j) ≡ fold_below f a s j
  unfolding fold_below
  off_suc j e = ap (λ (r : ℕ). on_bit r (f j) (fold_below f a s j)) e

  pub step_on : (j : ℕ) → bit s j ≡ 1 → fold_below f a s (j + 1) ≡ f j (fold_below f a s j)
  step_on j e = ap (fold_below f a s) (add-one j) ∙ on_suc j e

  pub step_off : (j : ℕ) → bit s j ≡ 0 → fold_below f a s (j + 1) ≡ fold_below f a s j
  step_off j e = ap (fold_below f a s) (add-one j) ∙ off_suc j e

  -- a run of clear places changes nothing
  pub fold_clear : (j k : ℕ) → j ≤ k → ((i : ℕ) → j ≤ i → i < k → bit s i ≡ 0) → fold_below f a s k ≡ fold_below f a s j
  fold_clear j k l c =
      le_ind
      (λ (m : ℕ). m ≤ k → fold_below f a s m ≡ fold_below f a s j)
      (λ _. refl)
      (λ m n e h. off_suc m (c m n h) ∙ e (omega arith))
      k
      l
      (le_refl k)

  -- from one row of the set to the next
  pub fold_next : (j k : ℕ) → j ≤ k → ((i : ℕ) → j ≤ i → i < k → bit s i ≡ 0) → bit s k ≡ 1 → fold_below f a s (suc k) ≡ f k (fold_below f a s j)
  fold_next j k l c e = on_suc k e ∙ ap (f k) (fold_clear j k l c)

  -- anything that goes the same steps below n is the fold
  pub fold_upto : (F : ℕ → A) → F 0 ≡ a → (n : ℕ) → ((j : ℕ) → j < n → bit s j ≡ 1 → F (suc j) ≡ f j (F j)) → ((j : ℕ) → j < n → bit s j ≡ 0 → F (suc j) ≡ F j)
      → fold_below f a s n ≡ F n
  unfolding fold_below
  fold_upto F z zero on off = sym z
  fold_upto F z (suc n) on off =
      let ih : fold_below f a s n ≡ F n = fold_upto F z n (λ j l. on j (omega arith)) (λ j l. off j (omega arith)) in
      ⊎_elim
      (λ e. off_suc n e ∙ ih ∙ sym (off n (le_refl (suc n)) e))
      (λ e. on_suc n e ∙ ap (f n) ih ∙ sym (on n (le_refl (suc n)) e))
      (bit_or s n)

  -- and everywhere
  pub fold_all : (F : ℕ → A) → F 0 ≡ a → ((j : ℕ) → bit s j ≡ 1 → F (suc j) ≡ f j (F j)) → ((j : ℕ) → bit s j ≡ 0 → F (suc j) ≡ F j) → (n : ℕ)
      → fold_below f a s n ≡ F n
  fold_all F z on off n = fold_upto F z n (λ j l. on j) (λ j l. off j)

-- The largest over the rows of a set is the largest over all places, where a clear place counts as 0.
-- F is that largest over all places, h what stands at a place and g what stands at a row of the set.
pub fold_as_max : (s : ℕ) (g h F : ℕ → ℕ) → F 0 ≡ 0 → ((j : ℕ) → F (suc j) ≡ max (F j) (h j))
    → ((j : ℕ) → bit s j ≡ 1 → h j ≡ g j) → ((j : ℕ) → bit s j ≡ 0 → h j ≡ 0)
    → (n : ℕ) → fold_below (λ (j m : ℕ). max m (g j)) 0 s n ≡ F n
fold_as_max s g h F z step on off =
    fold_all
    (λ (j m : ℕ). max m (g j))
    0
    s
    F
    z
    (λ j e. step j ∙ ap (max (F j)) (on j e))
    (λ j e. omega (arith, step j, off j e))

-- The smallest over the rows of a set, or d, is the smallest over all places, where a clear place counts as no less than d.
pub fold_as_min : (d s : ℕ) (g h F : ℕ → ℕ) → F 0 ≡ d → ((j : ℕ) → F (suc j) ≡ min (F j) (h j))
    → ((j : ℕ) → bit s j ≡ 1 → h j ≡ g j) → ((j : ℕ) → bit s j ≡ 0 → d ≤ h j)
    → (n : ℕ) → fold_below (λ (j m : ℕ). min m (g j)) d s n ≡ F n
fold_as_min d s g h F z step on off =
    fold_all
    (λ (j m : ℕ). min m (g j))
    d
    s
    F
    z
    (λ j e. step j ∙ ap (min (F j)) (on j e))
    (λ j e. omega (arith, step j, off j e, most j))
  where
    most : (j : ℕ) → F j ≤ d
    most zero = omega (arith, z)
    most (suc j) = omega (arith, step j, most j)
