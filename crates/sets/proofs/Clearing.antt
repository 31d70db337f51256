-- A loop that takes the lowest row of what is left and clears it: what is left is always the set without its places below one place.
use mathlib.Core.Path.{◌≡◌, refl, sym, ap, ap₂, ◌∙◌, subst}
use Prim.Native.Nat.{ℕ, zero, suc, ◌+◌, ◌-◌, ◌*◌, ◌/◌, ◌^◌, ◌≤◌, ◌<◌, zero-le}
use native.Mathlib.Nat.{add-suc, zero-mul, zero-div, mul-one, div-one, div-mul-le_self, lt_irrefl, lt_of_le_of_lt, sub-add_cancel, add-sub_of_le, le_dest}
use native.Mathlib.Omega.{arith}
use lib.Pow.{shr_lt, shr-shr, shl-shr}
use lib.Bits.{bit_and}
use lib.Count.{count_trailing_zeros}
use Rattle.sets.specs.Sets.{bit, below, fold_below}
use Rattle.sets.proofs.Bits.{bit_shr, bit_within, shr_zero, all_below}
use Rattle.sets.proofs.Counts.{below_clear}
use Rattle.sets.proofs.Zeros.{tz_set, tz_clear, tz_high, and_pred}
use Rattle.sets.proofs.Folds.{fold_clear, fold_next}

pos_left : (x m : ℕ) → 0 < x * m → 0 < x
pos_left zero m h = absurd (lt_irrefl 0 (subst (λ (y : ℕ). 0 < y) (zero-mul m) h))
pos_left (suc x) m h = omega arith

high_high : (s j m : ℕ) → s / 2 ^ j * 2 ^ j / 2 ^ (j + m) ≡ s / 2 ^ (j + m)
high_high s j m = sym (shr-shr (s / 2 ^ j * 2 ^ j) j m) ∙ ap (λ (x : ℕ). x / 2 ^ m) (shl-shr (s / 2 ^ j) j) ∙ shr-shr s j m

-- The lowest row of what is left, where rest is the set without its places below j.
module _ (w s rest j : ℕ) (h : s < 2 ^ w) (l : j ≤ w) (e : rest ≡ s / 2 ^ j * 2 ^ j) (p : rest ≡ 0 → ⊥) where
  rest_pos : 0 < rest
  rest_pos = omega (arith, p)

  rest_lt : rest < 2 ^ w
  rest_lt = lt_of_le_of_lt (subst (λ (x : ℕ). x ≤ s) (sym e) (div-mul-le_self s (2 ^ j))) h

  high_pos : 0 < s / 2 ^ j
  high_pos = pos_left (s / 2 ^ j) (2 ^ j) (rw e at rest_pos)

  high_lt : s / 2 ^ j < 2 ^ (w - j)
  high_lt = shr_lt (w - j) j (rw (sub-add_cancel l) h)

  lowest_is : count_trailing_zeros w rest ≡ j + count_trailing_zeros (w - j) (s / 2 ^ j)
  lowest_is = ap₂ count_trailing_zeros (sym (add-sub_of_le l)) e ∙ tz_high j (w - j) (s / 2 ^ j)

  lowest_bit : bit s (count_trailing_zeros w rest) ≡ 1
  lowest_bit = ap (bit s) lowest_is ∙ bit_shr s j (count_trailing_zeros (w - j) (s / 2 ^ j)) ∙ tz_set (w - j) (s / 2 ^ j) high_pos high_lt

  lowest_from : j ≤ count_trailing_zeros w rest
  lowest_from = omega (arith, lowest_is)

  lowest_clear : (i : ℕ) → j ≤ i → i < count_trailing_zeros w rest → bit s i ≡ 0
  lowest_clear i m k =
      let d = le_dest m in
      ap (bit s) (sym d.1) ∙ bit_shr s j d.0 ∙ tz_clear (w - j) (s / 2 ^ j) d.0 (omega (arith, d.1, lowest_is))

  cleared : bit_and rest (rest - 1) ≡ s / 2 ^ suc (count_trailing_zeros w rest) * 2 ^ suc (count_trailing_zeros w rest)
  cleared =
      let t : ℕ = count_trailing_zeros (w - j) (s / 2 ^ j) in
      let m : suc (count_trailing_zeros w rest) ≡ j + suc t = ap suc lowest_is ∙ sym (add-suc j t) in
      and_pred w rest rest_pos rest_lt
      ∙ ap (λ (y : ℕ). y * 2 ^ suc (count_trailing_zeros w rest))
      (ap₂ (λ (n k : ℕ). n / 2 ^ k) e m ∙ high_high s j (suc t) ∙ ap (λ (k : ℕ). s / 2 ^ k) (sym m))

-- ---- the loop's invariant

-- rest is the set s without its places below `from`, and acc what f made of the rows there
pub record Left {ℓ} {A : Type ℓ} (f : ℕ → A → A) (a : A) (w s rest : ℕ) (acc : A) : Type ℓ where
  pub from : ℕ
  pub within : from ≤ w
  pub is : rest ≡ s / 2 ^ from * 2 ^ from
  pub got : acc ≡ fold_below f a s from

-- at first all of the set is left
unfoldable pub left_start {ℓ} : {A : Type ℓ} (f : ℕ → A → A) (a : A) (w s : ℕ) → Left f a w s s a
unfolding fold_below
left_start f a w s = record { from = 0; within = zero-le; is = sym (mul-one (s / 2 ^ 0) ∙ div-one s); got = refl }

-- the same with what was made of the rows said in another way
pub left_same {ℓ} : {A : Type ℓ} (f : ℕ → A → A) (a : A) (w s rest : ℕ) (acc other : A) → other ≡ acc → (v : Left f a w s rest acc)
    → (u : Left f a w s rest other) × (u.from ≡ v.from)
left_same f a w s rest acc other e v = (record { from = v.from; within = v.within; is = v.is; got = e ∙ v.got }, refl)

-- when nothing is left all rows of the set are done
pub left_done {ℓ} : {A : Type ℓ} (f : ℕ → A → A) (a : A) (w s rest : ℕ) (acc : A) → Left f a w s rest acc → rest ≡ 0 → acc ≡ fold_below f a s w
left_done f a w s rest acc v e =
    let j : ℕ = v.from in
    let none : s / 2 ^ j ≡ 0 = sym (shl-shr (s / 2 ^ j) j) ∙ ap (λ (x : ℕ). x / 2 ^ j) (sym v.is ∙ e) ∙ zero-div (2 ^ j) in
    v.got ∙ sym (fold_clear f a s j w v.within (λ i l _. (all_below j s).0 ((shr_zero j s).0 none) i l))

-- A turn of the loop, while something is left.
module _ {ℓ} {A : Type ℓ} (f : ℕ → A → A) (a : A) (w s rest : ℕ) (acc : A) (h : s < 2 ^ w) (v : Left f a w s rest acc) (p : rest ≡ 0 → ⊥) where
  -- the place of the turn is a row of the set
  pub left_bit : bit s (count_trailing_zeros w rest) ≡ 1
  left_bit = lowest_bit w s rest v.from h v.within v.is p

  -- so it is below any width that holds the set
  pub left_place : (n : ℕ) → s < 2 ^ n → count_trailing_zeros w rest < n
  left_place n l = bit_within n s (count_trailing_zeros w rest) l left_bit

  pub left_at : count_trailing_zeros w rest < w
  left_at = left_place w h

  -- with its bit cleared and its row done the next turn begins
  pub left_next : Left f a w s (bit_and rest (rest - 1)) (f (count_trailing_zeros w rest) acc)
  left_next =
      let j : ℕ = v.from in
      record {
        from = suc (count_trailing_zeros w rest);
        within = left_at;
        is = cleared w s rest j h v.within v.is p;
        got =
            ap (f (count_trailing_zeros w rest)) v.got
            ∙ sym
            (fold_next f a s j (count_trailing_zeros w rest) (lowest_from w s rest j h v.within v.is p) (lowest_clear w s rest j h v.within v.is p) left_bit);
      }

  pub left_from : left_next.from ≡ suc (count_trailing_zeros w rest)
  unfolding left_next
  left_from = refl

  -- as many rows stand below the place of the turn as below the place where the rest begins
  pub left_below : below s (count_trailing_zeros w rest) ≡ below s v.from
  left_below =
      below_clear
      s
      v.from
      (count_trailing_zeros w rest)
      (lowest_from w s rest v.from h v.within v.is p)
      (lowest_clear w s rest v.from h v.within v.is p)

  -- and one more below the place where the next turn's rest begins
  pub left_below_next : below s left_next.from ≡ below s v.from + 1
  unfolding left_next below
  left_below_next = ap₂ (λ (m n : ℕ). m + n) left_below left_bit
