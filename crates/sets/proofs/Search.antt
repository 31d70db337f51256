-- The next row of a set: it is found exactly at the first set bit from a place on, and the trailing zeros of what is left lead there.
use mathlib.Core.Path.{◌≡◌, refl, sym, ap, ◌∙◌}
use mathlib.Core.Logic.{⊎_elim}
use Prim.Native.Nat.{ℕ, zero, suc, ◌+◌, ◌-◌, ◌/◌, ◌%◌, ◌^◌, ◌≤◌, ◌<◌}
use native.Mathlib.Nat.{eq-or-lt_of_le, le-add_right, lt_of_le_of_lt, sub-eq-zero_of_le, le_dest}
use native.Mathlib.Omega.{arith}
use lib.Pow.{shr_le}
use lib.Count.{count_trailing_zeros}
use Rattle.std.specs.Prelude.{Some, None}
use Rattle.sets.specs.Sets.{bit, pick_next, next_in}
use Rattle.sets.proofs.Bits.{shr_suc, bit_shr, bit_or, bit_within}
use Rattle.sets.proofs.Zeros.{tz_set, tz_clear}

-- row k is the first of the d rows from j on that is in the set s
pub record First (d s j k : ℕ) : Type 0 where
  pub is_in : bit s k ≡ 1
  pub from : j ≤ k
  pub within : k < j + d
  pub clear : (i : ℕ) → j ≤ i → i < k → bit s i ≡ 0

-- what holds at j and at each place after it holds from j on
from_next : (P : ℕ → Type 0) (j i : ℕ) → P j → (suc j ≤ i → P i) → j ≤ i → P i
from_next P j i here later l = ⊎_elim (λ e. rw e at here) later (eq-or-lt_of_le l)

-- what the search finds is the first
pub next_at : (d s j k : ℕ) → next_in d s j ≡ Some k → First d s j k
unfolding next_in
next_at zero s j k e = let z : ◌≡◌ {A = ℕ} 0 1 = cc in absurd (omega arith)
next_at (suc d) s j k e = go (next_at d s (suc j) k) (bit s j) refl e
  where
    go : (next_in d s (suc j) ≡ Some k → First d s (suc j) k)
        → (r : ℕ) → bit s j ≡ r → pick_next r (Some j) (next_in d s (suc j)) ≡ Some k → First (suc d) s j k
    go ih zero b e =
        let f = ih e in
        record {
          is_in = f.is_in;
          from = omega (arith, f.from);
          within = omega (arith, f.within);
          clear = λ i l h. from_next (λ (x : ℕ). x < k → bit s x ≡ 0) j i (λ _. b) (λ m. f.clear i m) l h;
        }
    go ih (suc r) b e =
        let here : j ≡ k = cc in
        let set : bit s j ≡ 1 = omega arith in
        record {
          is_in = rw here at set;
          from = omega arith;
          within = omega arith;
          clear = λ i l h. absurd (omega arith);
        }

-- and the first is what it finds
pub next_is : (d s j k : ℕ) → First d s j k → next_in d s j ≡ Some k
unfolding next_in
next_is zero s j k f = absurd (omega (arith, f.from, f.within))
next_is (suc d) s j k f =
    ⊎_elim
    (λ e.
    let set : bit s j ≡ 1 = rw e f.is_in in
    ap (λ (r : ℕ). pick_next r (Some j) (next_in d s (suc j))) set ∙ ap Some e)
    (λ l.
    ap (λ (r : ℕ). pick_next r (Some j) (next_in d s (suc j))) (f.clear j (omega arith) l)
    ∙ next_is d s (suc j) k (record { is_in = f.is_in; from = l; within = omega (arith, f.within); clear = λ i m h. f.clear i (omega arith) h }))
    (eq-or-lt_of_le f.from)

-- where it finds nothing all places looked at are clear
pub next_none : (d s j : ℕ) → next_in d s j ≡ None → (i : ℕ) → j ≤ i → i < j + d → bit s i ≡ 0
unfolding next_in
next_none zero s j e i l h = absurd (omega arith)
next_none (suc d) s j e i l h = go (next_none d s (suc j)) (bit s j) refl e
  where
    go : (next_in d s (suc j) ≡ None → (i : ℕ) → suc j ≤ i → i < suc j + d → bit s i ≡ 0)
        → (r : ℕ) → bit s j ≡ r → pick_next r (Some j) (next_in d s (suc j)) ≡ None → bit s i ≡ 0
    go ih zero b e = from_next (λ (x : ℕ). x < j + suc d → bit s x ≡ 0) j i (λ _. b) (λ m k. ih e i m (omega arith)) l h
    go ih (suc r) b e = let z : ◌≡◌ {A = ℕ} 0 1 = cc in absurd (omega arith)

-- and of a set of the width that was looked through, all places from there on
pub next_none_all : (w s j : ℕ) → s < 2 ^ w → next_in (w - j) s j ≡ None → (i : ℕ) → j ≤ i → bit s i ≡ 0
next_none_all w s j h e i l =
    ⊎_elim
    (λ z. z)
    (λ o. next_none (w - j) s j e i l (omega (arith, bit_within w s i h o)))
    (bit_or s i)

-- ---- what is left from a place on

-- nothing left: nothing is found
pub none : (d s j : ℕ) → s / 2 ^ j ≡ 0 → next_in d s j ≡ None
unfolding next_in
none zero s j h = refl
none (suc d) s j h =
    ap (λ (x : ℕ). pick_next (x % 2) (Some j) (next_in d s (suc j))) h
    ∙ none d s (suc j) (shr_suc s j ∙ ap (λ (x : ℕ). x / 2) h)

-- something left: its trailing zeros lead to the row
pub some_at : (w s j : ℕ) → s < 2 ^ w → (s / 2 ^ j ≡ 0 → ⊥) → next_in (w - j) s j ≡ Some (j + count_trailing_zeros w (s / 2 ^ j))
some_at w s j h p =
    let t = count_trailing_zeros w (s / 2 ^ j) in
    let set : bit s (j + t) ≡ 1 = bit_shr s j t ∙ tz_set w (s / 2 ^ j) (omega (arith, p)) (lt_of_le_of_lt (shr_le s j) h) in
    next_is
    (w - j)
    s
    j
    (j + t)
    (record {
      is_in = set;
      from = le-add_right j t;
      within = omega (arith, bit_within w s (j + t) h set);
      clear = λ i l k.
          let d = le_dest l in
          ap (bit s) (sym d.1) ∙ bit_shr s j d.0 ∙ tz_clear w (s / 2 ^ j) d.0 (omega (arith, d.1));
    })

-- past the width nothing is looked at
pub past : (w s j : ℕ) → w ≤ j → next_in (w - j) s j ≡ None
unfolding next_in
past w s j h = ap (λ (d : ℕ). next_in d s j) (sub-eq-zero_of_le h)
