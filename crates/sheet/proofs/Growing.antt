-- An array that is filled from the front: what holds of each value that counts, and of each with the next, holds with one value more.
use Prim.Native.Nat.{ℕ, ◌+◌, ◌≤◌, ◌<◌}
use native.Mathlib.Omega.{arith}
use native.Mathlib.Nat.{eq-or-lt_of_le, le_refl}
use mathlib.Core.Path.{◌≡◌, ap}
use mathlib.Core.Logic.{⊎_elim}
use mathlib.Core.List.{List}
use lib.ListN.{length, get_or, take, set, replicate, length-set, length-replicate, get_or-eq_default}
use lib.Seq.{length-take-le, get_or-set_same, get_or-set_other}
use Rattle.meaning.proofs.Tests.{lt_or}

module _ {A : Type 0} (none : A) where
  -- each of the first `count` values has F
  abbrev pub Each : (A → Type 0) → List A → ℕ → Type 0
  Each F values count = (k : ℕ) → k < count → F (get_or values k none)

  -- the array has room for `limit` values and holds at most as many, of which each has F
  pub record Held (limit : ℕ) (F : A → Type 0) (values : List A) (count : ℕ) : Type 0 where
    pub room : length values ≡ limit
    pub most : count ≤ limit
    pub each : Each F values count

  -- f rises along the first `count` values up to `last`, which is 0 where there is none
  pub record Rising (f : A → ℕ) (values : List A) (count last : ℕ) : Type 0 where
    pub rise : (k : ℕ) → k + 1 < count → f (get_or values k none) < f (get_or values (k + 1) none)
    pub most : Each (λ a. f a ≤ last) values count
    pub ends : (k : ℕ) → k + 1 ≡ count → f (get_or values k none) ≡ last
    pub starts : count ≡ 0 → last ≡ 0

  pub held_none : (limit : ℕ) (F : A → Type 0) → Held limit F (replicate limit none) 0
  held_none limit F = record { room = length-replicate limit none; most = omega arith; each = λ k h. absurd (omega arith) }

  pub rising_none : (f : A → ℕ) (values : List A) → Rising f values 0 0
  rising_none f values =
      record {
        rise = λ k h. absurd (omega arith);
        most = λ k h. absurd (omega arith);
        ends = λ k e. absurd (omega arith);
        starts = λ e. e;
      }

  -- where what stands past the end has not F, all that counts stands in the array
  pub all_there : (F : A → Type 0) (values : List A) (count : ℕ) → (F none → ⊥) → Each F values count → length (take count values) ≡ count
  all_there F values count never each =
      ⊎_elim
      (λ l. absurd (never (rw (get_or-eq_default values none (le_refl (length values))) at (each (length values) l))))
      (λ l. length-take-le count values l)
      (lt_or (length values) count)

  module _ (values : List A) (count : ℕ) (a : A) (free : count < length values) where
    -- the values before stay, and the new one stands after them
    before : (k : ℕ) → k < count → get_or (set values count a) k none ≡ get_or values k none
    before k h = get_or-set_other values count k a none (λ (e : k ≡ count). omega arith)

    new : (k : ℕ) → k ≡ count → get_or (set values count a) k none ≡ a
    new k e = rw e (get_or-set_same values count a none free)

    each_more : (F : A → Type 0) → F a → Each F values count → Each F (set values count a) (count + 1)
    each_more F one each k h =
        let l : k ≤ count = omega arith in
        ⊎_elim (λ e. rw (new k e) one) (λ b. rw (before k b) (each k b)) (eq-or-lt_of_le l)

    -- what holds of each value and the next one
    pub pairs_more : (R : A → A → Type 0) → ((k : ℕ) → k + 1 ≡ count → R (get_or values k none) a)
        → ((k : ℕ) → k + 1 < count → R (get_or values k none) (get_or values (k + 1) none))
        → (k : ℕ) → k + 1 < count + 1 → R (get_or (set values count a) k none) (get_or (set values count a) (k + 1) none)
    pairs_more R last pairs k h =
        let l : k + 1 ≤ count = omega arith in
        ⊎_elim (λ e. rw (before k (omega arith), new (k + 1) e) (last k e)) (λ b. rw (before k (omega arith), before (k + 1) b) (pairs k b)) (eq-or-lt_of_le l)

    -- the last one
    pub last_new : (k : ℕ) → k + 1 ≡ count + 1 → get_or (set values count a) k none ≡ a
    last_new k e = new k (omega arith)

    pub held_more : (limit : ℕ) (F : A → Type 0) → F a → Held limit F values count → Held limit F (set values count a) (count + 1)
    held_more limit F one held =
        record { room = simp length-set held.room; most = omega (arith, held.room); each = each_more F one held.each }

    pub rising_more : (f : A → ℕ) (last : ℕ) → last < f a → Rising f values count last → Rising f (set values count a) (count + 1) (f a)
    rising_more f last above rising =
        record {
          rise = pairs_more (λ one next. f one < f next) (λ k e. omega (arith, rising.ends k e)) rising.rise;
          most = each_more (λ b. f b ≤ f a) (omega arith) (λ k h. omega (arith, rising.most k h));
          ends = λ k e. ap f (last_new k e);
          starts = λ e. absurd (omega arith);
        }
