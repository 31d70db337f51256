-- The smallest margin of the intervals up to a horizon and its earliest interval, where it is at least 0: there is one of each, and it is at most 1.
use mathlib.Core.Path.{◌≡◌, refl, sym, subst}
use mathlib.Core.Logic.{⊎_elim}
use mathlib.Core.List.{List}
use Prim.Native.Nat.{ℕ, ◌+◌, ◌-◌, ◌≤◌}
use native.Mathlib.Nat.{eq-or-lt_of_le}
use native.Mathlib.Omega.{arith}
use lib.Dec.{leb→le}
use lib.IntN.{pos, sub_ℕ}
use lib.Signed.{◌≤ℤ◌}
use borrow.Author.Tests.{lt-ltb, le-ltb}
use Rattle.meaning.specs.Graph.{Graph, Sound}
use Rattle.meaning.specs.Computed.{demand_of}
use Rattle.meaning.specs.Fixed.{Task, fixed_sum}
use Rattle.meaning.specs.Verdict.{IsMargin}
use Rattle.meaning.proofs.Existence.{demand_of_lem}
use Rattle.meaning.proofs.Margins.{margin_sub}
use Rattle.meaning.proofs.Tests.{lt_or}
use Rattle.explain.specs.Reasons.{IsSmallestMargin}

-- margins of at least 0 compare as numbers
at_most : (m n : ℕ) → pos m ≤ℤ pos n → m ≤ n
at_most m n l = leb→le m n l.le

module _ (g : Graph) (tasks : List Task) (H : ℕ) where
  module _ (t u m n : ℕ) (a : IsSmallestMargin g tasks H t (pos m)) (b : IsSmallestMargin g tasks H u (pos n)) where
    margins_alike : m ≡ n
    margins_alike =
        omega (
          arith,
          at_most m n (a.bound u (pos n) b.reached.0 b.reached.1 b.reached.2),
          at_most n m (b.bound t (pos m) a.reached.0 a.reached.1 a.reached.2),
        )

    pub smallest_unique : (t ≡ u) × (m ≡ n)
    smallest_unique = (
      ⊎_elim
          (λ l. absurd (b.earliest t a.reached.0 l (subst (λ (x : ℕ). IsMargin g tasks t (pos x)) margins_alike a.reached.2)))
          (λ l. ⊎_elim
          (λ same. sym same)
          (λ less. absurd (a.earliest u b.reached.0 less (subst (λ (x : ℕ). IsMargin g tasks u (pos x)) (sym margins_alike) b.reached.2)))
          (eq-or-lt_of_le l))
          (lt_or t u),
      margins_alike,
    )

  -- at interval 1 at most 1 is left, so the smallest margin is 0 or 1
  pub smallest_at_most_1 : Sound g → (t m : ℕ) → IsSmallestMargin g tasks H t (pos m) → m ≤ 1
  smallest_at_most_1 sound t m smallest =
      let d : ℕ = demand_of g 1 in
      let f : ℕ = fixed_sum tasks 1 in
      left (d + f) (rw (margin_sub 1 d f) at (smallest.bound 1 _ (omega arith) (omega (arith, smallest.reached.0, smallest.reached.1)) (d, demand_of_lem g sound 1, refl)))
    where
      left : (used : ℕ) → pos m ≤ℤ sub_ℕ 1 used → m ≤ 1
      left used l =
          ⊎_elim
          (λ more. absurd (rw (lt-ltb 1 used more) at l).le)
          (λ few. omega (arith, at_most m (1 - used) (rw (le-ltb 1 used few) at l)))
          (lt_or 1 used)
