-- The margin in whole numbers: a difference with a sign, at least 0 exactly where the sum of demands is at most the interval.
use mathlib.Core.Path.{◌≡◌, refl, ◌∙◌, sym, ap}
use mathlib.Core.Logic.{◌⊎◌, inl, inr, ⊎_elim, ◌↔◌}
use mathlib.Core.List.{List}
use Prim.Native.Nat.{ℕ, zero, suc, ◌+◌, ◌-◌, ◌≤◌, ◌<◌}
use native.Mathlib.Omega.{arith}
use lib.Dec.{le→leb}
use lib.IntN.{ℤ, pos, ◌+ℤ◌, ◌-ℤ◌, neg_ℤ, sub_ℕ, +ℤ_assoc, neg_ℤ-+ℤ}
use lib.Signed.{le_z_yes, lt_z_yes, clash_ℤ}
use borrow.Author.Tests.{lt-ltb, le-ltb}
use Rattle.meaning.specs.Graph.{Graph}
use Rattle.meaning.specs.Demand.{longest_time, IsDemand, IsShortest}
use Rattle.meaning.specs.Fixed.{Task, fixed_sum}
use Rattle.meaning.specs.Verdict.{IsMargin, Meets, Overruns}
use Rattle.meaning.proofs.Tests.{lt_or}
use Rattle.meaning.proofs.Unique.{demand_unique}
use Rattle.meaning.proofs.Agreement.{by_amount}

-- a difference of two naturals
pub difference : (t n : ℕ) → pos t -ℤ pos n ≡ sub_ℕ t n
difference t zero = rw (le-ltb t 0 (omega arith)) (ap pos (omega arith))
difference t (suc n) = refl

-- the margin is one difference: the interval less both demands together
pub margin_sub : (t d f : ℕ) → pos t -ℤ pos d -ℤ pos f ≡ sub_ℕ t (d + f)
margin_sub t d f =
    +ℤ_assoc (pos t) (neg_ℤ (pos d)) (neg_ℤ (pos f)) ∙ ap (λ (x : ℤ). pos t +ℤ x) (sym (neg_ℤ-+ℤ (pos d) (pos f))) ∙ difference t (d + f)

module _ (g : Graph) (tasks : List Task) where
  -- there is one margin at t
  pub margin_unique : (t : ℕ) (m n : ℤ) → IsMargin g tasks t m → IsMargin g tasks t n → m ≡ n
  margin_unique t m n a b =
      a.2 ∙ ap (λ (d : ℕ). pos t -ℤ pos d -ℤ pos (fixed_sum tasks t)) (demand_unique g t a.0 b.0 a.1 b.1) ∙ sym b.2

  module _ (t d : ℕ) (demand : IsDemand g t d) where
    -- where both demands together are at most t, t is met
    pub meets : d + fixed_sum tasks t ≤ t → Meets g tasks t
    meets h = (
      pos t -ℤ pos d -ℤ pos (fixed_sum tasks t),
      (d, demand, refl),
      rw (margin_sub, le-ltb t (d + fixed_sum tasks t) h) (le_z_yes (omega (arith, le→leb))),
    )

    -- where they are more, t is overrun
    pub overruns : t < d + fixed_sum tasks t → Overruns g tasks t
    overruns h = (pos t -ℤ pos d -ℤ pos (fixed_sum tasks t), (d, demand, refl), rw (margin_sub, lt-ltb t (d + fixed_sum tasks t) h) (lt_z_yes tt))

  -- no interval is both met and overrun
  pub never_both : (t : ℕ) → Meets g tasks t → Overruns g tasks t → ⊥
  never_both t a b = clash_ℤ b.2 (rw (margin_unique t a.0 b.0 a.1 b.1) at a.2)

  module _ (t d : ℕ) (demand : IsDemand g t d) where
    -- an interval is met exactly when both demands together are at most t
    pub meets_by_demand : Meets g tasks t ↔ (d + fixed_sum tasks t ≤ t)
    meets_by_demand = (
      (λ m. ⊎_elim (λ l. absurd (never_both t m (overruns t d demand l))) (λ l. l) (lt_or t (d + fixed_sum tasks t))),
      meets t d demand,
    )

    -- an interval is overrun exactly when they are more
    pub overruns_by_demand : Overruns g tasks t ↔ (t < d + fixed_sum tasks t)
    overruns_by_demand = (
      (λ o. ⊎_elim (λ l. l) (λ l. absurd (never_both t (meets t d demand l) o)) (lt_or t (d + fixed_sum tasks t))),
      overruns t d demand,
    )

    module _ (x : ℕ) (ht : t ≤ longest_time) (shortest : IsShortest g (suc (t - fixed_sum tasks t)) x) where
      -- the same of the numbers alone
      sums : (t < d + fixed_sum tasks t) ↔ ((t < fixed_sum tasks t) ⊎ (x ≤ t))
      sums = by_amount g t d (fixed_sum tasks t) x ht demand shortest

      -- an interval is overrun exactly when the fixed tasks alone are more than t, or the shortest interval for what they leave and one more is at most t
      pub overruns_by_amount : Overruns g tasks t ↔ ((t < fixed_sum tasks t) ⊎ (x ≤ t))
      overruns_by_amount = ((λ o. sums.0 (overruns_by_demand.0 o)), (λ c. overruns_by_demand.1 (sums.1 c)))

      -- and met exactly when neither is so
      pub meets_by_amount : Meets g tasks t ↔ ((fixed_sum tasks t ≤ t) × (t < x))
      meets_by_amount = (
        (λ m. let no-case : (t < fixed_sum tasks t) ⊎ (x ≤ t) → ⊥ = λ c. never_both t m (overruns_by_amount.1 c) in (
          ⊎_elim (λ l. absurd (no-case (inl l))) (λ l. l) (lt_or t (fixed_sum tasks t)),
          ⊎_elim (λ l. l) (λ l. absurd (no-case (inr l))) (lt_or t x),
        )),
        (λ n. ⊎_elim
            (λ l. absurd (⊎_elim (λ m. omega (arith, n.0)) (λ m. omega (arith, n.1)) (sums.0 l)))
            (meets t d demand)
            (lt_or t (d + fixed_sum tasks t))),
      )
