-- Demand and shortest interval say the same, one by interval and one by amount.
use mathlib.Core.Path.{◌≡◌}
use mathlib.Core.Logic.{◌⊎◌, inl, inr, ⊎_elim, ◌↔◌}
use mathlib.Core.List.{List}
use Prim.Native.Nat.{ℕ, suc, ◌+◌, ◌-◌, ◌≤◌, ◌<◌}
use native.Mathlib.Omega.{arith}
use Rattle.meaning.specs.Graph.{Graph}
use Rattle.meaning.specs.Sequence.{amount}
use Rattle.meaning.specs.Extreme.{Largest}
use Rattle.meaning.specs.Demand.{longest_time, no_time, InTime, IsDemand, Enough, IsShortest}
use Rattle.meaning.proofs.Tests.{lt_or}

-- where more lists count, the largest is no smaller
pub largest_never_falls : (P Q : List ℕ → Type 0) (f : List ℕ → ℕ) (r q : ℕ) → ((w : List ℕ) → P w → Q w) → Largest P f r → Largest Q f q → r ≤ q
largest_never_falls P Q f r q more a b =
    ⊎_elim (λ u. omega (arith, u.2, b.bound u.0 (more u.0 u.1))) (λ u. omega (arith, u.0)) a.reached

-- demand never falls as the interval grows
pub demand_never_falls : (g : Graph) (t u d e : ℕ) → t ≤ u → IsDemand g t d → IsDemand g u e → d ≤ e
demand_never_falls g t u d e h = largest_never_falls (InTime g t) (InTime g u) (amount g) d e (λ w p. (p.0, omega (arith, p.1)))

module _ (g : Graph) (b x : ℕ) (hb : 1 ≤ b) (shortest : IsShortest g b x) where
  -- the shortest interval for b is at most t exactly when the demand at t is at least b
  pub agree : (t d : ℕ) → t ≤ longest_time → IsDemand g t d → (x ≤ t) ↔ (b ≤ d)
  agree t d ht demand = (
    (λ l. ⊎_elim
        (λ r. omega (arith, r.1.1, r.2, demand.bound r.0 (r.1.0, omega (arith, r.2))))
        (λ r. absurd (omega (arith, r.0)))
        shortest.reached),
    (λ l. ⊎_elim
        (λ r. omega (arith, r.1.1, shortest.bound r.0 (r.1.0, omega (arith, r.2), omega (arith, r.1.1))))
        (λ r. absurd (omega (arith, r.0)))
        demand.reached),
  )

  -- there is none exactly when no sequence has enough work
  pub none_enough : (x ≡ no_time) ↔ ((w : List ℕ) → Enough g b w → ⊥)
  none_enough = (
    (λ none w enough. omega (arith, none, shortest.bound w enough, enough.2)),
    (λ none. ⊎_elim (λ r. absurd (none r.0 r.1)) (λ r. r.0) shortest.reached),
  )

-- demand and a further amount f together are more than t exactly when f alone is, or the shortest interval for what f leaves of t and one more is at most t
pub by_amount : (g : Graph) (t d f x : ℕ) → t ≤ longest_time → IsDemand g t d → IsShortest g (suc (t - f)) x → (t < d + f) ↔ ((t < f) ⊎ (x ≤ t))
by_amount g t d f x ht demand shortest =
    let both : (x ≤ t) ↔ (suc (t - f) ≤ d) = agree g (suc (t - f)) x (omega arith) shortest t d ht demand in (
      (λ l. ⊎_elim (λ m. inl m) (λ m. inr (both.1 (omega arith))) (lt_or t f)),
      ⊎_elim (λ m. omega arith) (λ m. omega (arith, both.0 m)),
    )
