-- The verdict: there is one, and it is the same by interval and by amount.
use mathlib.Core.Path.{◌≡◌, refl, ◌∙◌, sym, ap}
use mathlib.Core.Logic.{◌⊎◌, inl, inr, ⊎_elim, ◌↔◌}
use mathlib.Core.Bool.{Bool, true, false, false≢true}
use mathlib.Core.List.{List}
use Prim.Native.Nat.{ℕ, suc, ◌+◌, ◌-◌, ◌≤◌, ◌<◌}
use native.Mathlib.Nat.{eq-or-lt_of_le}
use native.Mathlib.Omega.{arith}
use Rattle.meaning.specs.Graph.{Graph, Sound}
use Rattle.meaning.specs.Demand.{longest_time}
use Rattle.meaning.specs.Fixed.{Task, fixed_sum}
use Rattle.meaning.specs.Verdict.{Verdict, holds, overrun, Meets, Overruns, IsVerdict}
use Rattle.meaning.specs.Computed.{seek, demand_of, shortest_of, over_by_interval, over_by_amount, verdict_by}
use Rattle.meaning.proofs.Tests.{le_or, lt_or}
use Rattle.meaning.proofs.Seeking.{seek_range, seek_before, seek_hit}
use Rattle.meaning.proofs.Existence.{demand_of_lem, shortest_of_lem}
use Rattle.meaning.proofs.Margins.{never_both, meets, overruns, overruns_by_amount, meets_by_amount}

-- a test says of the interval t whether it is overrun
abbrev pub Tells : Graph → List Task → (ℕ → Bool) → ℕ → Type 0
Tells g tasks over t = ((over t ≡ true) × Overruns g tasks t) ⊎ ((over t ≡ false) × Meets g tasks t)

module _ (g : Graph) (tasks : List Task) where
  -- there is one verdict up to H
  pub verdict_unique : (H : ℕ) (v u : Verdict) → IsVerdict g tasks H v → IsVerdict g tasks H u → v ≡ u
  verdict_unique H holds holds a b = refl
  verdict_unique H holds (overrun t) a b = absurd (never_both g tasks t (a t b.0 b.1) b.2)
  verdict_unique H (overrun t) holds a b = absurd (never_both g tasks t (b t a.0 a.1) a.2)
  verdict_unique H (overrun t) (overrun u) a b =
      ⊎_elim
      (λ l. absurd (never_both g tasks t (b.3 t a.0 l) a.2))
      (λ l. ⊎_elim (λ e. ap overrun (sym e)) (λ m. absurd (never_both g tasks u (a.3 u b.0 m) b.2)) (eq-or-lt_of_le l))
      (lt_or t u)

  -- what a right test passes over is met
  tells_false : (over : ℕ → Bool) (t : ℕ) → Tells g tasks over t → over t ≡ false → Meets g tasks t
  tells_false over t (inl p) e = absurd (false≢true (sym e ∙ p.0))
  tells_false over t (inr p) e = p.1

  -- what it names is overrun
  tells_true : (over : ℕ → Bool) (t : ℕ) → Tells g tasks over t → over t ≡ true → Overruns g tasks t
  tells_true over t (inl p) e = p.1
  tells_true over t (inr p) e = absurd (false≢true (sym p.0 ∙ e))

  -- the first interval that a right test names is the verdict
  pub verdict_is : (H : ℕ) (over : ℕ → Bool) → ((t : ℕ) → 1 ≤ t → t ≤ H → Tells g tasks over t) → IsVerdict g tasks H (verdict_by H over)
  verdict_is H over tells =
      ⊎_elim
      (λ l. rw l.1 (
        in_range.0,
        l.0,
        tells_true over first (tells first in_range.0 l.0) (seek_hit H 1 over (omega (arith, l.0))),
        λ u p q. tells_false over u (tells u p (omega (arith, l.0))) (seek_before H 1 over u p q),
      ))
      (λ l. rw l.1 (λ u p q. tells_false over u (tells u p q) (seek_before H 1 over u p (omega (arith, l.0)))))
      (le_or first H)
    where
      first : ℕ
      first = seek H 1 over

      in_range : (1 ≤ first) × (first ≤ 1 + H)
      in_range = seek_range H 1 over

module _ (g : Graph) (sound : Sound g) (tasks : List Task) where
  -- there is a verdict up to every horizon, found by demand
  pub verdict_by_interval : (H : ℕ) → IsVerdict g tasks H (verdict_by H (over_by_interval g tasks))
  verdict_by_interval H = verdict_is g tasks H (over_by_interval g tasks) λ t a b.
      ⊎_elim
      (λ p. inl (p.1, overruns g tasks t _ (demand_of_lem g sound t) p.0))
      (λ p. inr (p.1, meets g tasks t _ (demand_of_lem g sound t) (omega (arith, p.0))))
      (le_or (suc t) (demand_of g t + fixed_sum tasks t))

  -- the test by amount is right
  amount_tells : (t : ℕ) → t ≤ longest_time → Tells g tasks (over_by_amount g tasks) t
  amount_tells t h =
      let f : ℕ = fixed_sum tasks t in
      let x : ℕ = shortest_of g (suc (t - f)) in
      let over : Overruns g tasks t ↔ ((t < f) ⊎ (x ≤ t)) = overruns_by_amount g tasks t _ (demand_of_lem g sound t) x h (shortest_of_lem g sound (suc (t - f))) in
      let met : Meets g tasks t ↔ ((f ≤ t) × (t < x)) = meets_by_amount g tasks t _ (demand_of_lem g sound t) x h (shortest_of_lem g sound (suc (t - f))) in
      ⊎_elim
      (λ p. inl (rw p.1, over.1 (inl p.0)))
      (λ p. ⊎_elim
      (λ q. inl (rw p.1 q.1, over.1 (inr q.0)))
      (λ q. inr (rw p.1 q.1, met.1 (omega (arith, p.0), q.0)))
      (le_or x t))
      (le_or (suc t) f)

  -- up to the longest time the verdict is also found by shortest intervals
  pub verdict_by_amount : (H : ℕ) → H ≤ longest_time → IsVerdict g tasks H (verdict_by H (over_by_amount g tasks))
  verdict_by_amount H h = verdict_is g tasks H (over_by_amount g tasks) (λ t a b. amount_tells t (omega arith))

  -- both ways give one verdict
  pub verdicts_agree : (H : ℕ) → H ≤ longest_time → verdict_by H (over_by_interval g tasks) ≡ verdict_by H (over_by_amount g tasks)
  verdicts_agree H h = verdict_unique g tasks H _ _ (verdict_by_interval H) (verdict_by_amount H h)
