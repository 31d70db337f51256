-- Every definition has a value, and the functions that compute give it.
use mathlib.Core.Path.{◌≡◌, refl, ◌∙◌, sym, subst}
use mathlib.Core.Logic.{⊎_elim}
use mathlib.Core.Bool.{Bool, true, false≢true}
use mathlib.Core.List.{List}
use Prim.Native.Nat.{ℕ, zero, suc, ◌-◌, ◌≤◌, ◌<◌}
use native.Mathlib.Nat.{not-suc-le-zero}
use native.Mathlib.Omega.{arith}
use lib.Dec.{eqb}
use borrow.Author.Tests.{lt-ltb, le-leb, eqb-true, eq-eqb}
use Rattle.meaning.specs.Graph.{Graph, Sound}
use Rattle.meaning.specs.Extreme.{First}
use Rattle.meaning.specs.Demand.{IsDemand, IsWitness, IsShortest}
use Rattle.meaning.specs.Cells.{IsBestFrom, IsLeastFrom}
use Rattle.meaning.specs.Fixed.{Task}
use Rattle.meaning.specs.Verdict.{IsMargin}
use Rattle.meaning.specs.Computed.{seek, best, best_step, least, least_step, demand_of, shortest_of, goes_on, rest_within, witness_of, margin_of}
use Rattle.meaning.proofs.Tests.{le_or}
use Rattle.meaning.proofs.Seeking.{seek_before, seek_hit, seek_le}
use Rattle.meaning.proofs.Unique.{best_unique, least_unique}
use Rattle.meaning.proofs.ByInterval.{best_step_is, best_within_is, demand_is}
use Rattle.meaning.proofs.ByAmount.{least_step_is, least_within_is, shortest_is}
use Rattle.meaning.proofs.Witness.{AttainsFrom, row_in_time, stop, next_row, more, first_row, start, no_start}

module _ (g : Graph) (sound : Sound g) where
  -- every cell by interval has a value
  pub best_of : (s k : ℕ) → k < g.rows → IsBestFrom g k s (best g s k)
  unfolding best
  best_of s k hk = best_within_is g sound (suc s) s k (omega arith) hk

  -- every cell by amount has a value
  pub least_of : (a k : ℕ) → k < g.rows → IsLeastFrom g k a (least g a k)
  unfolding least
  least_of a k hk = least_within_is g sound (suc a) a k (omega arith) hk

  -- the recurrence of the table by interval
  pub best_recurs : (s k : ℕ) → k < g.rows → best g s k ≡ best_step g (best g) s k
  best_recurs s k hk =
      best_unique g k s _ _ (best_of s k hk) (best_step_is g sound (best g) s k hk (λ j hj p q. best_of (s - g.gap k j) j hj))

  -- the recurrence of the table by amount
  pub least_recurs : (a k : ℕ) → k < g.rows → least g a k ≡ least_step g (least g) a k
  least_recurs a k hk =
      least_unique g k a _ _ (least_of a k hk) (least_step_is g sound (least g) a k hk (λ j hj p q. least_of (a - g.length k) j hj))

  -- there is a demand at every interval
  pub demand_of_lem : (t : ℕ) → IsDemand g t (demand_of g t)
  unfolding demand_of
  demand_of_lem t = demand_is g sound t (best g t) (best_of t)

  -- there is a shortest interval for every amount, or none
  pub shortest_of_lem : (b : ℕ) → IsShortest g b (shortest_of g b)
  unfolding shortest_of
  shortest_of_lem b = shortest_is g b (least g b) (least_of b)

  -- there is a margin at every interval
  pub margin_of_lem : (tasks : List Task) (t : ℕ) → IsMargin g tasks t (margin_of g tasks t)
  unfolding margin_of
  margin_of_lem tasks t = (demand_of g t, demand_of_lem t, refl)

  -- what the test of a follower says
  goes_on_true : (s k r j : ℕ) → goes_on g s k r j ≡ true → (0 < g.gap k j) × (g.gap k j ≤ s) × (best g (s - g.gap k j) j ≡ r - g.length k)
  goes_on_true s k r j h =
      ⊎_elim
      (λ p. ⊎_elim
      (λ q. (p.0, q.0, eqb-true _ _ (rw (p.1, q.1) at h)))
      (λ q. absurd (false≢true (rw (p.1, q.1) at h)))
      (le_or (g.gap k j) s))
      (λ p. absurd (false≢true (rw p.1 at h)))
      (le_or 1 (g.gap k j))

  -- what makes it pass
  goes_on_lem : (s k r j : ℕ) → 0 < g.gap k j → g.gap k j ≤ s → best g (s - g.gap k j) j ≡ r - g.length k → goes_on g s k r j ≡ true
  goes_on_lem s k r j p q e = rw (lt-ltb 0 (g.gap k j) p, le-leb (g.gap k j) s q) (eq-eqb _ _ e)

  -- the rows after the first are found one after another
  rest_is : (fuel s k r : ℕ) → s < fuel → k < g.rows → 0 < r → IsBestFrom g k s r → First (AttainsFrom g k s r) (rest_within g fuel s k r)
  unfolding rest_within
  rest_is zero s k r h hk p b = absurd (not-suc-le-zero h)
  rest_is (suc fuel) s k r h hk p b =
      let in_time : (g.deadline k ≤ s) × (g.length k ≤ r) = row_in_time g sound s k r p b in
      ⊎_elim
      (λ l. rw l.1 (stop g s k r hk in_time.0 (omega (arith, l.0))))
      (λ l.
      let cell : ℕ → ℕ = λ i. best g (s - g.gap k i) i in
      let right : (i : ℕ) → i < g.rows → 0 < g.gap k i → g.gap k i ≤ s → IsBestFrom g i (s - g.gap k i) (best g (s - g.gap k i) i) =
      λ i hi p q. best_of (s - g.gap k i) i hi in
      let n : (j : ℕ) × (j < g.rows) × (0 < g.gap k j) × (g.gap k j ≤ s) × (best g (s - g.gap k j) j ≡ r - g.length k) =
      next_row g s k r hk cell right b l.0 in
      let j : ℕ = seek g.rows 0 (goes_on g s k r) in
      let hj : j < g.rows =
      omega (arith, n.1, seek_le g.rows 0 (goes_on g s k r) n.0 (omega arith) (goes_on_lem s k r n.0 n.2 n.3 n.4)) in
      let o : (0 < g.gap k j) × (g.gap k j ≤ s) × (best g (s - g.gap k j) j ≡ r - g.length k) =
      goes_on_true s k r j (seek_hit g.rows 0 (goes_on g s k r) (omega arith)) in
      let bj : IsBestFrom g j (s - g.gap k j) (r - g.length k) =
      subst (λ (x : ℕ). IsBestFrom g j (s - g.gap k j) x) o.2 (best_of (s - g.gap k j) j hj) in
      rw l.1
      (more g s k r hk cell right b l.0 j o.0 o.1
      (λ i m p q e. false≢true (sym (seek_before g.rows 0 (goes_on g s k r) i (omega arith) m) ∙ goes_on_lem s k r i p q e))
      (rest_within g fuel (s - g.gap k j) j (r - g.length k))
      (rest_is fuel (s - g.gap k j) j (r - g.length k) (omega (arith, o.0)) hj (omega (arith, l.0)) bj)))
      (le_or r (g.length k))

  -- there is a witness at every interval
  pub witness_of_lem : (t : ℕ) → IsWitness g t (witness_of g t)
  unfolding witness_of
  witness_of_lem t =
      ⊎_elim
      (λ l. rw l.1 (no_start g t (subst (λ (x : ℕ). IsDemand g t x) (omega (arith, l.0)) (demand_of_lem t))))
      (λ l.
      let d : ℕ = demand_of g t in
      let test : ℕ → Bool = λ k. eqb (best g t k) (demand_of g t) in
      let n : (k : ℕ) × (k < g.rows) × (best g t k ≡ d) = first_row g t d (best g t) (best_of t) (demand_of_lem t) l.0 in
      let k : ℕ = seek g.rows 0 test in
      let hk : k < g.rows = omega (arith, n.1, seek_le g.rows 0 test n.0 (omega arith) (eq-eqb _ _ n.2)) in
      let e : best g t k ≡ d = eqb-true _ _ (seek_hit g.rows 0 test (omega arith)) in
      let b : IsBestFrom g k t d = subst (λ (x : ℕ). IsBestFrom g k t x) e (best_of t k hk) in
      rw l.1
      (start g t d (best g t) (best_of t) (demand_of_lem t) l.0 k
      (λ i m e. false≢true (sym (seek_before g.rows 0 test i (omega arith) m) ∙ eq-eqb _ _ e))
      (rest_within g (suc t) t k d)
      (rest_is (suc t) t k d (omega arith) hk l.0 b)))
      (le_or (demand_of g t) 0)
