-- The table by interval: what one follower adds, what a cell is from the cells of shorter intervals, and demand from the cells of one interval.
use mathlib.Core.Path.{◌≡◌, refl, ap}
use mathlib.Core.Logic.{inl, inr, ⊎_elim}
use mathlib.Core.List.{List, [], ◌∷◌}
use Prim.Native.Nat.{ℕ, zero, suc, ◌+◌, ◌-◌, ◌≤◌, ◌<◌}
use native.Mathlib.Nat.{not-suc-le-zero}
use native.Mathlib.Omega.{arith}
use borrow.Author.Tests.{le-leb, lt-leb, lt-ltb, le-ltb}
use Rattle.meaning.specs.Graph.{Graph, Sound}
use Rattle.meaning.specs.Sequence.{amount_from, amount}
use Rattle.meaning.specs.Demand.{InTime, IsDemand}
use Rattle.meaning.specs.Cells.{InTimeFrom, IsBestFrom}
use Rattle.meaning.specs.Computed.{max_below, via_at, step_at, best_step, best_within}
use Rattle.meaning.proofs.Tests.{le_or}
use Rattle.meaning.proofs.Folds.{max_ge, max_at}
use Rattle.meaning.proofs.Sequences.{any_step, head_in, end_at_least_deadline, amount_positive}

module _ (gap : ℕ → ℕ) (table : ℕ → ℕ → ℕ) (s j : ℕ) where
  -- a follower whose gap fits adds its own cell
  pub via_take : 0 < gap j → gap j ≤ s → via_at gap table s j ≡ table (s - gap j) j
  via_take p q = rw (lt-ltb 0 (gap j) p, le-leb (gap j) s q)

  -- a follower that comes too late adds nothing
  pub via_late : s < gap j → via_at gap table s j ≡ 0
  via_late h = rw (lt-ltb 0 (gap j) (omega arith), lt-leb (gap j) s h)

  -- a row that may not follow adds nothing
  pub via_none : gap j ≤ 0 → via_at gap table s j ≡ 0
  via_none h = rw (le-ltb 0 (gap j) h)

  -- only a follower whose gap fits adds something
  pub via_positive : 0 < via_at gap table s j → (0 < gap j) × (gap j ≤ s)
  via_positive h =
      ⊎_elim
      (λ p. ⊎_elim (λ q. (p.0, q.0)) (λ q. absurd (not-suc-le-zero (rw (p.1, q.1) at h))) (le_or (gap j) s))
      (λ p. absurd (not-suc-le-zero (rw p.1 at h)))
      (le_or 1 (gap j))

module _ (n length deadline : ℕ) (gap : ℕ → ℕ) (table : ℕ → ℕ → ℕ) (s : ℕ) where
  -- before its deadline a row has nothing
  pub step_late : s < deadline → 0 ≡ step_at n length deadline gap table s
  unfolding step_at
  step_late h = rw (lt-leb deadline s h)

  -- from its deadline on a row has its length and the most that a follower adds
  pub step_done : (most : ℕ) → deadline ≤ s → most ≡ max_below n (via_at gap table s) → length + most ≡ step_at n length deadline gap table s
  unfolding step_at
  step_done most h e = rw (le-leb deadline s h) (ap (λ (x : ℕ). length + x) e)

-- the table is right at every cell that row k reads at s
abbrev pub BestBelow : Graph → (ℕ → ℕ → ℕ) → ℕ → ℕ → Type 0
BestBelow g table s k = (j : ℕ) → j < g.rows → 0 < g.gap k j → g.gap k j ≤ s → IsBestFrom g j (s - g.gap k j) (table (s - g.gap k j) j)

module _ (g : Graph) (sound : Sound g) (table : ℕ → ℕ → ℕ) (s k : ℕ) (hk : k < g.rows) (below : BestBelow g table s k) where
  -- what each follower adds
  via : ℕ → ℕ
  via = via_at (g.gap k) table s

  -- no sequence in time has more work than the best follower says
  best_bound : (rest : List ℕ) → InTimeFrom g k s rest → amount_from g k rest ≤ g.length k + max_below g.rows via
  unfolding via
  best_bound [] h = omega arith
  best_bound (j ∷ rest) h =
      let p : 0 < g.gap k j = h.0.1 in
      let q : g.gap k j ≤ s = omega (arith, h.1) in
      let hj : j < g.rows = head_in g j rest h.0.2 in
      let cell : amount_from g j rest ≤ table (s - g.gap k j) j = (below j hj p q).bound rest (h.0.2, omega (arith, h.1)) in
      omega (arith, via_take (g.gap k) table s j p q, max_ge g.rows (via_at (g.gap k) table s) j hj)

  -- and one has just that, if the row itself is in time
  best_reached : g.deadline k ≤ s → (rest : List ℕ) × InTimeFrom g k s rest × (amount_from g k rest ≡ g.length k + max_below g.rows via)
  unfolding via
  best_reached d =
      ⊎_elim
      (λ m.
      let j : ℕ = m.0 in
      let p : (0 < g.gap k j) × (g.gap k j ≤ s) = via_positive (g.gap k) table s j m.3 in
      let taken : via_at (g.gap k) table s j ≡ table (s - g.gap k j) j = via_take (g.gap k) table s j p.0 p.1 in
      ⊎_elim
      (λ r. (j ∷ r.0, (any_step g k j r.0 hk p.0 r.1.0, omega (arith, r.1.1)), omega (arith, r.2, m.2)))
      (λ r. absurd (omega (arith, r.0, m.3)))
      (below j m.1 p.0 p.1).reached)
      (λ m. ([], (hk, omega arith), omega (arith, m)))
      (max_at g.rows (via_at (g.gap k) table s))

  -- before the row's deadline no sequence is in time
  none_in_time : s < g.deadline k → (rest : List ℕ) → InTimeFrom g k s rest → ⊥
  none_in_time d rest h = omega (arith, h.1, end_at_least_deadline g sound k rest h.0)

  -- a table that is right at shorter intervals gives a right cell
  pub best_step_is : IsBestFrom g k s (best_step g table s k)
  unfolding step_at via
  best_step_is =
      ⊎_elim
      (λ d. rw d.1 record { bound = best_bound; reached = inl (best_reached d.0) })
      (λ d. rw d.1 record { bound = λ w h. absurd (none_in_time d.0 w h); reached = inr (refl, none_in_time d.0) })
      (le_or (g.deadline k) s)

-- the recursion with fuel gives right cells
pub best_within_is : (g : Graph) → Sound g → (fuel s k : ℕ) → s < fuel → k < g.rows → IsBestFrom g k s (best_within g fuel s k)
unfolding best_within
best_within_is g sound zero s k h hk = absurd (not-suc-le-zero h)
best_within_is g sound (suc fuel) s k h hk =
    best_step_is g sound (best_within g fuel) s k hk (λ j hj p q. best_within_is g sound fuel (s - g.gap k j) j (omega arith) hj)

module _ (g : Graph) (sound : Sound g) (t : ℕ) (cell : ℕ → ℕ) (right : (k : ℕ) → k < g.rows → IsBestFrom g k t (cell k)) where
  -- no sequence in time has more work than every cell
  demand_bound : (w : List ℕ) → InTime g t w → amount g w ≤ max_below g.rows cell
  demand_bound [] h = absurd h.0
  demand_bound (k ∷ rest) h =
      let hk : k < g.rows = head_in g k rest h.0 in
      omega (arith, (right k hk).bound rest h, max_ge g.rows cell k hk)

  -- demand is the largest cell of its interval
  pub demand_is : IsDemand g t (max_below g.rows cell)
  demand_is = record {
    bound = demand_bound;
    reached =
        ⊎_elim
        (λ m. ⊎_elim
        (λ r. inl (m.0 ∷ r.0, r.1, omega (arith, r.2, m.2)))
        (λ r. absurd (omega (arith, r.0, m.3)))
        (right m.0 m.1).reached)
        (λ m. inr (m, λ w h. omega (arith, demand_bound w h, amount_positive g sound w h.0, m)))
        (max_at g.rows cell);
  }
