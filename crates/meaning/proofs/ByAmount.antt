-- The table by amount: what one follower gives, what a cell is from the cells of smaller amounts, and the shortest interval from the cells of one amount.
use mathlib.Core.Path.{◌≡◌, refl, ◌∙◌, sym}
use mathlib.Core.Logic.{◌⊎◌, inl, inr, ⊎_elim}
use mathlib.Core.List.{List, [], ◌∷◌}
use Prim.Native.Nat.{ℕ, zero, suc, ◌+◌, ◌-◌, ◌≤◌, ◌<◌}
use native.Mathlib.Nat.{not-suc-le-zero}
use native.Mathlib.Omega.{arith}
use borrow.Author.Tests.{le-leb, lt-leb, lt-ltb, le-ltb}
use Rattle.meaning.specs.Graph.{Graph, Sound}
use Rattle.meaning.specs.Sequence.{end_from, end_time}
use Rattle.meaning.specs.Demand.{longest_time, no_time, Enough, IsShortest}
use Rattle.meaning.specs.Cells.{EnoughFrom, IsLeastFrom}
use Rattle.meaning.specs.Computed.{min_below, time_or_none, via_least_at, least_at, least_step, least_within}
use Rattle.meaning.proofs.Tests.{le_or}
use Rattle.meaning.proofs.Folds.{min_le, min_at}
use Rattle.meaning.proofs.Sequences.{any_step, head_in, end_at_least_deadline}

-- a time up to the longest is kept
pub time_kept : (t : ℕ) → t ≤ longest_time → time_or_none t ≡ t
time_kept t h = rw (le-leb t longest_time h)

-- a time beyond the longest is none
pub time_none : (t : ℕ) → longest_time < t → time_or_none t ≡ no_time
time_none t h = rw (lt-leb t longest_time h)

-- every time is one or the other
pub time_or : (t : ℕ) → ((time_or_none t ≡ t) × (t ≤ longest_time)) ⊎ ((time_or_none t ≡ no_time) × (longest_time < t))
time_or t = ⊎_elim (λ p. inl (time_kept t p.0, p.0)) (λ p. inr (time_none t p.0, p.0)) (le_or t longest_time)

module _ (gap : ℕ → ℕ) (table : ℕ → ℕ → ℕ) (left j : ℕ) where
  -- a follower gives its gap and its own cell, if that is not too long
  pub via_least_is : 0 < gap j → via_least_at gap table left j ≡ time_or_none (gap j + table left j)
  via_least_is p = rw (lt-ltb 0 (gap j) p)

  -- a follower that is not too long gives just that
  pub via_least_take : 0 < gap j → gap j + table left j ≤ longest_time → via_least_at gap table left j ≡ gap j + table left j
  via_least_take p q = via_least_is p ∙ time_kept (gap j + table left j) q

  -- a follower that is too long gives none
  pub via_least_late : longest_time < gap j + table left j → via_least_at gap table left j ≡ no_time
  via_least_late q =
      ⊎_elim
      (λ p. via_least_is p.0 ∙ time_none (gap j + table left j) q)
      (λ p. rw (le-ltb 0 (gap j) (omega (arith, p.0))))
      (le_or 1 (gap j))

  -- a row that may not follow gives none
  pub via_least_none : gap j ≤ 0 → via_least_at gap table left j ≡ no_time
  via_least_none h = rw (le-ltb 0 (gap j) h)

  -- only a follower gives a time
  pub via_least_below : via_least_at gap table left j < no_time → 0 < gap j
  via_least_below h = ⊎_elim (λ p. p.0) (λ p. absurd (omega (arith, via_least_none (omega (arith, p.0))))) (le_or 1 (gap j))

module _ (n length deadline : ℕ) (gap : ℕ → ℕ) (table : ℕ → ℕ → ℕ) (a : ℕ) where
  -- where one job is enough, its deadline if that is not too long
  pub least_enough : a ≤ length → time_or_none deadline ≡ least_at n length deadline gap table a
  unfolding least_at
  least_enough h = rw (le-leb a length h)

  -- where one job is enough and its deadline is not too long, just that
  pub least_one : a ≤ length → deadline ≤ longest_time → deadline ≡ least_at n length deadline gap table a
  least_one h d = sym (time_kept deadline d) ∙ least_enough h

  -- where it is not, the least that a follower gives for the rest
  pub least_done : (time : ℕ) → length < a → time ≡ min_below n no_time (via_least_at gap table (a - length)) → time ≡ least_at n length deadline gap table a
  unfolding least_at
  least_done time h e = rw (lt-leb a length h) e

-- the table is right at every cell that row k reads for the amount a
abbrev pub LeastBelow : Graph → (ℕ → ℕ → ℕ) → ℕ → ℕ → Type 0
LeastBelow g table a k = (j : ℕ) → j < g.rows → 0 < g.gap k j → g.length k < a → IsLeastFrom g j (a - g.length k) (table (a - g.length k) j)

module _ (g : Graph) (sound : Sound g) (table : ℕ → ℕ → ℕ) (a k : ℕ) (hk : k < g.rows) (below : LeastBelow g table a k) where
  -- the end time by way of each follower
  via : ℕ → ℕ
  via = via_least_at (g.gap k) table (a - g.length k)

  -- one job is enough, so its deadline is the least
  one_is : a ≤ g.length k → IsLeastFrom g k a (time_or_none (g.deadline k))
  one_is h =
      ⊎_elim
      (λ c. rw c.0 record {
        bound = λ rest e. end_at_least_deadline g sound k rest e.0;
        reached = inl ([], (hk, h, omega (arith, c.1)), refl);
      })
      (λ c.
      let no-list : (rest : List ℕ) → EnoughFrom g k a rest → ⊥ = λ rest e. omega (arith, end_at_least_deadline g sound k rest e.0, e.2, c.1) in
      rw c.0 record { bound = λ rest e. absurd (no-list rest e); reached = inr (refl, no-list) })
      (time_or (g.deadline k))

  -- where it is not, no sequence ends before the best follower says
  more_bound : g.length k < a → (rest : List ℕ) → EnoughFrom g k a rest → min_below g.rows no_time via ≤ end_from g k rest
  unfolding via
  more_bound l [] h = absurd (omega (arith, h.1))
  more_bound l (j ∷ rest) h =
      let hj : j < g.rows = head_in g j rest h.0.2 in
      let cell : table (a - g.length k) j ≤ end_from g j rest = (below j hj h.0.1 l).bound rest (h.0.2, omega (arith, h.1), omega (arith, h.2)) in
      omega (
        arith,
        via_least_take (g.gap k) table (a - g.length k) j h.0.1 (omega (arith, h.2)),
        min_le g.rows no_time (via_least_at (g.gap k) table (a - g.length k)) j hj,
      )

  -- and one ends just then, if any has enough work
  more_reached : g.length k < a
      → ((rest : List ℕ) × EnoughFrom g k a rest × (end_from g k rest ≡ min_below g.rows no_time via))
      ⊎ ((min_below g.rows no_time via ≡ no_time) × ((rest : List ℕ) → EnoughFrom g k a rest → ⊥))
  unfolding via
  more_reached l =
      ⊎_elim
      (λ m.
      let j : ℕ = m.0 in
      let p : 0 < g.gap k j = via_least_below (g.gap k) table (a - g.length k) j m.3 in
      let given : via_least_at (g.gap k) table (a - g.length k) j ≡ time_or_none (g.gap k j + table (a - g.length k) j) =
      via_least_is (g.gap k) table (a - g.length k) j p in
      ⊎_elim
      (λ c. ⊎_elim
      (λ r. inl (j ∷ r.0, (any_step g k j r.0 hk p r.1.0, omega (arith, r.1.1), omega (arith, r.2, c.1)), omega (arith, r.2, c.0, m.2)))
      (λ r. absurd (omega (arith, r.0, c.1)))
      (below j m.1 p l).reached)
      (λ c. absurd (omega (arith, c.0, m.3)))
      (time_or (g.gap k j + table (a - g.length k) j)))
      (λ m. inr (m, λ rest e. omega (arith, more_bound l rest e, m, e.2)))
      (min_at g.rows no_time (via_least_at (g.gap k) table (a - g.length k)))

  -- a table that is right at smaller amounts gives a right cell
  pub least_step_is : IsLeastFrom g k a (least_step g table a k)
  unfolding least_at via
  least_step_is =
      ⊎_elim
      (λ d. rw d.1 (one_is d.0))
      (λ d. rw d.1 record { bound = more_bound d.0; reached = more_reached d.0 })
      (le_or a (g.length k))

-- the recursion with fuel gives right cells
pub least_within_is : (g : Graph) → Sound g → (fuel a k : ℕ) → a < fuel → k < g.rows → IsLeastFrom g k a (least_within g fuel a k)
unfolding least_within
least_within_is g sound zero a k h hk = absurd (not-suc-le-zero h)
least_within_is g sound (suc fuel) a k h hk =
    least_step_is g sound (least_within g fuel) a k hk
    (λ j hj p q. least_within_is g sound fuel (a - g.length k) j (omega (arith, sound.length_positive k hk)) hj)

module _ (g : Graph) (b : ℕ) (cell : ℕ → ℕ) (right : (k : ℕ) → k < g.rows → IsLeastFrom g k b (cell k)) where
  -- no sequence with enough work ends before every cell
  shortest_bound : (w : List ℕ) → Enough g b w → min_below g.rows no_time cell ≤ end_time g w
  shortest_bound [] h = absurd h.0
  shortest_bound (k ∷ rest) h =
      let hk : k < g.rows = head_in g k rest h.0 in
      omega (arith, (right k hk).bound rest h, min_le g.rows no_time cell k hk)

  -- the shortest interval is the smallest cell of its amount
  pub shortest_is : IsShortest g b (min_below g.rows no_time cell)
  shortest_is = record {
    bound = shortest_bound;
    reached =
        ⊎_elim
        (λ m. ⊎_elim
        (λ r. inl (m.0 ∷ r.0, r.1, omega (arith, r.2, m.2)))
        (λ r. absurd (omega (arith, r.0, m.3)))
        (right m.0 m.1).reached)
        (λ m. inr (m, λ w h. omega (arith, shortest_bound w h, h.2, m)))
        (min_at g.rows no_time cell);
  }
