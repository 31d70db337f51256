-- Sequences: where they start, how soon they end, how much work they have, how long they are.
use mathlib.Core.Path.{◌≡◌, refl}
use mathlib.Core.List.{List, [], ◌∷◌, ◌++◌}
use Prim.Native.Nat.{ℕ, ◌≤◌, ◌<◌}
use native.Mathlib.Omega.{arith}
use lib.ListN.{length}
use Rattle.meaning.specs.Graph.{Graph, Sound}
use Rattle.meaning.specs.Sequence.{AllowedFrom, end_from, amount_from, Allowed, end_time, amount}

-- every row is a sequence by itself, so that a sequence may start anywhere
pub any_start : (g : Graph) (k : ℕ) → k < g.rows → Allowed g (k ∷ [])
any_start g k h = omega arith

-- a sequence goes on from any row that its first row may follow
pub any_step : (g : Graph) (k j : ℕ) (rest : List ℕ) → k < g.rows → 0 < g.gap k j → AllowedFrom g j rest → AllowedFrom g k (j ∷ rest)
any_step g k j rest h p a = (omega arith, omega arith, a)

-- the first row is a row of the graph
pub head_in : (g : Graph) (k : ℕ) (rest : List ℕ) → AllowedFrom g k rest → k < g.rows
head_in g k [] h = h
head_in g k (j ∷ rest) h = omega (arith, h.0)

-- a sequence has at least the work of its first row
pub amount_at_least_first : (g : Graph) (k : ℕ) (rest : List ℕ) → g.length k ≤ amount_from g k rest
amount_at_least_first g k [] = omega arith
amount_at_least_first g k (j ∷ rest) = omega arith

module _ (g : Graph) (sound : Sound g) where
  -- a sequence ends no sooner than the deadline of its first row
  pub end_at_least_deadline : (k : ℕ) (rest : List ℕ) → AllowedFrom g k rest → g.deadline k ≤ end_from g k rest
  end_at_least_deadline k [] h = omega arith
  end_at_least_deadline k (j ∷ rest) h = omega (arith, sound.gap_at_least_deadline k j (omega (arith, h.0)) (head_in g j rest h.2) h.1)

  -- a sequence has some work, told by its first row and the rest
  pub amount_from_positive : (k : ℕ) (rest : List ℕ) → AllowedFrom g k rest → 1 ≤ amount_from g k rest
  amount_from_positive k rest h = omega (arith, sound.length_positive k (head_in g k rest h), amount_at_least_first g k rest)

  -- a sequence has some work
  pub amount_positive : (w : List ℕ) → Allowed g w → 1 ≤ amount g w
  amount_positive [] h = absurd h
  amount_positive (k ∷ rest) h = amount_from_positive k rest h

  -- each row takes a tick at least, so a sequence has no more rows than ticks to its end, told by its first row and the rest
  pub rest_below_end : (k : ℕ) (rest : List ℕ) → AllowedFrom g k rest → length rest < end_from g k rest
  rest_below_end k [] h = omega (arith, sound.deadline_positive k h)
  rest_below_end k (j ∷ rest) h = omega (arith, rest_below_end j rest h.2, h.1)

  -- a sequence has no more rows than ticks to its end
  pub rows_at_most_end : (w : List ℕ) → Allowed g w → length w ≤ end_time g w
  rows_at_most_end [] h = absurd h
  rows_at_most_end (k ∷ rest) h = omega (arith, rest_below_end k rest h)

  -- a sequence that goes on has more work
  longer_has_more : (k : ℕ) (rest : List ℕ) (j : ℕ) (more : List ℕ) → AllowedFrom g k (rest ++ j ∷ more) → amount_from g k rest < amount_from g k (rest ++ j ∷ more)
  longer_has_more k [] j more h = omega (arith, amount_from_positive j more h.2)
  longer_has_more k (i ∷ rest) j more h = omega (arith, longer_has_more i rest j more h.2)

  -- no sequence is the start of another with the same work
  pub same_amount_same_end : (w more : List ℕ) → Allowed g w → Allowed g (w ++ more) → amount g w ≡ amount g (w ++ more) → more ≡ []
  same_amount_same_end [] more h l e = absurd h
  same_amount_same_end (k ∷ rest) [] h l e = refl
  same_amount_same_end (k ∷ rest) (j ∷ more) h l e = absurd (omega (arith, e, longer_has_more k rest j more l))
