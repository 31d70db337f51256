-- How large the numbers get, so that code can say what fits: cells in 32 bits, sums of demands in 63, a witness in an area of t rows.
use mathlib.Core.Path.{◌≡◌, ap}
use mathlib.Core.Logic.{◌⊎◌, inl, inr, ⊎_elim}
use mathlib.Core.List.{List, [], ◌∷◌}
use Prim.Native.Nat.{ℕ, zero, suc, ◌+◌, ◌*◌, ◌^◌, ◌≤◌, ◌<◌}
use native.Mathlib.Nat.{mul-le-mul}
use native.Mathlib.Omega.{arith}
use lib.ListN.{length, get_or}
use Rattle.meaning.specs.Graph.{Graph, Sound}
use Rattle.meaning.specs.Sequence.{AllowedFrom, end_from, amount_from, Allowed, end_time, amount}
use Rattle.meaning.specs.Demand.{longest_time, no_time, IsDemand, IsWitness, IsShortest}
use Rattle.meaning.specs.Cells.{IsBestFrom, IsLeastFrom}
use Rattle.meaning.specs.Fixed.{Task, fixed_sum}
use Rattle.meaning.proofs.Sequences.{head_in, rows_at_most_end}
use Rattle.meaning.proofs.FixedTasks.{Bounded, fixed_sum_at_most}

-- every row of a sequence is a row of the graph, told by its first row and the rest
rest_rows_in : (g : Graph) (k : ℕ) (rest : List ℕ) → AllowedFrom g k rest → (i : ℕ) → i < length (k ∷ rest) → get_or (k ∷ rest) i 0 < g.rows
rest_rows_in g k rest h zero l = head_in g k rest h
rest_rows_in g k [] h (suc i) l = absurd (omega arith)
rest_rows_in g k (j ∷ rest) h (suc i) l = rest_rows_in g j rest h.2 i (omega arith)

-- every row of a witness is a row of the graph
pub witness_rows_in : (g : Graph) (t : ℕ) (w : List ℕ) → IsWitness g t w → (i : ℕ) → i < length w → get_or w i 0 < g.rows
witness_rows_in g t [] a i l = absurd (omega arith)
witness_rows_in g t (k ∷ rest) a i l =
    ⊎_elim (λ p. absurd (omega (arith, ap length p.1))) (λ p. rest_rows_in g k rest p.1.allowed.0.0 i l) a.2

-- a cell by amount is a time up to the longest, or none
pub least_or_none : (g : Graph) (k a v : ℕ) → IsLeastFrom g k a v → (v ≤ longest_time) ⊎ (v ≡ no_time)
least_or_none g k a v least = ⊎_elim (λ u. inl (omega (arith, u.1.2, u.2))) (λ u. inr u.0) least.reached

-- a shortest interval is a time up to the longest, or none
pub shortest_or_none : (g : Graph) (b x : ℕ) → IsShortest g b x → (x ≤ longest_time) ⊎ (x ≡ no_time)
shortest_or_none g b x shortest = ⊎_elim (λ u. inl (omega (arith, u.1.2, u.2))) (λ u. inr u.0) shortest.reached

module _ (g : Graph) (sound : Sound g) where
  -- a witness at t has at most t rows
  pub witness_at_most : (t : ℕ) (w : List ℕ) → IsWitness g t w → length w ≤ t
  witness_at_most t w a =
      ⊎_elim
      (λ p. rw p.1 (omega arith))
      (λ p. omega (arith, rows_at_most_end g sound w p.1.allowed.0.0, p.1.allowed.0.1))
      a.2

  module _ (most : ℕ) (none-longer : (k : ℕ) → k < g.rows → g.length k ≤ most) where
    -- a sequence has at most the longest length for each tick to its end, told by its first row and the rest
    pub amount_from_at_most : (k : ℕ) (rest : List ℕ) → AllowedFrom g k rest → amount_from g k rest ≤ most * end_from g k rest
    amount_from_at_most k [] h =
        let one : most * 1 ≤ most * g.deadline k = mul-le-mul (omega arith) (sound.deadline_positive k h) in
        omega (arith, none-longer k h)
    amount_from_at_most k (j ∷ rest) h =
        let one : most * 1 ≤ most * g.gap k j = mul-le-mul (omega arith) h.1 in
        omega (arith, none-longer k (omega (arith, h.0)), amount_from_at_most j rest h.2)

    -- a sequence has at most the longest length for each tick to its end
    pub amount_at_most : (w : List ℕ) → Allowed g w → amount g w ≤ most * end_time g w
    amount_at_most [] h = absurd h
    amount_at_most (k ∷ rest) h = amount_from_at_most k rest h

    -- a cell by interval is at most the longest length for each tick
    pub best_at_most : (k s v : ℕ) → IsBestFrom g k s v → v ≤ most * s
    best_at_most k s v best =
        ⊎_elim
        (λ u.
        let all : most * end_from g k u.0 ≤ most * s = mul-le-mul (omega arith) u.1.1 in
        omega (arith, u.2, amount_from_at_most k u.0 u.1.0))
        (λ u. omega (arith, u.0))
        best.reached

    -- demand is at most the longest length for each tick
    pub demand_at_most : (t d : ℕ) → IsDemand g t d → d ≤ most * t
    demand_at_most t d demand =
        ⊎_elim
        (λ u.
        let all : most * end_time g u.0 ≤ most * t = mul-le-mul (omega arith) u.1.1 in
        omega (arith, u.2, amount_at_most u.0 u.1.0))
        (λ u. omega (arith, u.0))
        demand.reached

    module _ (short : most ≤ longest_time) where
      -- a cell by interval fits 32 bits
      pub best_fits : (k s v : ℕ) → s ≤ longest_time → IsBestFrom g k s v → v < 2 ^ 32
      best_fits k s v hs best = omega (arith, best_at_most k s v best, mul-le-mul short hs)

      -- demand fits 32 bits
      pub demand_fits : (t d : ℕ) → t ≤ longest_time → IsDemand g t d → d < 2 ^ 32
      demand_fits t d ht demand = omega (arith, demand_at_most t d demand, mul-le-mul short ht)

-- fixed demand fits 48 bits, where neither the lengths nor the number of tasks is above `longest_time`, and no jitter above its deadline
pub fixed_fits : (most : ℕ) (tasks : List Task) (default : Task) (t : ℕ) → most ≤ longest_time → length tasks ≤ longest_time → t ≤ longest_time
    → ((i : ℕ) → i < length tasks → Bounded most (get_or tasks i default)) → fixed_sum tasks t < 2 ^ 48
fixed_fits most tasks default t short few ht none-longer =
    let each : most * suc t ≤ longest_time * suc longest_time = mul-le-mul {m₁ = suc t} {m₂ = suc longest_time} short (omega arith) in
    omega (arith, fixed_sum_at_most most tasks default t none-longer, mul-le-mul few each)

-- two numbers of such sizes together fit 63 bits
pub sum_fits : (d f : ℕ) → d < 2 ^ 32 → f < 2 ^ 48 → d + f < 2 ^ 63
sum_fits d f a b = omega arith
