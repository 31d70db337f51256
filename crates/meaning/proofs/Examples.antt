-- Small graphs worked out by hand, one for each way in which a definition could look right and be wrong.
use mathlib.Core.Path.{◌≡◌, refl}
use mathlib.Core.Logic.{inl}
use mathlib.Core.List.{List, [], ◌∷◌}
use Prim.Native.Nat.{ℕ, zero, suc, ◌≤◌, ◌<◌}
use native.Mathlib.Omega.{arith}
use lib.ListN.{length, get_or}
use Rattle.meaning.specs.Graph.{Graph, Sound}
use Rattle.meaning.specs.Sequence.{Allowed, end_time, amount}
use Rattle.meaning.specs.Extreme.{NoLater}
use Rattle.meaning.specs.Demand.{IsDemand, IsWitness}
use Rattle.meaning.specs.Fixed.{fixed_of, fixed_sum}
use Rattle.meaning.specs.Verdict.{Meets}
use Rattle.meaning.specs.Computed.{step_at, best_within, best, demand_of, rest_within, witness_of}
use Rattle.meaning.proofs.Existence.{demand_of_lem, witness_of_lem}
use Rattle.meaning.proofs.Margins.{meets}

-- a graph from the lengths, the deadlines and the lists of gaps of its rows
abbrev graph_of : List ℕ → List ℕ → List (List ℕ) → Graph
graph_of lengths deadlines gaps = record {
  rows = length lengths;
  length = λ k. get_or lengths k 0;
  deadline = λ k. get_or deadlines k 0;
  gap = λ k j. get_or (get_or gaps k []) j 0;
}

-- row 1 may follow row 0, and not the other way round
abbrev pub one_way : Graph
one_way = graph_of (5 ∷ 3 ∷ []) (6 ∷ 3 ∷ []) ((8 ∷ 6 ∷ []) ∷ (0 ∷ 4 ∷ []) ∷ [])

-- either row may follow the other, and going back to row 0 can be worst
abbrev pub both_ways : Graph
both_ways = graph_of (5 ∷ 3 ∷ []) (5166 ∷ 5000 ∷ []) ((5333 ∷ 5166 ∷ []) ∷ (5166 ∷ 5000 ∷ []) ∷ [])

-- two rows that are alike, with no followers
abbrev pub twins : Graph
twins = graph_of (4 ∷ 4 ∷ []) (5 ∷ 5 ∷ []) []

-- what Sound asks of one row of two
abbrev SoundRow : Graph → ℕ → Type 0
SoundRow g k = (1 ≤ g.length k) × (1 ≤ g.deadline k) × (0 < g.gap k 0 → g.deadline k ≤ g.gap k 0) × (0 < g.gap k 1 → g.deadline k ≤ g.gap k 1)

-- a property of both rows is one of every row
below_two : (P : ℕ → Type 0) → P 0 → P 1 → (k : ℕ) → k < 2 → P k
below_two P a b zero h = a
below_two P a b (suc zero) h = b
below_two P a b (suc (suc k)) h = absurd (omega arith)

-- a graph of two rows is sound where both of them are
two_rows : (g : Graph) → g.rows ≡ 2 → SoundRow g 0 → SoundRow g 1 → Sound g
two_rows g e a b = record {
  length_positive = λ k hk. (row k hk).0;
  deadline_positive = λ k hk. (row k hk).1;
  gap_at_least_deadline = λ k j hk hj. below_two (λ j. 0 < g.gap k j → g.deadline k ≤ g.gap k j) (row k hk).2 (row k hk).3 j (omega arith);
}
  where
    row : (k : ℕ) → k < g.rows → SoundRow g k
    row k hk = below_two (SoundRow g) a b k (omega arith)

one_way_sound : Sound one_way
one_way_sound = two_rows one_way refl (omega arith) (omega arith)

both_ways_sound : Sound both_ways
both_ways_sound = two_rows both_ways refl (omega arith) (omega arith)

twins_sound : Sound twins
twins_sound = two_rows twins refl (omega arith) (omega arith)

-- the gap between two jobs and the last deadline, and no other time
pub two_jobs : Allowed one_way (0 ∷ 1 ∷ []) × (end_time one_way (0 ∷ 1 ∷ []) ≡ 9) × (amount one_way (0 ∷ 1 ∷ []) ≡ 8)
two_jobs = omega arith

-- a sequence may start at any row
pub starts_at_one : Allowed one_way (1 ∷ []) × (end_time one_way (1 ∷ []) ≡ 3)
starts_at_one = omega arith

-- a sequence may go back to a lower row
pub goes_back : Allowed both_ways (0 ∷ 1 ∷ 0 ∷ []) × (end_time both_ways (0 ∷ 1 ∷ 0 ∷ []) ≡ 15498) × (amount both_ways (0 ∷ 1 ∷ 0 ∷ []) ≡ 13)
goes_back = omega arith

-- and that can be the witness
pub going_back_is_worst : IsDemand both_ways 15498 13 × IsWitness both_ways 15498 (0 ∷ 1 ∷ 0 ∷ [])
unfolding step_at best_within best demand_of rest_within witness_of
going_back_is_worst = (demand_of_lem both_ways both_ways_sound 15498, witness_of_lem both_ways both_ways_sound 15498)

-- of rows that are alike the lower one is no later
pub lower_first : NoLater (0 ∷ []) (1 ∷ [])
lower_first = inl (omega arith)

-- so it is the witness
pub lower_is_witness : IsWitness twins 5 (0 ∷ [])
unfolding step_at best_within best demand_of rest_within witness_of
lower_is_witness = witness_of_lem twins twins_sound 5

-- an interval that is filled to its last tick is met
pub full_is_met : Meets one_way (record { length = 1; period = 10; deadline = 5; jitter = 0 } ∷ []) 9
unfolding step_at best_within best demand_of fixed_of fixed_sum
full_is_met = meets one_way (record { length = 1; period = 10; deadline = 5; jitter = 0 } ∷ []) 9 8 (demand_of_lem one_way one_way_sound 9) (omega arith)
