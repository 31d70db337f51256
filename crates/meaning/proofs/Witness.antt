-- The witness is found row by row, each time the first row that still leads to the whole amount.
use mathlib.Core.Path.{◌≡◌, refl}
use mathlib.Core.Logic.{inl, inr, ⊎_elim}
use mathlib.Core.List.{List, [], ◌∷◌, ◌++◌}
use Prim.Native.Nat.{ℕ, ◌-◌, ◌≤◌, ◌<◌}
use native.Mathlib.Nat.{eq-or-lt_of_le}
use native.Mathlib.Omega.{arith}
use Rattle.meaning.specs.Graph.{Graph, Sound}
use Rattle.meaning.specs.Sequence.{amount_from}
use Rattle.meaning.specs.Extreme.{NoLater, First}
use Rattle.meaning.specs.Demand.{Attains, IsDemand, IsWitness}
use Rattle.meaning.specs.Cells.{InTimeFrom, IsBestFrom}
use Rattle.meaning.proofs.Tests.{lt_or}
use Rattle.meaning.proofs.Sequences.{any_step, head_in, end_at_least_deadline, amount_at_least_first, same_amount_same_end}

-- row k and the rows of a list after it are a sequence in time with exactly the work r
abbrev pub AttainsFrom : Graph → ℕ → ℕ → ℕ → List ℕ → Type 0
AttainsFrom g k s r rest = InTimeFrom g k s rest × (amount_from g k rest ≡ r)

-- of the sequences that attain a demand none is the start of another
pub none_starts_another : (g : Graph) → Sound g → (t d : ℕ) (w more : List ℕ) → Attains g t d w → Attains g t d (w ++ more) → more ≡ []
none_starts_another g sound t d w more a b = same_amount_same_end g sound w more a.0.0 b.0.0 (omega (arith, a.1, b.1))

-- a row with work by s is in time itself, and has no more than all of the work
pub row_in_time : (g : Graph) → Sound g → (s k r : ℕ) → 0 < r → IsBestFrom g k s r → (g.deadline k ≤ s) × (g.length k ≤ r)
row_in_time g sound s k r p b =
    ⊎_elim
    (λ u. (omega (arith, end_at_least_deadline g sound k u.0 u.1.0, u.1.1), omega (arith, amount_at_least_first g k u.0, u.2)))
    (λ u. absurd (omega (arith, u.0)))
    b.reached

module _ (g : Graph) (s k r : ℕ) (hk : k < g.rows) where
  -- where the work left is the row's own, the sequence ends here
  pub stop : g.deadline k ≤ s → r ≡ g.length k → First (AttainsFrom g k s r) []
  stop d e = record { allowed = ((hk, omega arith), omega arith); least = λ v h. tt }

  module _ (cell : ℕ → ℕ) (right : (i : ℕ) → i < g.rows → 0 < g.gap k i → g.gap k i ≤ s → IsBestFrom g i (s - g.gap k i) (cell i))
      (best : IsBestFrom g k s r) (l : g.length k < r) where
    -- no follower leads to more than the rest of the work
    at_most_left : (i : ℕ) → i < g.rows → 0 < g.gap k i → g.gap k i ≤ s → cell i ≤ r - g.length k
    at_most_left i hi p q =
        ⊎_elim
        (λ u. omega (arith, u.2, best.bound (i ∷ u.0) (any_step g k i u.0 hk p u.1.0, omega (arith, u.1.1))))
        (λ u. omega (arith, u.0))
        (right i hi p q).reached

    -- a sequence that attains the work goes on with a follower whose cell is the rest of it
    leads_on : (i : ℕ) (rest : List ℕ) → AttainsFrom g k s r (i ∷ rest) → (i < g.rows) × (0 < g.gap k i) × (g.gap k i ≤ s) × (cell i ≡ r - g.length k)
    leads_on i rest h =
        let hi : i < g.rows = head_in g i rest h.0.0.2 in
        let p : 0 < g.gap k i = h.0.0.1 in
        let q : g.gap k i ≤ s = omega (arith, h.0.1) in
        (hi, p, q, omega (arith, h.1, at_most_left i hi p q, (right i hi p q).bound rest (h.0.0.2, omega (arith, h.0.1))))

    -- where the work left is more than the row's own, some follower leads to the rest of it
    pub next_row : (j : ℕ) × (j < g.rows) × (0 < g.gap k j) × (g.gap k j ≤ s) × (cell j ≡ r - g.length k)
    next_row = ⊎_elim (λ u. go u.0 (u.1, u.2)) (λ u. absurd (omega (arith, u.0))) best.reached
      where
        go : (rest : List ℕ) → AttainsFrom g k s r rest → (j : ℕ) × (j < g.rows) × (0 < g.gap k j) × (g.gap k j ≤ s) × (cell j ≡ r - g.length k)
        go [] h = absurd (omega (arith, h.1))
        go (j ∷ rest) h =
            let o : (j < g.rows) × (0 < g.gap k j) × (g.gap k j ≤ s) × (cell j ≡ r - g.length k) = leads_on j rest h in
            (j, o.0, o.1, o.2, o.3)

    -- where row j is the first follower that leads to the rest, the first sequence goes on with it
    pub more : (j : ℕ) → 0 < g.gap k j → g.gap k j ≤ s
        → ((i : ℕ) → i < j → 0 < g.gap k i → g.gap k i ≤ s → cell i ≡ r - g.length k → ⊥)
        → (rest : List ℕ) → First (AttainsFrom g j (s - g.gap k j) (r - g.length k)) rest → First (AttainsFrom g k s r) (j ∷ rest)
    more j p q earlier rest first = record {
      allowed = ((any_step g k j rest hk p first.allowed.0.0, omega (arith, first.allowed.0.1)), omega (arith, first.allowed.1));
      least = go;
    }
      where
        same : (v : List ℕ) → AttainsFrom g k s r (j ∷ v) → NoLater rest v
        same v h = first.least v ((h.0.0.2, omega (arith, h.0.1)), omega (arith, h.1))

        go : (v : List ℕ) → AttainsFrom g k s r v → NoLater (j ∷ rest) v
        go [] h = absurd (omega (arith, h.1))
        go (i ∷ v) h =
            ⊎_elim
            (λ m. let o : (i < g.rows) × (0 < g.gap k i) × (g.gap k i ≤ s) × (cell i ≡ r - g.length k) = leads_on i v h in
            absurd (earlier i m o.1 o.2 o.3))
            (λ m. ⊎_elim (λ e. inr (e, same v (rw (← e) at h))) (λ m. inl (omega arith)) (eq-or-lt_of_le m))
            (lt_or i j)

module _ (g : Graph) (t d : ℕ) (cell : ℕ → ℕ) (right : (i : ℕ) → i < g.rows → IsBestFrom g i t (cell i)) (demand : IsDemand g t d) (p : 0 < d) where
  -- a sequence that attains the demand starts at a row whose cell is the demand
  attains_at : (k : ℕ) (rest : List ℕ) → Attains g t d (k ∷ rest) → (k < g.rows) × (cell k ≡ d)
  attains_at k rest h =
      let hk : k < g.rows = head_in g k rest h.0.0 in
      let at_most : cell k ≤ d =
      ⊎_elim (λ u. omega (arith, u.2, demand.bound (k ∷ u.0) u.1)) (λ u. omega (arith, u.0)) (right k hk).reached in
      (hk, omega (arith, h.1, (right k hk).bound rest h.0))

  -- where there is demand, some row's cell is all of it
  pub first_row : (k : ℕ) × (k < g.rows) × (cell k ≡ d)
  first_row = ⊎_elim (λ u. go u.0 (u.1, u.2)) (λ u. absurd (omega (arith, u.0))) demand.reached
    where
      go : (w : List ℕ) → Attains g t d w → (k : ℕ) × (k < g.rows) × (cell k ≡ d)
      go [] h = absurd h.0.0
      go (k ∷ rest) h = (k, (attains_at k rest h).0, (attains_at k rest h).1)

  -- the witness starts at the first row whose cell is the demand
  pub start : (k : ℕ) → ((i : ℕ) → i < k → cell i ≡ d → ⊥) → (rest : List ℕ) → First (AttainsFrom g k t d) rest → IsWitness g t (k ∷ rest)
  start k earlier rest first = (d, demand, inr (p, record { allowed = first.allowed; least = go }))
    where
      go : (v : List ℕ) → Attains g t d v → NoLater (k ∷ rest) v
      go [] h = absurd h.0.0
      go (i ∷ v) h =
          ⊎_elim
          (λ m. absurd (earlier i m (attains_at i v h).1))
          (λ m. ⊎_elim (λ e. inr (e, first.least v (rw (← e) at h))) (λ m. inl (omega arith)) (eq-or-lt_of_le m))
          (lt_or i k)

-- where there is no demand, the witness has no row
pub no_start : (g : Graph) (t : ℕ) → IsDemand g t 0 → IsWitness g t []
no_start g t demand = (0, demand, inl (refl, refl))
