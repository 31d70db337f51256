-- Each definition allows one value only.
use mathlib.Core.Path.{◌≡◌, refl, ◌∙◌, sym, subst}
use mathlib.Core.Logic.{inl, inr, ⊎_elim}
use mathlib.Core.List.{List, [], ◌∷◌}
use Prim.Native.Nat.{ℕ}
use native.Mathlib.Omega.{arith}
use Rattle.meaning.specs.Graph.{Graph}
use Rattle.meaning.specs.Sequence.{end_from, amount_from, end_time, amount}
use Rattle.meaning.specs.Extreme.{Largest, Smallest, NoLater, First}
use Rattle.meaning.specs.Demand.{no_time, InTime, Enough, Attains, IsDemand, IsWitness, IsShortest}
use Rattle.meaning.specs.Cells.{InTimeFrom, EnoughFrom, IsBestFrom, IsLeastFrom}

-- there is one largest
pub largest_unique : (P : List ℕ → Type 0) (f : List ℕ → ℕ) (r q : ℕ) → Largest P f r → Largest P f q → r ≡ q
largest_unique P f r q a b =
    ⊎_elim
    (λ u. ⊎_elim
    (λ v. omega (arith, u.2, v.2, a.bound v.0 v.1, b.bound u.0 u.1))
    (λ v. absurd (v.1 u.0 u.1))
    b.reached)
    (λ u. ⊎_elim (λ v. absurd (u.1 v.0 v.1)) (λ v. omega (arith, u.0, v.0)) b.reached)
    a.reached

-- there is one smallest
pub smallest_unique : (P : List ℕ → Type 0) (f : List ℕ → ℕ) (none r q : ℕ) → Smallest P f none r → Smallest P f none q → r ≡ q
smallest_unique P f none r q a b =
    ⊎_elim
    (λ u. ⊎_elim
    (λ v. omega (arith, u.2, v.2, a.bound v.0 v.1, b.bound u.0 u.1))
    (λ v. absurd (v.1 u.0 u.1))
    b.reached)
    (λ u. ⊎_elim (λ v. absurd (u.1 v.0 v.1)) (λ v. omega (arith, u.0, v.0)) b.reached)
    a.reached

-- two lists of which neither is later are one
pub no_later_both : (w v : List ℕ) → NoLater w v → NoLater v w → w ≡ v
no_later_both [] [] p q = refl
no_later_both [] (b ∷ v) p q = absurd q
no_later_both (a ∷ w) [] p q = absurd p
no_later_both (a ∷ w) (b ∷ v) (inl l) (inl m) = absurd (omega arith)
no_later_both (a ∷ w) (b ∷ v) (inl l) (inr m) = absurd (omega (arith, m.0))
no_later_both (a ∷ w) (b ∷ v) (inr l) (inl m) = absurd (omega (arith, l.0))
no_later_both (a ∷ w) (b ∷ v) (inr l) (inr m) =
    let e : w ≡ v = no_later_both w v l.1 m.1 in
    let d : a ≡ b = l.0 in
    cc

-- there is one first list
pub first_unique : (P : List ℕ → Type 0) (w v : List ℕ) → First P w → First P v → w ≡ v
first_unique P w v a b = no_later_both w v (a.least v b.allowed) (b.least w a.allowed)

module _ (g : Graph) where
  -- there is one demand at t
  pub demand_unique : (t d e : ℕ) → IsDemand g t d → IsDemand g t e → d ≡ e
  demand_unique t = largest_unique (InTime g t) (amount g)

  -- there is one shortest interval for b
  pub shortest_unique : (b x y : ℕ) → IsShortest g b x → IsShortest g b y → x ≡ y
  shortest_unique b = smallest_unique (Enough g b) (end_time g) no_time

  -- there is one value for a cell by interval
  pub best_unique : (k s v u : ℕ) → IsBestFrom g k s v → IsBestFrom g k s u → v ≡ u
  best_unique k s = largest_unique (InTimeFrom g k s) (amount_from g k)

  -- there is one value for a cell by amount
  pub least_unique : (k a v u : ℕ) → IsLeastFrom g k a v → IsLeastFrom g k a u → v ≡ u
  least_unique k a = smallest_unique (EnoughFrom g k a) (end_from g k) no_time

  -- there is one witness at t
  pub witness_unique : (t : ℕ) (w v : List ℕ) → IsWitness g t w → IsWitness g t v → w ≡ v
  witness_unique t w v a b =
      let e : a.0 ≡ b.0 = demand_unique t a.0 b.0 a.1 b.1 in
      ⊎_elim
      (λ p. ⊎_elim (λ q. p.1 ∙ sym q.1) (λ q. absurd (omega (arith, p.0, q.0))) b.2)
      (λ p. ⊎_elim
      (λ q. absurd (omega (arith, p.0, q.0)))
      (λ q. first_unique (Attains g t b.0) w v (subst (λ (d : ℕ). First (Attains g t d) w) e p.1) q.1)
      b.2)
      a.2
