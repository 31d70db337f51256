-- What "the largest", "the smallest" and "the first" mean among lists of rows, for any property P and any measure f of a list.
use Rattle.std.specs.Prelude.{◌≡◌, ◌⊎◌, List, [], ◌∷◌, ℕ, ◌≤◌, ◌<◌}

-- r is the largest f of the lists that have P, or 0 where no list has it
pub record Largest (P : List ℕ → Type 0) (f : List ℕ → ℕ) (r : ℕ) : Type 0 where
  pub bound : (w : List ℕ) → P w → f w ≤ r
  pub reached : ((w : List ℕ) × P w × (f w ≡ r)) ⊎ ((r ≡ 0) × ((w : List ℕ) → P w → ⊥))

-- r is the smallest f of the lists that have P, or `none` where no list has it
pub record Smallest (P : List ℕ → Type 0) (f : List ℕ → ℕ) (none r : ℕ) : Type 0 where
  pub bound : (w : List ℕ) → P w → r ≤ f w
  pub reached : ((w : List ℕ) × P w × (f w ≡ r)) ⊎ ((r ≡ none) × ((w : List ℕ) → P w → ⊥))

-- in row order w is no later than v: they are the same, or w has the lower row number at the first difference, or v goes on from w
abbrev pub NoLater : List ℕ → List ℕ → Type 0
NoLater [] v = Unit {0}
NoLater (a ∷ w) [] = ⊥
NoLater (a ∷ w) (b ∷ v) = (a < b) ⊎ ((a ≡ b) × NoLater w v)

-- w has P, and in row order no list that has P comes before it
pub record First (P : List ℕ → Type 0) (w : List ℕ) : Type 0 where
  pub allowed : P w
  pub least : (v : List ℕ) → P v → NoLater w v
