-- Graphs that say the same of their rows have the same demand and shortest intervals.
use Prim.Native.Nat.{ℕ, ◌<◌}
use native.Mathlib.Omega.{arith}
use mathlib.Core.Path.{◌≡◌, ◌∙◌, sym}
use mathlib.Core.Logic.{◌⊎◌, inl, inr}
use mathlib.Core.List.{List, [], ◌∷◌}
use Rattle.meaning.specs.Demand.{InTime, IsDemand, Enough, IsShortest}
use Rattle.meaning.specs.Graph.{Graph}
use Rattle.meaning.specs.Sequence.{AllowedFrom, end_from, amount_from, Allowed, end_time, amount}

pub record SameGraph (g h : Graph) : Type 0 where
  pub rows : g.rows ≡ h.rows
  pub length : (k : ℕ) → k < g.rows → g.length k ≡ h.length k
  pub deadline : (k : ℕ) → k < g.rows → g.deadline k ≡ h.deadline k
  pub gap : (k j : ℕ) → k < g.rows → j < g.rows → g.gap k j ≡ h.gap k j

turned : (g h : Graph) → SameGraph g h → SameGraph h g
turned g h same =
    record {
      rows = sym same.rows;
      length = λ k l. sym (same.length k (omega (arith, same.rows)));
      deadline = λ k l. sym (same.deadline k (omega (arith, same.rows)));
      gap = λ k j l m. sym (same.gap k j (omega (arith, same.rows)) (omega (arith, same.rows)));
    }

-- an allowed sequence begins with a row
first_row : (g : Graph) (k : ℕ) (rest : List ℕ) → AllowedFrom g k rest → k < g.rows
first_row g k [] allowed = allowed
first_row g k (j ∷ rest) allowed = allowed.0

module _ (g h : Graph) (same : SameGraph g h) where
  -- a sequence that one allows the other allows too, with the same end and the same work
  same_from : (k : ℕ) (rest : List ℕ) → AllowedFrom g k rest → AllowedFrom h k rest × (end_from g k rest ≡ end_from h k rest) × (amount_from g k rest ≡ amount_from h k rest)
  same_from k [] allowed = (omega (arith, same.rows), same.deadline k allowed, same.length k allowed)
  same_from k (j ∷ rest) allowed =
      let behind = same_from j rest allowed.2 in
      let gap = same.gap k j allowed.0 (first_row g j rest allowed.2) in
      let length = same.length k allowed.0 in (
        (omega (arith, same.rows), omega (arith, gap), behind.0),
        omega (arith, gap, behind.1),
        omega (arith, length, behind.2),
      )

  same_sequence : (w : List ℕ) → Allowed g w → Allowed h w × (end_time g w ≡ end_time h w) × (amount g w ≡ amount h w)
  same_sequence [] allowed = absurd allowed
  same_sequence (k ∷ rest) allowed = same_from k rest allowed

  in_time : (t : ℕ) (w : List ℕ) → InTime g t w → InTime h t w × (amount g w ≡ amount h w)
  in_time t w (allowed, soon) =
      let s = same_sequence w allowed in
      ((s.0, omega (arith, s.1)), s.2)

  enough : (b : ℕ) (w : List ℕ) → Enough g b w → Enough h b w × (end_time g w ≡ end_time h w)
  enough b w (allowed, work, soon) =
      let s = same_sequence w allowed in
      ((s.0, omega (arith, s.2), omega (arith, s.1)), s.1)

-- lists that have P have Q with the same measure, and the other way round: what one of them reaches the other does
reached_same : {P Q : List ℕ → Type 0} {f e : List ℕ → ℕ} {none r : ℕ} → ((w : List ℕ) → P w → Q w × (f w ≡ e w)) → ((w : List ℕ) → Q w → P w × (e w ≡ f w))
    → ((w : List ℕ) × P w × (f w ≡ r)) ⊎ ((r ≡ none) × ((w : List ℕ) → P w → ⊥)) → ((w : List ℕ) × Q w × (e w ≡ r)) ⊎ ((r ≡ none) × ((w : List ℕ) → Q w → ⊥))
reached_same there back (inl (w, has, e)) = inl (w, (there w has).0, sym (there w has).1 ∙ e)
reached_same there back (inr (e, never)) = inr (e, λ w has. never w (back w has).0)

module _ (g h : Graph) (same : SameGraph g h) where
  pub same_demand : (t d : ℕ) → IsDemand g t d → IsDemand h t d
  same_demand t d is =
      let back = in_time h g (turned g h same) t in
      record { bound = λ w has. let b = back w has in omega (arith, b.1, is.bound w b.0); reached = reached_same (in_time g h same t) back is.reached }

  pub same_shortest : (b x : ℕ) → IsShortest g b x → IsShortest h b x
  same_shortest b x is =
      let back = enough h g (turned g h same) b in
      record { bound = λ w has. let s = back w has in omega (arith, s.1, is.bound w s.0); reached = reached_same (enough g h same b) back is.reached }
