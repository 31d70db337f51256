-- Each call's promise determines its answer, every lent cell and every byte of the witness area: two that are allowed are equal.
use Prim.Native.Nat.{ℕ, ◌+◌, ◌*◌}
use native.Mathlib.Nat.{eq-zero-or-pos, zero-mul}
use mathlib.Core.Path.{◌≡◌, sym, ap, ◌∙◌, subst}
use mathlib.Core.Logic.{⊎_elim}
use mathlib.Core.List.{List}
use lib.Dec.{eqb}
use lib.ListN.{length}
use lib.Seq.{ext_get_or}
use native.Mathlib.Omega.{arith}
use Rattle.meaning.specs.Demand.{no_time}
use Rattle.meaning.specs.Cells.{ByInterval, ByAmount, Filled}
use Rattle.meaning.proofs.Unique.{demand_unique, shortest_unique, best_unique, least_unique, witness_unique}
use Rattle.meaning.proofs.Margins.{margin_unique}
use Rattle.meaning.proofs.Verdicts.{verdict_unique}
use Rattle.meaning.proofs.Filling.{filled_unique}
use Rattle.fields.proofs.Deciding.{pick_alike}
use Rattle.sheet.specs.Judging.{judged}
use Rattle.desk.specs.Calls.{DemandRefuses, DemandGives, DemandAnswers, DemandCall, MarginRefuses, MarginAnswers, MarginCall, ShortestRefuses, ShortestGives, ShortestAnswers, ShortestCall, VerdictRefuses, VerdictAnswers, VerdictCall, VerdictByIntervalCall, VerdictByAmountCall, first_overrun}
use Rattle.beginning.specs.Beginning.{graph, tasks, rows, FilledByInterval, FilledByAmount, interval_rules, amount_rules}
use Rattle.std.specs.Prelude.{Result, Ok, ℤ, Option}
use Rattle.meaning.specs.Verdict.{Verdict}
use Rattle.fields.specs.Refusals.{refused}
use Rattle.fields.specs.declared.refusal.Reason.TheVariants.{ShortArea, NeverReached}
use Rattle.fields.specs.declared.refusal.Refusal.{Refusal}
use Rattle.desk.specs.declared.Attained.{Attained}
use Rattle.beginning.proofs.Beginnings.{begins_alike}
use Rattle.beginning.proofs.Showing.{shown_alike}

-- whole lines of cells that have one right value each determine the area, also where a line has none
lines_unique : (n : ℕ) (Right : ℕ → ℕ → ℕ → Type 0) (one : (line k v u : ℕ) → Right line k v → Right line k u → v ≡ u)
    → (old a b : List ℕ) (count : ℕ) → Filled n Right old a (n * count) → Filled n Right old b (n * count) → a ≡ b
lines_unique n Right one old a b count f g =
    ⊎_elim
    (λ e.
    let none : n * count ≡ 0 = ap (λ (x : ℕ). x * count) e ∙ zero-mul count in
    ext_get_or 0 a b (f.same_length ∙ sym g.same_length) λ place l.
    f.kept place (omega (arith, none)) ∙ sym (g.kept place (omega (arith, none))))
    (λ p. filled_unique n Right old one a b (n * count) p f g)
    (eq-zero-or-pos n)

module _ (bytes : List ℕ) (count : ℕ) (old a b : List ℕ) where
  pub by_interval_unique : FilledByInterval bytes count old a → FilledByInterval bytes count old b → a ≡ b
  by_interval_unique = lines_unique (rows bytes) (ByInterval (graph bytes)) (λ s k. best_unique (graph bytes) k s) old a b count

  pub by_amount_unique : FilledByAmount bytes count old a → FilledByAmount bytes count old b → a ≡ b
  by_amount_unique = lines_unique (rows bytes) (ByAmount (graph bytes)) (λ line k. least_unique (graph bytes) k (line + 1)) old a b count

-- `demand` has one answer, and leaves one content of the cells and of the area
module _ (bytes : List ℕ) (t : ℕ) (cells area : List ℕ) (x y : Result Attained Refusal) (cells₁ cells₂ area₁ area₂ : List ℕ) where
  demand_answered : DemandAnswers bytes t cells area x cells₁ area₁ → DemandAnswers bytes t cells area y cells₂ area₂
      → (x ≡ y) × (cells₁ ≡ cells₂) × (area₁ ≡ area₂)
  demand_answered (filled₁, (amount₁, witness₁, most₁, first₁, gives₁)) (filled₂, (amount₂, witness₂, most₂, first₂, gives₂)) =
      let same-amount : amount₂ ≡ amount₁ = demand_unique (graph bytes) t amount₂ amount₁ most₂ most₁ in
      let same-witness : witness₂ ≡ witness₁ = witness_unique (graph bytes) t witness₂ witness₁ first₂ first₁ in
      let gives : DemandGives area y area₂ amount₁ witness₁ =
      subst (λ (d : ℕ). DemandGives area y area₂ d witness₁) same-amount
      (subst (λ (w : List ℕ). DemandGives area y area₂ amount₂ w) same-witness gives₂) in
      let alike = shown_alike witness₁ area (Ok (record { amount = amount₁; count = length witness₁ })) (refused ShortArea 0) x y area₁ area₂ gives₁ gives in
      (alike.0, by_interval_unique bytes (t + 1) cells cells₁ cells₂ filled₁ filled₂, alike.1)

  pub demand_determined : DemandCall bytes t cells area x cells₁ area₁ → DemandCall bytes t cells area y cells₂ area₂
      → (x ≡ y) × (cells₁ ≡ cells₂) × (area₁ ≡ area₂)
  unfolding DemandCall
  demand_determined =
      begins_alike (judged bytes).answer (interval_rules bytes t (length cells))
      (DemandRefuses cells area x cells₁ area₁) (DemandRefuses cells area y cells₂ area₂) _ _ _
      (λ reason place (p : DemandRefuses cells area x cells₁ area₁ reason place) (q : DemandRefuses cells area y cells₂ area₂ reason place).
      (p.0 ∙ sym q.0, p.1 ∙ sym q.1, p.2 ∙ sym q.2))
      demand_answered

-- `margin` has one answer, and leaves one content of the cells
module _ (bytes : List ℕ) (t : ℕ) (cells : List ℕ) (x y : Result ℤ Refusal) (cells₁ cells₂ : List ℕ) where
  margin_answered : MarginAnswers bytes t cells x cells₁ → MarginAnswers bytes t cells y cells₂ → (x ≡ y) × (cells₁ ≡ cells₂)
  margin_answered (filled₁, (m₁, is₁, gives₁)) (filled₂, (m₂, is₂, gives₂)) = (
    gives₁ ∙ ap Ok (margin_unique (graph bytes) (tasks bytes) t m₁ m₂ is₁ is₂) ∙ sym gives₂,
    by_interval_unique bytes (t + 1) cells cells₁ cells₂ filled₁ filled₂,
  )

  pub margin_determined : MarginCall bytes t cells x cells₁ → MarginCall bytes t cells y cells₂ → (x ≡ y) × (cells₁ ≡ cells₂)
  unfolding MarginCall
  margin_determined =
      begins_alike (judged bytes).answer (interval_rules bytes t (length cells))
      (MarginRefuses cells x cells₁) (MarginRefuses cells y cells₂) _ _ _
      (λ reason place (p : MarginRefuses cells x cells₁ reason place) (q : MarginRefuses cells y cells₂ reason place).
      (p.0 ∙ sym q.0, p.1 ∙ sym q.1))
      margin_answered

-- `shortest` has one answer, and leaves one content of the cells
module _ (bytes : List ℕ) (b : ℕ) (cells : List ℕ) (x y : Result ℕ Refusal) (cells₁ cells₂ : List ℕ) where
  shortest_answered : ShortestAnswers bytes b cells x cells₁ → ShortestAnswers bytes b cells y cells₂ → (x ≡ y) × (cells₁ ≡ cells₂)
  shortest_answered (filled₁, (time₁, is₁, gives₁)) (filled₂, (time₂, is₂, gives₂)) =
      let same-time : time₂ ≡ time₁ = shortest_unique (graph bytes) b time₂ time₁ is₂ is₁ in
      let gives : ShortestGives y time₁ = subst (λ (z : ℕ). ShortestGives y z) same-time gives₂ in (
        pick_alike (eqb time₁ no_time) _ _ _ _ _
            (λ (p : x ≡ refused NeverReached 0) (q : y ≡ refused NeverReached 0). p ∙ sym q)
            (λ (p : x ≡ Ok time₁) (q : y ≡ Ok time₁). p ∙ sym q)
            gives₁ gives,
        by_amount_unique bytes b cells cells₁ cells₂ filled₁ filled₂,
      )

  pub shortest_determined : ShortestCall bytes b cells x cells₁ → ShortestCall bytes b cells y cells₂ → (x ≡ y) × (cells₁ ≡ cells₂)
  unfolding ShortestCall
  shortest_determined =
      begins_alike (judged bytes).answer (amount_rules bytes b (length cells))
      (ShortestRefuses cells x cells₁) (ShortestRefuses cells y cells₂) _ _ _
      (λ reason place (p : ShortestRefuses cells x cells₁ reason place) (q : ShortestRefuses cells y cells₂ reason place).
      (p.0 ∙ sym q.0, p.1 ∙ sym q.1))
      shortest_answered

-- a verdict has one answer and leaves one content of the cells, with either table
module _ (FilledBy : List ℕ → ℕ → List ℕ → List ℕ → Type 0)
    (one : (bytes : List ℕ) (count : ℕ) (old a b : List ℕ) → FilledBy bytes count old a → FilledBy bytes count old b → a ≡ b)
    (bytes : List ℕ) (horizon : ℕ) (cells : List ℕ) (x y : Result (Option ℕ) Refusal) (cells₁ cells₂ : List ℕ) where
  verdict_answered : VerdictAnswers FilledBy bytes horizon cells x cells₁ → VerdictAnswers FilledBy bytes horizon cells y cells₂
      → (x ≡ y) × (cells₁ ≡ cells₂)
  verdict_answered (filled₁, (v₁, is₁, gives₁)) (filled₂, (v₂, is₂, gives₂)) = (
    gives₁ ∙ ap (λ (v : Verdict). Ok (first_overrun v)) (verdict_unique (graph bytes) (tasks bytes) horizon v₁ v₂ is₁ is₂) ∙ sym gives₂,
    one bytes (horizon + 1) cells cells₁ cells₂ filled₁ filled₂,
  )

  verdict_determined : VerdictCall FilledBy bytes horizon cells x cells₁ → VerdictCall FilledBy bytes horizon cells y cells₂
      → (x ≡ y) × (cells₁ ≡ cells₂)
  unfolding VerdictCall
  verdict_determined =
      begins_alike (judged bytes).answer (interval_rules bytes horizon (length cells))
      (VerdictRefuses cells x cells₁) (VerdictRefuses cells y cells₂) _ _ _
      (λ reason place (p : VerdictRefuses cells x cells₁ reason place) (q : VerdictRefuses cells y cells₂ reason place).
      (p.0 ∙ sym q.0, p.1 ∙ sym q.1))
      verdict_answered

module _ (bytes : List ℕ) (horizon : ℕ) (cells : List ℕ) (x y : Result (Option ℕ) Refusal) (cells₁ cells₂ : List ℕ) where
  pub verdict_by_interval_determined : VerdictByIntervalCall bytes horizon cells x cells₁ → VerdictByIntervalCall bytes horizon cells y cells₂
      → (x ≡ y) × (cells₁ ≡ cells₂)
  verdict_by_interval_determined = verdict_determined FilledByInterval by_interval_unique bytes horizon cells x y cells₁ cells₂

  pub verdict_by_amount_determined : VerdictByAmountCall bytes horizon cells x cells₁ → VerdictByAmountCall bytes horizon cells y cells₂
      → (x ≡ y) × (cells₁ ≡ cells₂)
  verdict_by_amount_determined = verdict_determined FilledByAmount by_amount_unique bytes horizon cells x y cells₁ cells₂
