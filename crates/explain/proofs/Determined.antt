-- The promise of `explain` determines its answer, the demands of the tasks, every lent cell and every byte of the witness area: two that are allowed are equal.
use Prim.Native.Nat.{ℕ, ◌+◌}
use mathlib.Core.Path.{◌≡◌, sym, ap₂, ◌∙◌, subst}
use mathlib.Core.List.{List}
use lib.Dec.{eqb}
use lib.IntN.{pos}
use lib.ListN.{length}
use Rattle.meaning.specs.Fixed.{fixed_sum}
use Rattle.meaning.specs.Verdict.{Verdict, holds, overrun}
use Rattle.meaning.proofs.Unique.{demand_unique, witness_unique}
use Rattle.meaning.proofs.Verdicts.{verdict_unique}
use Rattle.std.specs.Prelude.{Result, Ok}
use Rattle.fields.specs.Refusals.{refused}
use Rattle.fields.specs.declared.refusal.Reason.TheVariants.{ShortArea}
use Rattle.fields.specs.declared.refusal.Refusal.{Refusal}
use Rattle.fields.proofs.Deciding.{pick_alike}
use Rattle.sheet.specs.Judging.{judged}
use Rattle.beginning.specs.Beginning.{graph, tasks, interval_rules}
use Rattle.beginning.specs.Showing.{WitnessShown}
use Rattle.beginning.proofs.Beginnings.{begins_alike}
use Rattle.beginning.proofs.Showing.{shown_alike}
use Rattle.desk.proofs.Determined.{by_interval_unique}
use Rattle.explain.specs.Reasons.{Sums, IsSmallestMargin}
use Rattle.explain.specs.Calls.{failing, ExplainRefuses, FailsAt, HoldsTo, Explains, ExplainAnswers, ExplainCall}
use Rattle.explain.specs.declared.Cause.{Cause}
use Rattle.explain.specs.declared.Explained.{Explained}
use Rattle.explain.specs.declared.Explained.TheVariants.{Holds, NoInterval, Fails}
use Rattle.explain.proofs.Causes.{sums_exclude}
use Rattle.explain.proofs.SmallestMargins.{smallest_unique}

module _ (bytes : List ℕ) (horizon : ℕ) (cells area : List ℕ) (x y : Result Explained Refusal) (cells₁ cells₂ area₁ area₂ : List ℕ) where
  -- what is told for one cause, one amount and one witness
  Told : ℕ → Cause → ℕ → List ℕ → Result Explained Refusal → List ℕ → Type 0
  Told t cause engine witness = WitnessShown witness area (Ok (Fails (failing (tasks bytes) t cause engine (length witness)))) (refused ShortArea 0)

  fails_alike : (t : ℕ) → FailsAt bytes t area x area₁ → FailsAt bytes t area y area₂ → (x ≡ y) × (area₁ ≡ area₂)
  unfolding Told
  fails_alike t (cause₁, engine₁, witness₁, demand₁, first₁, sums₁, told₁) (cause₂, engine₂, witness₂, demand₂, first₂, sums₂, told₂) =
      let fixed : ℕ = fixed_sum (tasks bytes) t in
      let same-engine : engine₂ ≡ engine₁ = demand_unique (graph bytes) t engine₂ engine₁ demand₂ demand₁ in
      let same-witness : witness₂ ≡ witness₁ = witness_unique (graph bytes) t witness₂ witness₁ first₂ first₁ in
      let same-cause : cause₂ ≡ cause₁ =
      sums_exclude cause₂ cause₁ t engine₁ fixed (subst (λ (d : ℕ). Sums cause₂ t d fixed) same-engine sums₂) sums₁ in
      let told : Told t cause₁ engine₁ witness₁ y area₂ =
      subst (λ (c : Cause). Told t c engine₁ witness₁ y area₂) same-cause
      (subst (λ (d : ℕ). Told t cause₂ d witness₁ y area₂) same-engine
      (subst (λ (w : List ℕ). Told t cause₂ engine₂ w y area₂) same-witness told₂)) in
      shown_alike witness₁ area _ _ x y area₁ area₂ told₁ told

  holds_alike : HoldsTo bytes horizon x → HoldsTo bytes horizon y → x ≡ y
  holds_alike =
      pick_alike (eqb horizon 0) _ _ _ _ _
      (λ (p : x ≡ Ok NoInterval) (q : y ≡ Ok NoInterval). p ∙ sym q)
      (λ (p : (t : ℕ) × (margin : ℕ) × IsSmallestMargin (graph bytes) (tasks bytes) horizon t (pos margin) × (x ≡ Ok (Holds margin t)))
      (q : (t : ℕ) × (margin : ℕ) × IsSmallestMargin (graph bytes) (tasks bytes) horizon t (pos margin) × (y ≡ Ok (Holds margin t))).
      let same = smallest_unique (graph bytes) (tasks bytes) horizon p.0 q.0 p.1 q.1 p.2 q.2 in
      p.3 ∙ ap₂ (λ (margin t : ℕ). Ok (Holds margin t)) same.1 same.0 ∙ sym q.3)

  explains_alike : (v : Verdict) → Explains bytes horizon area v x area₁ → Explains bytes horizon area v y area₂ → (x ≡ y) × (area₁ ≡ area₂)
  explains_alike holds p q = (holds_alike p.0 q.0, p.1 ∙ sym q.1)
  explains_alike (overrun t) p q = fails_alike t p q

  explain_answered : ExplainAnswers bytes horizon cells area x cells₁ area₁ → ExplainAnswers bytes horizon cells area y cells₂ area₂
      → (x ≡ y) × (cells₁ ≡ cells₂) × (area₁ ≡ area₂)
  explain_answered (filled₁, (v₁, is₁, says₁)) (filled₂, (v₂, is₂, says₂)) =
      let same : v₂ ≡ v₁ = verdict_unique (graph bytes) (tasks bytes) horizon v₂ v₁ is₂ is₁ in
      let alike = explains_alike v₁ says₁ (subst (λ (v : Verdict). Explains bytes horizon area v y area₂) same says₂) in
      (alike.0, by_interval_unique bytes (horizon + 1) cells cells₁ cells₂ filled₁ filled₂, alike.1)

  pub explain_determined : ExplainCall bytes horizon cells area x cells₁ area₁ → ExplainCall bytes horizon cells area y cells₂ area₂
      → (x ≡ y) × (cells₁ ≡ cells₂) × (area₁ ≡ area₂)
  unfolding ExplainCall
  explain_determined =
      begins_alike (judged bytes).answer (interval_rules bytes horizon (length cells))
      (ExplainRefuses cells area x cells₁ area₁) (ExplainRefuses cells area y cells₂ area₂) _ _ _
      (λ reason place (p : ExplainRefuses cells area x cells₁ area₁ reason place) (q : ExplainRefuses cells area y cells₂ area₂ reason place).
      (p.0 ∙ sym q.0, p.1 ∙ sym q.1, p.2 ∙ sym q.2))
      explain_answered
