-- `explain` says what both verdicts say, and leaves the cells that the verdict by interval leaves.
use Prim.Native.Nat.{ℕ, ◌+◌, ◌≤◌}
use mathlib.Core.Path.{◌≡◌, refl, sym, ap, ◌∙◌, subst}
use mathlib.Core.Logic.{inl, inr}
use mathlib.Core.List.{List}
use lib.Dec.{eqb}
use lib.IntN.{pos}
use lib.ListN.{length}
use Rattle.meaning.specs.Verdict.{Verdict, holds, overrun}
use Rattle.meaning.proofs.Verdicts.{verdict_unique}
use Rattle.std.specs.Prelude.{Option, Result, Ok}
use Rattle.fields.specs.Deciding.{Rule}
use Rattle.fields.specs.Refusals.{refused}
use Rattle.fields.specs.declared.refusal.Reason.TheVariants.{ShortArea}
use Rattle.fields.specs.declared.refusal.Refusal.{Refusal}
use Rattle.fields.proofs.Deciding.{pick_case}
use Rattle.sheet.specs.Judging.{judged}
use Rattle.beginning.specs.Beginning.{graph, tasks, room_for, FilledByInterval, interval_rules, Begins}
use Rattle.beginning.proofs.Beginnings.{begins_alike, enough_alike}
use Rattle.beginning.proofs.Showing.{shown_case}
use Rattle.desk.specs.Calls.{VerdictRefuses, VerdictAnswers, VerdictCall, VerdictByIntervalCall, first_overrun}
use Rattle.desk.proofs.Determined.{by_interval_unique}
use Rattle.explain.specs.Reasons.{IsSmallestMargin}
use Rattle.explain.specs.Calls.{failing, ExplainRefuses, FailsAt, HoldsTo, Explains, ExplainAnswers, ExplainCall}
use Rattle.explain.specs.Agreement.{SameVerdict}
use Rattle.explain.specs.declared.Explained.{Explained}
use Rattle.explain.specs.declared.Explained.TheVariants.{Holds, NoInterval, Fails}

-- a verdict as it is answered
abbrev told_of : Verdict → Result (Option ℕ) Refusal
told_of v = Ok (first_overrun v)

module _ (bytes : List ℕ) (horizon : ℕ) (area area' : List ℕ) (x : Result Explained Refusal) where
  -- what is known to be said tells of a verdict what it says
  same_by : (y : Result (Option ℕ) Refusal) (e : Result Explained Refusal) → x ≡ e → SameVerdict e y → SameVerdict x y
  same_by y e is = subst (λ (z : Result Explained Refusal). SameVerdict z y) (sym is)

  -- whether there is an interval or none, the verdict holds
  tells_holds : HoldsTo bytes horizon x → SameVerdict x (told_of holds)
  tells_holds =
      pick_case (eqb horizon 0) _ _ (SameVerdict x (told_of holds))
      (λ none (e : x ≡ Ok NoInterval). same_by (told_of holds) (Ok NoInterval) e refl)
      (λ some (p : (t : ℕ) × (margin : ℕ) × IsSmallestMargin (graph bytes) (tasks bytes) horizon t (pos margin) × (x ≡ Ok (Holds margin t))).
      same_by (told_of holds) (Ok (Holds p.1 p.0)) p.3 refl)

  -- however the witness is shown, the verdict is that overrun
  tells_overrun : (t : ℕ) → FailsAt bytes t area x area' → SameVerdict x (told_of (overrun t))
  tells_overrun t (cause, engine, witness, demand, first, sums, told) =
      shown_case witness area (Ok (Fails (failing (tasks bytes) t cause engine (length witness)))) (refused ShortArea 0) _ x area'
      (λ long e same. same_by (told_of (overrun t)) (refused ShortArea 0) e (inr (refl, (t, refl))))
      (λ enough e written. same_by (told_of (overrun t)) (Ok (Fails (failing (tasks bytes) t cause engine (length witness)))) e refl)
      told

  tells : (v : Verdict) → Explains bytes horizon area v x area' → SameVerdict x (told_of v)
  tells holds says = tells_holds says.0
  tells (overrun t) says = tells_overrun t says

-- for any bytes and any horizon, by either table, where each is lent cells enough
module _ (FilledBy : List ℕ → ℕ → List ℕ → List ℕ → Type 0) (bytes : List ℕ) (horizon : ℕ)
    (cells area cells' area' room room' : List ℕ) (x : Result Explained Refusal) (y : Result (Option ℕ) Refusal) where
  told : ExplainAnswers bytes horizon cells area x cells' area' → VerdictAnswers FilledBy bytes horizon room y room' → SameVerdict x y
  told (filled₁, (v₁, is₁, says₁)) (filled₂, (v₂, is₂, gives₂)) =
      let same : v₁ ≡ v₂ = verdict_unique (graph bytes) (tasks bytes) horizon v₁ v₂ is₁ is₂ in
      subst (SameVerdict x) (ap told_of same ∙ sym gives₂) (tells bytes horizon area area' x v₁ says₁)

  pub same_verdict : room_for bytes (horizon + 1) ≤ length cells → room_for bytes (horizon + 1) ≤ length room
      → ExplainCall bytes horizon cells area x cells' area' → VerdictCall FilledBy bytes horizon room y room' → SameVerdict x y
  unfolding ExplainCall VerdictCall
  same_verdict enough enough' first second =
      begins_alike (judged bytes).answer (interval_rules bytes horizon (length cells))
      (ExplainRefuses cells area x cells' area') (VerdictRefuses room y room') _ _ _
      (λ reason place (p : ExplainRefuses cells area x cells' area' reason place) (q : VerdictRefuses room y room' reason place).
      same_by bytes horizon area area' x y (refused reason place) p.0 (inl q.0))
      told first
      (subst (λ (rules : List Rule). Begins (judged bytes).answer rules (VerdictRefuses room y room') (VerdictAnswers FilledBy bytes horizon room y room'))
      (enough_alike bytes horizon (length cells) (length room) enough enough') second)

-- the cells after both calls are the same, for any cells and also where either refuses
module _ (bytes : List ℕ) (horizon : ℕ) (cells area cells₁ cells₂ area' : List ℕ) (x : Result Explained Refusal) (y : Result (Option ℕ) Refusal) where
  pub same_cells : ExplainCall bytes horizon cells area x cells₁ area' → VerdictByIntervalCall bytes horizon cells y cells₂ → cells₁ ≡ cells₂
  unfolding ExplainCall VerdictCall
  same_cells =
      begins_alike (judged bytes).answer (interval_rules bytes horizon (length cells))
      (ExplainRefuses cells area x cells₁ area') (VerdictRefuses cells y cells₂) _ _ _
      (λ reason place (p : ExplainRefuses cells area x cells₁ area' reason place) (q : VerdictRefuses cells y cells₂ reason place). p.1 ∙ sym q.1)
      (λ (p : ExplainAnswers bytes horizon cells area x cells₁ area') (q : VerdictAnswers FilledByInterval bytes horizon cells y cells₂).
      by_interval_unique bytes (horizon + 1) cells cells₁ cells₂ p.0 q.0)
