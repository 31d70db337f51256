-- Where a call is lent room enough, what it answers may be printed.
use Prim.Native.Nat.{ℕ, ◌+◌, ◌≤◌}
use native.Mathlib.Omega.{arith}
use mathlib.Core.Path.{◌≡◌, refl, ap, subst, subst⁻¹}
use mathlib.Core.Logic.{inl, inr, ⊎_elim}
use mathlib.Core.List.{List}
use mathlib.Core.Bool.{false, true≢false}
use Rattle.std.specs.Prelude.{ℤ, Option, Some, None, Result, Ok, Err, is_err}
use lib.Dec.{eqb}
use lib.ListN.{length}
use borrow.Author.Tests.{ltb-false, eqb-true, eqb-false}
use Rattle.meaning.specs.Demand.{longest_time, no_time, IsWitness, IsShortest}
use Rattle.meaning.specs.Verdict.{Verdict, holds, overrun}
use Rattle.fields.proofs.Deciding.{pick_case}
use Rattle.fields.specs.Refusals.{rule_number, refused}
use Rattle.fields.specs.declared.refusal.Reason.TheVariants.{NeverReached}
use Rattle.fields.specs.declared.refusal.Refusal.{Refusal}
use Rattle.sheet.specs.Proper.{Bytes}
use Rattle.sheet.proofs.Refusals.{refused_number}
use Rattle.beginning.specs.Beginning.{graph, bad_amount, FilledByInterval}
use Rattle.desk.specs.Calls.{DemandRefuses, DemandAnswers, DemandCall, MarginRefuses, MarginAnswers, MarginCall, ShortestRefuses, ShortestGives, ShortestAnswers, ShortestCall, VerdictRefuses, VerdictAnswers, VerdictCall, VerdictByIntervalCall, first_overrun}
use Rattle.desk.specs.declared.Attained.{Attained}
use Rattle.printing.proofs.Showing.{shows_curve}
use Rattle.printing.specs.Refusals.{bad_interval, RoomToInterval, RoomToAmount}
use Rattle.printing.proofs.Refusals.{with_room, shown_inside}
use Rattle.telling.specs.Told.{CurveOf, CurveTold, DemandTold, MarginTold, ShortestTold}

-- a verdict that is no refusal has its curve
pub curve_there : (bytes : List ℕ) (horizon : ℕ) (cells : List ℕ) (answer : Result (Option ℕ) Refusal) → is_err answer ≡ false → CurveTold bytes horizon cells answer
    → (v : Verdict) × CurveOf bytes horizon cells v
curve_there bytes horizon cells (Ok None) there told = (holds, told)
curve_there bytes horizon cells (Ok (Some t)) there told = (overrun t, told)
curve_there bytes horizon cells (Err refusal) there told = absurd (true≢false there)

module _ (bytes : List ℕ) (are : Bytes bytes) where
  module _ (t : ℕ) (cells : List ℕ) (enough : RoomToInterval bytes t (length cells)) where
    pub demand_told : (area : List ℕ) (answer : Result Attained Refusal) (cells' area' : List ℕ) → longest_time ≤ length area
        → DemandCall bytes t cells area answer cells' area' → DemandTold bytes t area' answer
    unfolding DemandCall
    demand_told area answer cells' area' long =
        with_room bytes (bad_interval t) (t + 1) (length cells) (DemandRefuses cells area answer cells' area') (DemandAnswers bytes t cells area answer cells' area') _
        (λ reason place by (r : DemandRefuses cells area answer cells' area' reason place). subst⁻¹ (DemandTold bytes t area') r.0 by)
        (λ accepted range (a : DemandAnswers bytes t cells area answer cells' area').
        shown_inside bytes are accepted t (ltb-false _ _ range) a.1.1 a.1.3 area area' long _ _ answer _
        (λ e front inside. subst⁻¹ (DemandTold bytes t area') e (a.1.2, subst⁻¹ (IsWitness (graph bytes) t) front a.1.3, inside))
        a.1.4)
        enough

    pub margin_told : (answer : Result ℤ Refusal) (cells' : List ℕ) → MarginCall bytes t cells answer cells' → MarginTold bytes t answer
    unfolding MarginCall
    margin_told answer cells' =
        with_room bytes (bad_interval t) (t + 1) (length cells) (MarginRefuses cells answer cells') (MarginAnswers bytes t cells answer cells') _
        (λ reason place by (r : MarginRefuses cells answer cells' reason place). subst⁻¹ (MarginTold bytes t) r.0 by)
        (λ accepted range (a : MarginAnswers bytes t cells answer cells'). subst⁻¹ (MarginTold bytes t) a.1.2 a.1.1)
        enough

    -- a verdict as an answer, with the curve in the cells
    curve_of : (cells' : List ℕ) (v : Verdict) → CurveOf bytes t cells' v → CurveTold bytes t cells' (Ok (first_overrun v))
    curve_of cells' holds is = is
    curve_of cells' (overrun u) is = is

    pub curve_told : (answer : Result (Option ℕ) Refusal) (cells' : List ℕ) → VerdictByIntervalCall bytes t cells answer cells' → CurveTold bytes t cells' answer
    unfolding VerdictCall
    curve_told answer cells' call =
        with_room bytes (bad_interval t) (t + 1) (length cells) (VerdictRefuses cells answer cells') (VerdictAnswers FilledByInterval bytes t cells answer cells') _
        (λ reason place by (r : VerdictRefuses cells answer cells' reason place). subst⁻¹ (CurveTold bytes t cells') r.0 by)
        (λ accepted range (a : VerdictAnswers FilledByInterval bytes t cells answer cells').
        subst⁻¹ (CurveTold bytes t cells') a.1.2
        (curve_of cells' a.1.0 (accepted, shows_curve bytes are accepted t cells cells' answer (ltb-false _ _ range) (enough range) call, a.1.1)))
        enough call

  module _ (b : ℕ) (cells : List ℕ) (answer : Result ℕ Refusal) (cells' : List ℕ) where
    -- a time that there is comes from a sequence that ends by the longest
    in_time : (time : ℕ) → IsShortest (graph bytes) b time → (time ≡ no_time → ⊥) → time ≤ longest_time
    in_time time is some = ⊎_elim (λ r. omega (arith, r.1.2, r.2)) (λ r. absurd (some r.0)) is.reached

    -- no time is 14, and any other is one up to the longest
    shortest_given : (time : ℕ) → IsShortest (graph bytes) b time → ShortestGives answer time → ShortestTold bytes b answer
    shortest_given time is =
        pick_case (eqb time no_time) (answer ≡ refused NeverReached 0) (answer ≡ Ok time) _
        (λ test e. subst⁻¹ (ShortestTold bytes b) e (inr (refl, subst (IsShortest (graph bytes) b) (eqb-true time no_time test) is)))
        (λ test e. subst⁻¹ (ShortestTold bytes b) e (is, in_time time is (eqb-false time no_time test)))

    pub shortest_told : RoomToAmount bytes b (length cells) → ShortestCall bytes b cells answer cells' → ShortestTold bytes b answer
    unfolding ShortestCall
    shortest_told =
        with_room bytes (bad_amount b) b (length cells) (ShortestRefuses cells answer cells') (ShortestAnswers bytes b cells answer cells') _
        (λ reason place by (r : ShortestRefuses cells answer cells' reason place). subst⁻¹ (ShortestTold bytes b) r.0 (inl by))
        (λ accepted range (a : ShortestAnswers bytes b cells answer cells'). shortest_given a.1.0 a.1.1 a.1.2)

  -- of the refusals that are told only 14 says that there is none
  pub told_none : (b : ℕ) (refusal : Refusal) → ShortestTold bytes b (Err refusal) → refusal.reason ≡ NeverReached → IsShortest (graph bytes) b no_time
  told_none b refusal (inl (inl e)) n = absurd (omega (arith, ap rule_number n, refused_number bytes refusal.reason refusal.place e))
  told_none b refusal (inl (inr by)) n = absurd (omega (arith, ap rule_number n, ap (λ (r : Refusal). rule_number r.reason) by.2))
  told_none b refusal (inr none) n = none.1
