-- The calls of every accepted sheet agree with one another.
use Prim.Native.Nat.{ℕ, ◌+◌, ◌≤◌}
use native.Mathlib.Omega.{arith}
use mathlib.Core.Path.{◌≡◌, refl, sym, ap, ◌∙◌, subst}
use mathlib.Core.Logic.Iff
use mathlib.Core.Logic.{inl, inr, ◌↔◌}
use mathlib.Core.Bool.{Bool, true, false}
use mathlib.Core.List.{List}
use lib.Dec.{eqb}
use lib.ListN.{length}
use borrow.Author.Tests.{le-ltb, eqb-true, eqb-false}
use Rattle.meaning.specs.Demand.{longest_time, no_time, IsDemand, IsShortest}
use Rattle.meaning.proofs.Agreement.{agree, none_enough}
use Rattle.meaning.proofs.Verdicts.{verdict_unique}
use Rattle.fields.specs.Deciding.{Rule, pick}
use Rattle.sheet.specs.Judging.{judged}
use Rattle.sheet.specs.Answer.{Accepted}
use Rattle.beginning.specs.Beginning.{graph, tasks, room_for, FilledByInterval, FilledByAmount, interval_rules, amount_rules, Begins}
use Rattle.desk.specs.Calls.{DemandRefuses, DemandGives, DemandAnswers, DemandCall, ShortestGives, ShortestAnswers, ShortestCall, VerdictRefuses, VerdictAnswers, VerdictCall, VerdictByIntervalCall, VerdictByAmountCall, first_overrun}
use Rattle.desk.specs.Agreement.{WithRoom, DemandEitherWay, TellsBy, CallsAgree}
use Rattle.std.specs.Prelude.{Result, Ok, Option}
use Rattle.meaning.specs.Verdict.{Verdict}
use Rattle.fields.specs.Refusals.{refused}
use Rattle.fields.specs.declared.refusal.Reason.TheVariants.{NeverReached}
use Rattle.fields.specs.declared.refusal.Refusal.{Refusal}
use Rattle.desk.specs.declared.Attained.{Attained}
use Rattle.beginning.proofs.Beginnings.{ok_not_refused, begins_alike, came_to_answer, comes_to_answer, enough_alike, amount_in_range}
use Rattle.beginning.proofs.Showing.{shown_case}

-- an amount, and how many rows attain it
abbrev attained : ℕ → ℕ → Attained
attained amount count = record { amount = amount; count = count }

-- an amount that `demand` found is the demand
module _ (bytes : List ℕ) (t : ℕ) (cells area : List ℕ) (amount count : ℕ) (cells' area' : List ℕ) where
  given_demand : (most : ℕ) (witness : List ℕ) → IsDemand (graph bytes) t most → DemandGives area (Ok (attained amount count)) area' most witness
      → IsDemand (graph bytes) t amount
  given_demand most witness is =
      shown_case witness area _ _ (IsDemand (graph bytes) t amount) (Ok (attained amount count)) area'
      (λ long told same. ok_not_refused _ _ told)
      (λ enough (told : ◌≡◌ {A = Result Attained Refusal} (Ok (attained amount count)) (Ok (attained most (length witness)))) written.
      let same : attained amount count ≡ attained most (length witness) = cc in
      subst (IsDemand (graph bytes) t) (sym (ap (λ (one : Attained). one.amount) same)) is)

  found_demand : DemandCall bytes t cells area (Ok (attained amount count)) cells' area' → IsDemand (graph bytes) t amount
  unfolding DemandCall
  found_demand call =
      given (came_to_answer (judged bytes).answer (interval_rules bytes t (length cells)) _ (DemandAnswers bytes t cells area (Ok (attained amount count)) cells' area')
      (λ reason place (p : DemandRefuses cells area (Ok (attained amount count)) cells' area' reason place). ok_not_refused _ _ p.0)
      call).0
    where
      given : DemandAnswers bytes t cells area (Ok (attained amount count)) cells' area' → IsDemand (graph bytes) t amount
      given (filled, (most, witness, is, first, gives)) = given_demand most witness is gives

-- what `shortest` gives for a time: the refusal exactly for `no_time`, and else the time, so that it tells the same as the time itself up to the longest time
module _ (answer : Result ℕ Refusal) (time : ℕ) where
  gives_case : (test : Bool) → eqb time no_time ≡ test → pick test (answer ≡ refused NeverReached 0) (answer ≡ Ok time)
      → ((answer ≡ refused NeverReached 0) ↔ (time ≡ no_time)) × ((t : ℕ) → t ≤ longest_time → TellsBy t answer ↔ (time ≤ t))
  unfolding pick
  gives_case true e gives =
      let none : time ≡ no_time = eqb-true time no_time e in
      ((λ r. none, λ n. gives), λ t h. (λ l. absurd (rw gives at l), λ l. absurd (omega arith)))
  gives_case false e gives =
      let some : time ≡ no_time → ⊥ = eqb-false time no_time e in
      ((λ r. ok_not_refused time _ (sym gives ∙ r), λ n. absurd (some n)), λ t h. (λ l. rw gives at l, λ l. rw gives l))

  told : ShortestGives answer time → ((answer ≡ refused NeverReached 0) ↔ (time ≡ no_time)) × ((t : ℕ) → t ≤ longest_time → TellsBy t answer ↔ (time ≤ t))
  told = gives_case (eqb time no_time) refl

-- both verdicts are the same for any bytes and any horizon, refusals too, where each is lent cells enough
module _ (bytes : List ℕ) (horizon : ℕ) (cells cells' room room' : List ℕ) (x y : Result (Option ℕ) Refusal) where
  same_verdict : VerdictAnswers FilledByInterval bytes horizon cells x cells' → VerdictAnswers FilledByAmount bytes horizon room y room' → x ≡ y
  same_verdict (filled₁, (v₁, is₁, gives₁)) (filled₂, (v₂, is₂, gives₂)) =
      gives₁ ∙ ap (λ (v : Verdict). Ok (first_overrun v)) (verdict_unique (graph bytes) (tasks bytes) horizon v₁ v₂ is₁ is₂) ∙ sym gives₂

  pub verdicts_alike : room_for bytes (horizon + 1) ≤ length cells → room_for bytes (horizon + 1) ≤ length room
      → VerdictByIntervalCall bytes horizon cells x cells' → VerdictByAmountCall bytes horizon room y room' → x ≡ y
  unfolding VerdictCall
  verdicts_alike enough enough' first second =
      begins_alike (judged bytes).answer (interval_rules bytes horizon (length cells))
      (VerdictRefuses cells x cells') (VerdictRefuses room y room') _ _ _
      (λ number place (p : VerdictRefuses cells x cells' number place) (q : VerdictRefuses room y room' number place). p.0 ∙ sym q.0)
      same_verdict first
      (subst (λ (rules : List Rule). Begins (judged bytes).answer rules (VerdictRefuses room y room') (VerdictAnswers FilledByAmount bytes horizon room y room'))
      (enough_alike bytes horizon (length cells) (length room) enough enough') second)

module _ (bytes : List ℕ) (accepted : (judged bytes).answer ≡ Accepted) where
  shortest_answered : (b : ℕ) (answer : Result ℕ Refusal) → 1 ≤ b → b ≤ longest_time + 1 → WithRoom bytes b (ShortestCall bytes b) answer
      → (time : ℕ) × IsShortest (graph bytes) b time × ShortestGives answer time
  unfolding ShortestCall
  shortest_answered b answer some few (cells, cells', enough, call) =
      (comes_to_answer (judged bytes).answer (amount_rules bytes b (length cells)) _ (ShortestAnswers bytes b cells answer cells')
      accepted (amount_in_range b some few, (le-ltb _ _ enough, tt)) call).1

  demand_is : (t d : ℕ) → DemandEitherWay bytes t d → IsDemand (graph bytes) t d
  demand_is t d (inl is) = is
  demand_is t d (inr (count, cells, area, cells', area', call)) = found_demand bytes t cells area d count cells' area' call

  pub calls_agree : CallsAgree bytes
  calls_agree = record {
    one_curve = λ t b d answer h some few shortest demand.
        let least = shortest_answered b answer some few shortest in
        let tells : TellsBy t answer ↔ (least.0 ≤ t) = (told answer least.0 least.2).1 t h in
        let curve : (least.0 ≤ t) ↔ (b ≤ d) = agree (graph bytes) b least.0 some least.1 t d h (demand_is t d demand) in
        Iff.trans tells curve;
    no_interval = λ b answer some few shortest.
        let least = shortest_answered b answer some few shortest in
        let never : (answer ≡ refused NeverReached 0) ↔ (least.0 ≡ no_time) = (told answer least.0 least.2).0 in
        Iff.trans never (none_enough (graph bytes) b least.0 some least.1);
    one_verdict = λ horizon x y few by-interval by_amount.
        verdicts_alike bytes horizon by-interval.0 by-interval.1 by_amount.0 by_amount.1 x y by-interval.2 by_amount.2 by-interval.3 by_amount.3;
  }
