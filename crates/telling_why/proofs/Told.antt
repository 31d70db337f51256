-- Where `explain` is lent room enough, what it answers may be printed.
use Prim.Native.Nat.{ℕ, ◌+◌, ◌≤◌}
use native.Mathlib.Omega.{arith}
use mathlib.Core.Path.{◌≡◌, subst, subst⁻¹}
use mathlib.Core.List.{List}
use lib.Dec.{eqb}
use lib.IntN.{pos}
use lib.ListN.{length}
use borrow.Author.Tests.{ltb-false}
use Rattle.std.specs.Prelude.{Result, Ok, Err}
use Rattle.meaning.specs.Demand.{longest_time}
use Rattle.meaning.specs.Verdict.{Verdict, holds, overrun, IsVerdict}
use Rattle.fields.proofs.Deciding.{pick_case}
use Rattle.fields.specs.Refusals.{refused}
use Rattle.fields.specs.declared.refusal.Reason.TheVariants.{ShortArea}
use Rattle.fields.specs.declared.refusal.Refusal.{Refusal}
use Rattle.sheet.specs.Judging.{judged}
use Rattle.sheet.specs.Proper.{Bytes}
use Rattle.sheet.specs.Answer as sheet-case
use Rattle.beginning.specs.Beginning.{graph, tasks}
use Rattle.explain.specs.Reasons.{IsSmallestMargin}
use Rattle.explain.specs.Calls.{failing, ExplainRefuses, FailsAt, HoldsTo, Explains, ExplainAnswers, ExplainCall}
use Rattle.explain.specs.declared.Explained.{Explained}
use Rattle.explain.specs.declared.Explained.TheVariants.{Holds, NoInterval, Fails}
use Rattle.printing.specs.Refusals.{bad_interval, RoomToInterval}
use Rattle.printing.proofs.Refusals.{with_room, shown_inside}
use Rattle.telling_why.specs.Told.{WhyTold, ExplainTold}

module _ (bytes : List ℕ) (are : Bytes bytes) where
  module _ (horizon : ℕ) (cells area : List ℕ) (explained : Result Explained Refusal) (cells' area' : List ℕ) where
    -- where an answer is known, what may be printed of it may be printed
    known : (other : Result Explained Refusal) → explained ≡ other → ExplainTold bytes horizon area' other → ExplainTold bytes horizon area' explained
    known other e = subst⁻¹ (ExplainTold bytes horizon area') e

    -- it holds
    held : WhyTold bytes horizon area' explained → HoldsTo bytes horizon explained → ExplainTold bytes horizon area' explained
    held why =
        pick_case (eqb horizon 0) _ _ _
        (λ none (e : explained ≡ Ok NoInterval). known (Ok NoInterval) e (subst (WhyTold bytes horizon area') e why, tt))
        (λ some (p : (t : ℕ) × (margin : ℕ) × IsSmallestMargin (graph bytes) (tasks bytes) horizon t (pos margin) × (explained ≡ Ok (Holds margin t))).
        known (Ok (Holds p.1 p.0)) p.3 (subst (WhyTold bytes horizon area') p.3 why, tt))

    -- it fails, and its witness stands in the area
    failed : (judged bytes).answer ≡ sheet-case.Accepted → longest_time ≤ length area → (t : ℕ) → t ≤ longest_time → WhyTold bytes horizon area' explained
        → FailsAt bytes t area explained area' → ExplainTold bytes horizon area' explained
    failed accepted long t range why (cause, engine, witness, demand, first, sums, told) =
        shown_inside bytes are accepted t range witness first area area' long
        (Ok (Fails (failing (tasks bytes) t cause engine (length witness)))) (refused ShortArea 0) explained _
        (λ e front inside. known (Ok (Fails (failing (tasks bytes) t cause engine (length witness)))) e (subst (WhyTold bytes horizon area') e why, inside))
        told

    explained_told : (judged bytes).answer ≡ sheet-case.Accepted → longest_time ≤ length area → horizon ≤ longest_time
        → (v : Verdict) → IsVerdict (graph bytes) (tasks bytes) horizon v → Explains bytes horizon area v explained area'
        → ExplainTold bytes horizon area' explained
    explained_told accepted long range holds is why = held (holds, area, is, why) why.0
    explained_told accepted long range (overrun t) is why = failed accepted long t (omega (arith, is.1)) (overrun t, area, is, why) why

    pub explain_told : RoomToInterval bytes horizon (length cells) → longest_time ≤ length area
        → ExplainCall bytes horizon cells area explained cells' area' → ExplainTold bytes horizon area' explained
    unfolding ExplainCall
    explain_told enough long =
        with_room bytes (bad_interval horizon) (horizon + 1) (length cells) (ExplainRefuses cells area explained cells' area')
        (ExplainAnswers bytes horizon cells area explained cells' area') _
        (λ reason place by (r : ExplainRefuses cells area explained cells' area' reason place). known (refused reason place) r.0 by)
        (λ accepted range (a : ExplainAnswers bytes horizon cells area explained cells' area').
        explained_told accepted long (ltb-false _ _ range) a.1.0 a.1.1 a.1.2)
        enough
