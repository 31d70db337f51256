-- What a caller can count on when lending: cells enough for the lines up to the horizon are never too few, and an area of as many bytes as the horizon has ticks takes every witness. Of a horizon out of range neither is asked.
use Prim.Native.Nat.{ℕ, ◌+◌, ◌≤◌, ◌<◌}
use native.Mathlib.Omega.{arith}
use mathlib.Core.Path.{◌≡◌, refl, ap, subst⁻¹}
use mathlib.Core.Bool.{Bool, true, false}
use mathlib.Core.List.{List, [], ◌∷◌}
use lib.Dec.{ltb, eqb}
use lib.IntN.{pos}
use lib.ListN.{length}
use borrow.Author.Tests.{ltb-true, ltb-false}
use Rattle.meaning.specs.Demand.{longest_time}
use Rattle.meaning.specs.Verdict.{Verdict, holds, overrun, IsVerdict}
use Rattle.meaning.proofs.Bounds.{witness_at_most}
use Rattle.std.specs.Prelude.{Result, Ok, Err}
use Rattle.fields.specs.Deciding.{◌when◌, pick}
use Rattle.fields.specs.Refusals.{rule_number, refused}
use Rattle.fields.specs.declared.refusal.Reason.TheVariants.{OutOfRange, FewCells, ShortArea}
use Rattle.fields.specs.declared.refusal.Refusal.{Refusal}
use Rattle.fields.proofs.Deciding.{pick_case}
use Rattle.sheet.specs.Judging.{judged}
use Rattle.sheet.specs.Proper.{Bytes}
use Rattle.sheet.proofs.Accepted.{accepted_proper}
use Rattle.sheet.proofs.ProperGraph.{proper_sound}
use Rattle.sheet.proofs.Refusals.{refused_number}
use Rattle.sheet.specs.Answer.{Answer}
use Rattle.sheet.specs.Answer as sheet-case
use Rattle.beginning.specs.Beginning.{graph, tasks, room_for, Begins}
use Rattle.beginning.proofs.Showing.{shown_case}
use Rattle.explain.specs.Reasons.{IsSmallestMargin}
use Rattle.explain.specs.Calls.{failing, ExplainRefuses, FailsAt, HoldsTo, Explains, ExplainAnswers, ExplainCall}
use Rattle.explain.specs.declared.Explained.{Explained}
use Rattle.explain.specs.declared.Explained.TheVariants.{Holds, NoInterval, Fails}
use Rattle.explain.specs.declared.Overrun.{Overrun}

-- the number of a refusal, 0 for any other answer
abbrev number_of : Result Explained Refusal → ℕ
number_of (Ok explained) = 0
number_of (Err refusal) = rule_number refusal.reason

-- how many rows the witness has, 0 where there is none
abbrev rows_of : Result Explained Refusal → ℕ
rows_of (Ok (Holds margin interval)) = 0
rows_of (Ok NoInterval) = 0
rows_of (Ok (Fails told)) = told.count
rows_of (Err refusal) = 0

module _ (bytes : List ℕ) (are : Bytes bytes) (horizon : ℕ) (cells area : List ℕ) (explained : Result Explained Refusal) (cells' area' : List ℕ) where
  -- an answer tells of the room rightly: 12 that the cells are too few, 13 that the area is shorter than the horizon, and else all rows are in the area
  record OfRoom (answer : Result Explained Refusal) : Type 0 where
    few : number_of answer ≡ 12 → (horizon ≤ longest_time) × (length cells < room_for bytes (horizon + 1))
    short : number_of answer ≡ 13 → (horizon ≤ longest_time) × (length area < horizon)
    inside : rows_of answer ≤ length area

  -- what is known of the answer
  known : (other : Result Explained Refusal) → explained ≡ other → OfRoom other → OfRoom explained
  known other e = subst⁻¹ OfRoom e

  -- an answer that is no refusal from 12 on and counts no rows has nothing to tell
  silent : (answer : Result Explained Refusal) → number_of answer ≤ 11 → rows_of answer ≡ 0 → OfRoom answer
  silent answer early none = record { few = λ e. absurd (omega arith); short = λ e. absurd (omega arith); inside = omega arith }

  -- where it holds, there is no witness
  held : HoldsTo bytes horizon explained → OfRoom explained
  held =
      pick_case (eqb horizon 0) _ _ (OfRoom explained)
      (λ none (e : explained ≡ Ok NoInterval). known (Ok NoInterval) e (silent (Ok NoInterval) (omega arith) refl))
      (λ some (p : (t : ℕ) × (margin : ℕ) × IsSmallestMargin (graph bytes) (tasks bytes) horizon t (pos margin) × (explained ≡ Ok (Holds margin t))).
      known (Ok (Holds p.1 p.0)) p.3 (silent (Ok (Holds p.1 p.0)) (omega arith) refl))

  module _ (accepted : (judged bytes).answer ≡ sheet-case.Accepted) (range : horizon ≤ longest_time) where
    -- where it fails, the witness has at most a row for each tick
    failed : (t : ℕ) → t ≤ horizon → FailsAt bytes t area explained area' → OfRoom explained
    failed t upto (cause, engine, witness, demand, first, sums, told) =
        let most : length witness ≤ t = witness_at_most (graph bytes) (proper_sound bytes (judged bytes).sheet (accepted_proper bytes are accepted)) t witness first in
        shown_case witness area (Ok (Fails (failing (tasks bytes) t cause engine (length witness)))) (refused ShortArea 0) (OfRoom explained) explained area'
        (λ long e same.
        known (refused ShortArea 0) e
        record { few = λ e. absurd (omega arith); short = λ _. (range, omega (arith, long, most)); inside = omega arith })
        (λ enough e written.
        known (Ok (Fails (failing (tasks bytes) t cause engine (length witness)))) e
        record { few = λ e. absurd (omega arith); short = λ e. absurd (omega arith); inside = enough })
        told

    answered : ExplainAnswers bytes horizon cells area explained cells' area' → OfRoom explained
    answered (filled, (v, is, why)) = given v is why
      where
        given : (v : Verdict) → IsVerdict (graph bytes) (tasks bytes) horizon v → Explains bytes horizon area v explained area' → OfRoom explained
        given holds is why = held why.0
        given (overrun t) is why = failed t is.1 why

  module _ (call : ExplainCall bytes horizon cells area explained cells' area') where
    of_room : OfRoom explained
    unfolding ExplainCall pick
    of_room = go (judged bytes).answer refl (ltb longest_time horizon) refl (ltb (length cells) (room_for bytes (horizon + 1))) refl call
      where
        go : (a : Answer) → (judged bytes).answer ≡ a → (o : Bool) → ltb longest_time horizon ≡ o → (f : Bool) → ltb (length cells) (room_for bytes (horizon + 1)) ≡ f
            → Begins a (OutOfRange when o ∷ FewCells when f ∷ []) (ExplainRefuses cells area explained cells' area') (ExplainAnswers bytes horizon cells area explained cells' area')
            → OfRoom explained
        go (sheet-case.Refused reason place) e o range f few r =
            known (refused reason place) r.0 (silent (refused reason place) (omega (arith, refused_number bytes reason place e)) refl)
        go sheet-case.Accepted e true range f few r = known (refused OutOfRange 0) r.0 (silent (refused OutOfRange 0) (omega arith) refl)
        go sheet-case.Accepted e false range true few r =
            known (refused FewCells 0) r.0
            record { few = λ _. (ltb-false _ _ range, ltb-true _ _ few); short = λ e. absurd (omega arith); inside = omega arith }
        go sheet-case.Accepted e false range false few r = answered e (ltb-false _ _ range) r

    -- cells enough for the lines are not refused as too few
    pub cells_suffice : (horizon ≤ longest_time → room_for bytes (horizon + 1) ≤ length cells) → (place : ℕ) → explained ≡ refused FewCells place → ⊥
    cells_suffice enough place e = let w = of_room.few (ap number_of e) in omega (arith, w.1, enough w.0)

    -- an area of as many bytes as the horizon has ticks is not refused as too short
    pub area_suffices : (horizon ≤ longest_time → horizon ≤ length area) → (place : ℕ) → explained ≡ refused ShortArea place → ⊥
    area_suffices enough place e = let w = of_room.short (ap number_of e) in omega (arith, w.1, enough w.0)

    -- and the rows of a witness all stand in the area
    pub rows_inside : (told : Overrun) → explained ≡ Ok (Fails told) → told.count ≤ length area
    rows_inside told e = let same : rows_of explained ≡ told.count = ap rows_of e in omega (arith, of_room.inside)
