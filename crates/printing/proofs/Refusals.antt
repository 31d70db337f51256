-- Where a call is lent room enough, it refuses by the sheet or by the number asked with alone, and a witness stands in its area.
use Prim.Native.Nat.{ℕ, ◌≤◌}
use native.Mathlib.Omega.{arith}
use mathlib.Core.Path.{◌≡◌, refl, ap, ◌∙◌}
use mathlib.Core.Logic.{inl, inr}
use mathlib.Core.Bool.{Bool, true, false}
use mathlib.Core.List.{List, [], ◌∷◌}
use lib.Dec.{ltb}
use lib.ListN.{length, take, drop, length-append}
use lib.Seq.{take-append_seam}
use borrow.Author.Tests.{le-ltb}
use Rattle.meaning.specs.Demand.{longest_time, IsWitness}
use Rattle.meaning.proofs.Bounds.{witness_at_most}
use Rattle.fields.specs.Deciding.{◌when◌, pick}
use Rattle.fields.specs.declared.refusal.Reason.{Reason}
use Rattle.fields.specs.declared.refusal.Reason.TheVariants.{OutOfRange, FewCells}
use Rattle.sheet.specs.Judging.{judged}
use Rattle.sheet.specs.Proper.{Bytes}
use Rattle.sheet.proofs.Accepted.{accepted_proper}
use Rattle.sheet.proofs.ProperGraph.{proper_sound}
use Rattle.sheet.specs.Answer.{Answer}
use Rattle.sheet.specs.Answer as sheet-case
use Rattle.beginning.specs.Beginning.{graph, room_for, call_rules, Begins}
use Rattle.beginning.specs.Showing.{WitnessShown}
use Rattle.beginning.proofs.Showing.{shown_case}
use Rattle.printing.specs.Refusals.{RefusedBy}

-- a call with room refuses by the sheet or by the number asked with, or comes to its answer
module _ (bytes : List ℕ) (bad : Bool) (lines room : ℕ) (Refuses : Reason → ℕ → Type 0) (Answers C : Type 0)
    (refused : (reason : Reason) (place : ℕ) → RefusedBy bytes bad (record { reason = reason; place = place }) → Refuses reason place → C)
    (answered : (judged bytes).answer ≡ sheet-case.Accepted → bad ≡ false → Answers → C) where
  begins : (enough : bad ≡ false → room_for bytes lines ≤ room) (answer : Answer) → (judged bytes).answer ≡ answer → (test : Bool) → bad ≡ test
      → Begins answer (OutOfRange when test ∷ FewCells when ltb room (room_for bytes lines) ∷ []) Refuses Answers → C
  unfolding pick
  begins enough (sheet-case.Refused reason place) e test t b = refused reason place (inl e) b
  begins enough sheet-case.Accepted e true t b = refused OutOfRange 0 (inr (e, t, refl)) b
  begins enough sheet-case.Accepted e false t b = answered e t (rw (le-ltb room (room_for bytes lines) (enough t)) at b)

  pub with_room : (bad ≡ false → room_for bytes lines ≤ room) → Begins (judged bytes).answer (call_rules bytes bad lines room) Refuses Answers → C
  with_room enough = begins enough (judged bytes).answer refl bad refl

module _ (bytes : List ℕ) (are : Bytes bytes) where
  -- a witness has at most a row for each tick, so it stands in the area
  module _ (accepted : (judged bytes).answer ≡ sheet-case.Accepted) (t : ℕ) (in_range : t ≤ longest_time) (witness : List ℕ) (is : IsWitness (graph bytes) t witness)
      (area area' : List ℕ) (long : longest_time ≤ length area) where
    short : length witness ≤ length area
    short = omega (arith, witness_at_most (graph bytes) (proper_sound bytes (judged bytes).sheet (accepted_proper bytes are accepted)) t witness is)

    pub shown_inside : {A : Type 0} (fits too_long answer : A) (C : Type 0) → (answer ≡ fits → take (length witness) area' ≡ witness → length witness ≤ length area' → C)
        → WitnessShown witness area fits too_long answer area' → C
    shown_inside fits too_long answer C inside =
        shown_case witness area fits too_long C answer area'
        (λ more e same. absurd (omega (arith, short)))
        (λ enough e written. inside e (ap (take (length witness)) written ∙ take-append_seam witness _) (omega (arith, ap length written, length-append witness (drop (length witness) area))))
