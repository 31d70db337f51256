-- What a caller can count on when lending: an area of as many bytes as the interval has ticks takes every witness.
use Prim.Native.Nat.{ℕ, ◌+◌, ◌≤◌}
use native.Mathlib.Omega.{arith}
use mathlib.Core.Path.{◌≡◌, refl, sym, ap, ◌∙◌}
use mathlib.Core.Bool.{Bool, true, false}
use mathlib.Core.List.{List, [], ◌∷◌}
use lib.Dec.{ltb}
use lib.ListN.{length}
use Rattle.meaning.specs.Demand.{longest_time}
use Rattle.meaning.proofs.Bounds.{witness_at_most}
use Rattle.fields.specs.Deciding.{◌when◌, pick}
use Rattle.sheet.specs.Judging.{judged}
use Rattle.sheet.specs.Proper.{Bytes}
use Rattle.sheet.proofs.Accepted.{accepted_proper}
use Rattle.sheet.proofs.ProperGraph.{proper_sound}
use Rattle.sheet.proofs.Refusals.{refused_number}
use Rattle.sheet.specs.Answer.{Answer}
use Rattle.sheet.specs.Answer as sheet-case
use Rattle.beginning.specs.Beginning.{graph, room_for, Begins}
use Rattle.desk.specs.Calls.{DemandRefuses, DemandAnswers, DemandCall}
use Rattle.std.specs.Prelude.{Result}
use Rattle.fields.specs.Refusals.{rule_number, refused}
use Rattle.fields.specs.declared.refusal.Reason.{Reason}
use Rattle.fields.specs.declared.refusal.Reason.TheVariants.{OutOfRange, FewCells, ShortArea}
use Rattle.fields.specs.declared.refusal.Refusal.{Refusal}
use Rattle.desk.specs.declared.Attained.{Attained}
use Rattle.beginning.proofs.Beginnings.{ok_not_refused}
use Rattle.beginning.proofs.Showing.{shown_case}

module _ (bytes : List ℕ) (are : Bytes bytes) (t : ℕ) (cells area : List ℕ) (answer : Result Attained Refusal) (cells' area' : List ℕ) (enough : t ≤ length area) (told : answer ≡ refused ShortArea 0) where
  -- the rules that a call begins with are all below 13
  other_reason : (reason : Reason) (place : ℕ) → rule_number reason ≤ 12 → DemandRefuses cells area answer cells' area' reason place → ⊥
  other_reason reason place few r =
      let both : ◌≡◌ {A = Result Attained Refusal} (refused reason place) (refused ShortArea 0) = sym r.0 ∙ told in
      let same : ◌≡◌ {A = Refusal} (record { reason = reason; place = place }) (record { reason = ShortArea; place = 0 }) = cc in
      let number : rule_number reason ≡ 13 = ap (λ (one : Refusal). rule_number one.reason) same in
      omega arith

  -- a witness has at most a row for each tick, so it is not 13 where the call comes to its answer
  witness_fits : (judged bytes).answer ≡ sheet-case.Accepted → DemandAnswers bytes t cells area answer cells' area' → ⊥
  witness_fits accepted (filled, (amount, witness, is, first, gives)) =
      let short : length witness ≤ t = witness_at_most (graph bytes) (proper_sound bytes (judged bytes).sheet (accepted_proper bytes are accepted)) t witness first in
      shown_case witness area _ _ ⊥ answer area'
      (λ long refused same. omega arith)
      (λ fits found written. ok_not_refused _ _ (sym found ∙ told))
      gives

  pub area_suffices : DemandCall bytes t cells area answer cells' area' → ⊥
  unfolding DemandCall pick
  area_suffices call = go (judged bytes).answer refl (ltb longest_time t) (ltb (length cells) (room_for bytes (t + 1))) call
    where
      go : (a : Answer) → (judged bytes).answer ≡ a → (o f : Bool)
          → Begins a (OutOfRange when o ∷ FewCells when f ∷ []) (DemandRefuses cells area answer cells' area') (DemandAnswers bytes t cells area answer cells' area') → ⊥
      go (sheet-case.Refused reason place) e o f r = other_reason reason place (omega (arith, refused_number bytes reason place e)) r
      go sheet-case.Accepted e true f r = other_reason OutOfRange 0 (omega arith) r
      go sheet-case.Accepted e false true r = other_reason FewCells 0 (omega arith) r
      go sheet-case.Accepted e false false r = witness_fits e r
