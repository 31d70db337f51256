-- How a call begins: which of the refusals 1 to 12 stands first, or that it comes to its answer.
use Prim.Native.Nat.{ℕ, ◌+◌, ◌≤◌, ◌<◌}
use native.Mathlib.Omega.{arith}
use mathlib.Core.Path.{◌≡◌, refl, sym, ap, ◌∙◌, subst, subst⁻¹}
use mathlib.Core.Bool.{Bool, true, false, true≢false}
use Rattle.std.specs.Prelude.{Option, Some, None, Result, Ok, Err, is_ok, IsOkAnd}
use mathlib.Core.List.{List, [], ◌∷◌}
use lib.Dec.{ltb, eqb}
use borrow.Author.Tests.{lt-ltb, le-ltb, eq-eqb, ne_eqb, eqb-false, ltb-false}
use Rattle.meaning.specs.Demand.{longest_time}
use Rattle.fields.specs.Deciding.{Rule, ◌when◌, pick}
use Rattle.fields.specs.Refusals.{refused}
use Rattle.fields.specs.declared.refusal.Reason.{Reason}
use Rattle.fields.specs.declared.refusal.Reason.TheVariants.{OutOfRange, FewCells}
use Rattle.fields.specs.declared.refusal.Refusal.{Refusal}
use Rattle.fields.proofs.Deciding.{yes, no, neither, Kept}
use Rattle.sheet.specs.Judging.{judged}
use Rattle.sheet.specs.Outline.{Outlined, Handed}
use Rattle.sheet.specs.Proper.{Bytes}
use Rattle.sheet.specs.Answer.{Answer, Accepted, Refused}
use Rattle.sheet.specs.declared.Head.{Head}
use Rattle.sheet.proofs.AcceptedReady.{accepted_ready}
use Rattle.sheet.proofs.Answering.{outlined_head, outlined_refusal}
use Rattle.beginning.specs.Beginning.{Begins, bad_amount, rows, room_for, call_rules, counted_rules, interval_rules, Begun}
use Rattle.beginning.specs.declared.accepted.AcceptedSheet.{AcceptedSheet}

accepted_not_refused : (reason : Reason) (place : ℕ) → Accepted ≡ Refused reason place → ⊥
accepted_not_refused reason place e = cc

-- an answer is not a refusal
pub ok_not_refused : {A : Type 0} {C : Type 0} (value : A) (refusal : Refusal) → ◌≡◌ {A = Result A Refusal} (Ok value) (Err refusal) → C
ok_not_refused value refusal e = absurd (true≢false (ap is_ok e))

-- two calls that begin alike both refuse alike or both answer
pub begins_alike : (answer : Answer) (rules : List Rule) (R S : Reason → ℕ → Type 0) (A B C : Type 0)
    → ((reason : Reason) (place : ℕ) → R reason place → S reason place → C) → (A → B → C)
    → Begins answer rules R A → Begins answer rules S B → C
unfolding pick
begins_alike (Refused reason place) rules R S A B C refusing answering r s = refusing reason place r s
begins_alike Accepted [] R S A B C refusing answering r s = answering r s
begins_alike Accepted (reason when true ∷ rules) R S A B C refusing answering r s = refusing reason 0 r s
begins_alike Accepted (reason when false ∷ rules) R S A B C refusing answering r s = begins_alike Accepted rules R S A B C refusing answering r s

-- a call keeps a promise that follows from the one it keeps
begins_follows : (answer : Answer) (rules : List Rule) (R S : Reason → ℕ → Type 0) (A B : Type 0)
    → ((reason : Reason) (place : ℕ) → R reason place → S reason place) → (answer ≡ Accepted → A → B) → Begins answer rules R A → Begins answer rules S B
unfolding pick
begins_follows (Refused reason place) rules R S A B refusing answering r = refusing reason place r
begins_follows Accepted [] R S A B refusing answering r = answering refl r
begins_follows Accepted (reason when true ∷ rules) R S A B refusing answering r = refusing reason 0 r
begins_follows Accepted (reason when false ∷ rules) R S A B refusing answering r = begins_follows Accepted rules R S A B refusing answering r

-- a call that refuses nothing has come to its answer
pub came_to_answer : (answer : Answer) (rules : List Rule) (R : Reason → ℕ → Type 0) (A : Type 0)
    → ((reason : Reason) (place : ℕ) → R reason place → ⊥) → Begins answer rules R A → A × (answer ≡ Accepted) × Kept rules
unfolding pick
came_to_answer (Refused reason place) rules R A never b = absurd (never reason place b)
came_to_answer Accepted [] R A never b = (b, refl, tt)
came_to_answer Accepted (reason when true ∷ rules) R A never b = absurd (never reason 0 b)
came_to_answer Accepted (reason when false ∷ rules) R A never b =
    let came = came_to_answer Accepted rules R A never b in
    (came.0, refl, (refl, came.2))

-- where the sheet is accepted and no rule is broken, what a call promises is its answer
promises_answer : (answer : Answer) (rules : List Rule) (R : Reason → ℕ → Type 0) (A : Type 0)
    → answer ≡ Accepted → Kept rules → Begins answer rules R A ≡ A
unfolding pick
promises_answer (Refused reason place) rules R A e kept = absurd (accepted_not_refused reason place (sym e))
promises_answer Accepted [] R A e kept = refl
promises_answer Accepted (reason when true ∷ rules) R A e kept = absurd (true≢false kept.0)
promises_answer Accepted (reason when false ∷ rules) R A e kept = promises_answer Accepted rules R A e kept.1

module _ (answer : Answer) (rules : List Rule) (R : Reason → ℕ → Type 0) (A : Type 0) (accepted : answer ≡ Accepted) (kept : Kept rules) where
  pub begins_answering : A → Begins answer rules R A
  begins_answering = subst⁻¹ (λ (X : Type 0). X) (promises_answer answer rules R A accepted kept)

  pub comes_to_answer : Begins answer rules R A → A
  comes_to_answer = subst (λ (X : Type 0). X) (promises_answer answer rules R A accepted kept)

-- where two rooms are both enough, the rules of a call with an interval are the same
pub enough_alike : (bytes : List ℕ) (t room other : ℕ) → room_for bytes (t + 1) ≤ room → room_for bytes (t + 1) ≤ other
    → interval_rules bytes t other ≡ interval_rules bytes t room
enough_alike bytes t room other enough enough' =
    ap (λ (too_few : Bool). OutOfRange when ltb longest_time t ∷ FewCells when too_few ∷ []) (le-ltb other _ enough' ∙ sym (le-ltb room _ enough))

module _ (amount : ℕ) where
  -- an amount of 0 is out of range, and so is one beyond the longest time and one
  pub amount_zero : amount ≡ 0 → bad_amount amount ≡ true
  amount_zero none = sym (yes _ _ _ _ (eq-eqb amount 0 none) refl)

  pub amount_beyond : longest_time + 1 < amount → bad_amount amount ≡ true
  amount_beyond more = sym (no _ _ _ _ (ne_eqb amount 0 (λ (z : amount ≡ 0). omega arith)) (sym (lt-ltb _ _ more)))

  -- one that is in range takes at least one
  pub amount_some : bad_amount amount ≡ false → 1 ≤ amount
  amount_some good = let some : amount ≡ 0 → ⊥ = eqb-false amount 0 (neither (eqb amount 0) (ltb (longest_time + 1) amount) good).0 in omega arith

  -- and no more than the longest time and one
  pub amount_most : bad_amount amount ≡ false → amount ≤ longest_time + 1
  amount_most good = ltb-false _ _ (neither (eqb amount 0) (ltb (longest_time + 1) amount) good).1

  -- one from 1 to the longest time and one is in range
  pub amount_in_range : 1 ≤ amount → amount ≤ longest_time + 1 → bad_amount amount ≡ false
  amount_in_range some few = sym (no _ _ _ _ (ne_eqb amount 0 (λ (z : amount ≡ 0). omega arith)) (sym (le-ltb _ _ few)))

-- an accepted sheet in outline is what a call hands down
pub outlined_handed : (bytes places : List ℕ) (head : Head) → Bytes bytes → Outlined bytes places (Ok head) → Handed bytes head places
outlined_handed bytes places head fit outlined =
    let known = outlined_head bytes places head outlined in
    record { ready = accepted_ready bytes fit known.0; same = known.1; rows = outlined.rows }

-- the rows that a head counts are the sheet's
pub outline_rows : (bytes places : List ℕ) (head : Head) → Outlined bytes places (Ok head) → head.tally.rows ≡ rows bytes
outline_rows bytes places head outlined = ap (λ (one : Head). one.tally.rows) (outlined_head bytes places head outlined).1

-- a refused sheet
pub begin_refused : (bytes : List ℕ) (rules : List Rule) (places : List ℕ) (refusal : Refusal) → Outlined bytes places (Err refusal)
    → Begun bytes rules (Err refusal)
unfolding Begun
begin_refused bytes rules places refusal outlined = rw (outlined_refusal bytes places refusal outlined) refl

module _ (bytes : List ℕ) (room : ℕ) (accepted : (judged bytes).answer ≡ Accepted) where
  -- an accepted one, and a number out of range
  pub begin_beyond : Begun bytes (counted_rules bytes None room) (refused OutOfRange 0)
  unfolding Begun pick
  begin_beyond = rw accepted refl

  -- and too few cells
  pub begin_short : (lines : ℕ) → room < room_for bytes lines → Begun bytes (counted_rules bytes (Some lines) room) (refused FewCells 0)
  unfolding Begun pick
  begin_short lines short = rw (accepted, lt-ltb room (room_for bytes lines) short) refl

  -- and nothing in the way
  pub begin_goes_on : (lines : ℕ) → room_for bytes lines ≤ room → (sheet : AcceptedSheet) → sheet.bytes.now ≡ bytes
      → Begun bytes (counted_rules bytes (Some lines) room) (Ok sheet)
  unfolding Begun
  begin_goes_on lines enough sheet same =
      begins_answering (judged bytes).answer (call_rules bytes false lines room) _ _ accepted (refl, (le-ltb _ _ enough, tt)) same

-- a call that counts no lines where the number is out of range, and else as many as it takes
pub begun_in_lines : (bytes : List ℕ) (out_of_range : Bool) (lines room : ℕ) (begun : Result AcceptedSheet Refusal) (counted : Option ℕ)
    → counted ≡ pick out_of_range None (Some lines) → Begun bytes (counted_rules bytes counted room) begun → Begun bytes (call_rules bytes out_of_range lines room) begun
unfolding Begun pick
begun_in_lines bytes true lines room begun counted e b = go (judged bytes).answer (subst (λ (x : Option ℕ). Begun bytes (counted_rules bytes x room) begun) e b)
  where
    go : (answer : Answer)
        → Begins answer (call_rules bytes true 0 room) (λ reason place. begun ≡ refused reason place) (IsOkAnd begun (λ sheet. sheet.bytes.now ≡ bytes))
        → Begins answer (call_rules bytes true lines room) (λ reason place. begun ≡ refused reason place) (IsOkAnd begun (λ sheet. sheet.bytes.now ≡ bytes))
    go (Refused reason place) q = q
    go Accepted q = q
begun_in_lines bytes false lines room begun counted e b = subst (λ (x : Option ℕ). Begun bytes (counted_rules bytes x room) begun) e b

module _ (bytes : List ℕ) (rules : List Rule) where
  -- a call that begins with a refusal gives it
  pub begun_refused : (refusal : Refusal) → Begun bytes rules (Err refusal)
      → (R : Reason → ℕ → Type 0) (A : Type 0) → R refusal.reason refusal.place → Begins (judged bytes).answer rules R A
  unfolding Begun
  begun_refused refusal begun R A r =
      begins_follows (judged bytes).answer rules _ R _ A told (λ _ none. absurd none) begun
    where
      told : (reason : Reason) (place : ℕ) → ◌≡◌ {A = Result AcceptedSheet Refusal} (Err refusal) (refused reason place) → R reason place
      told reason place e =
          let same : refusal ≡ record { reason = reason; place = place } = cc in
          subst (λ (x : Refusal). R x.reason x.place) same r

  -- a call that begins without one has the accepted sheet of its bytes and breaks no rule
  pub begun_accepted : (sheet : AcceptedSheet) → Begun bytes rules (Ok sheet) → (sheet.bytes.now ≡ bytes) × ((judged bytes).answer ≡ Accepted) × Kept rules
  unfolding Begun
  begun_accepted sheet begun =
      came_to_answer (judged bytes).answer rules _ (sheet.bytes.now ≡ bytes)
      (λ reason place (e : ◌≡◌ {A = Result AcceptedSheet Refusal} (Ok sheet) (refused reason place)). ok_not_refused sheet _ e) begun
