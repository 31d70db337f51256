-- What is known where a call goes on, once it has begun.
use Prim.Native.Nat.{ℕ, ◌+◌, ◌≤◌}
use mathlib.Core.Path.{◌≡◌, subst, subst⁻¹}
use mathlib.Core.List.{List}
use borrow.Author.Tests.{ltb-false}
use Rattle.meaning.specs.Demand.{longest_time}
use Rattle.fields.specs.Deciding.{Rule}
use Rattle.fields.specs.declared.refusal.Reason.{Reason}
use Rattle.fields.proofs.Deciding.{Kept}
use Rattle.sheet.specs.Answer.{Accepted}
use Rattle.sheet.specs.Judging.{judged}
use Rattle.sheet.specs.Outline.{Handed}
use Rattle.std.specs.Prelude.{Ok}
use Rattle.beginning.specs.declared.accepted.AcceptedSheet.{AcceptedSheet}
use Rattle.beginning.specs.Beginning.{Begins, room_for, interval_rules, amount_rules, Begun}
use Rattle.beginning.proofs.Beginnings.{begins_answering, begun_accepted, amount_some, amount_most}

module _ (bytes : List ℕ) (rules : List Rule) (sheet : AcceptedSheet) (begun : Begun bytes rules (Ok sheet)) where
  -- its sheet is that of the bytes
  pub begun_same : sheet.bytes.now ≡ bytes
  begun_same = (begun_accepted bytes rules sheet begun).0

  -- where a call goes on, the bytes are accepted, no rule of the call is broken, and what is handed on is that of these bytes
  pub goes_on : ((judged bytes).answer ≡ Accepted) × Kept rules × Handed bytes sheet.head sheet.places.now
  goes_on =
      let known = begun_accepted bytes rules sheet begun in
      (known.1, known.2, subst (λ (file : List ℕ). Handed file sheet.head sheet.places.now) known.0 sheet.handed)

  -- and what it answers is what it promises
  pub goes_answering : (R : Reason → ℕ → Type 0) (A : Type 0) → A → Begins (judged bytes).answer rules R A
  goes_answering R A =
      let known = begun_accepted bytes rules sheet begun in
      begins_answering (judged bytes).answer rules R A known.1 known.2

-- what a call with an interval or a horizon has made sure of for the function that answers it
pub interval_handed : (bytes : List ℕ) (t room : ℕ) (sheet : AcceptedSheet) → Begun bytes (interval_rules bytes t room) (Ok sheet)
    → (t ≤ longest_time) × (room_for sheet.bytes.now (t + 1) ≤ room)
interval_handed bytes t room sheet begun =
    let known = begun_accepted bytes (interval_rules bytes t room) sheet begun in
    (ltb-false _ _ known.2.0, subst⁻¹ (λ (file : List ℕ). room_for file (t + 1) ≤ room) known.0 (ltb-false _ _ known.2.1.0))

-- and one with an amount
pub amount_handed : (bytes : List ℕ) (b room : ℕ) (sheet : AcceptedSheet) → Begun bytes (amount_rules bytes b room) (Ok sheet)
    → (1 ≤ b) × ((b ≤ longest_time + 1) × (room_for sheet.bytes.now b ≤ room))
amount_handed bytes b room sheet begun =
    let known = begun_accepted bytes (amount_rules bytes b room) sheet begun in
    (amount_some b known.2.0, (amount_most b known.2.0, subst⁻¹ (λ (file : List ℕ). room_for file b ≤ room) known.0 (ltb-false _ _ known.2.1.0)))
