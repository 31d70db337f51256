-- How much output a caller can count on to be enough.
use Prim.Native.Nat.{ℕ, ◌≤◌}
use native.Mathlib.Omega.{arith}
use mathlib.Core.Path.{◌≡◌, ◌∙◌, refl, sym, ap}
use mathlib.Core.Bool.{true≢false}
use mathlib.Core.List.{List}
use lib.ListN.{length}
use borrow.Author.Tests.{le-ltb}
use Rattle.std.specs.Prelude.{Result, Ok, is_ok}
use Rattle.fields.specs.Refusals.{refused}
use Rattle.fields.specs.declared.refusal.Reason.TheVariants.{ShortOutput}
use Rattle.fields.specs.declared.refusal.Refusal.{Refusal}
use Rattle.sheet.specs.Judging.{judged}
use Rattle.sheet.specs.Answer.{Answer, Accepted, Refused}
use Rattle.sheet.proofs.Refusals.{refused_number}
use Rattle.beginning.specs.Beginning.{Begins}
use Rattle.beginning.proofs.Beginnings.{comes_to_answer}
use Rattle.written.specs.Values.{Values}
use Rattle.written.specs.Written.{written}
use Rattle.written.proofs.JudgedWritten.{accepted_kept}
use Rattle.written.proofs.Sizes.{most_written, written_most}
use Rattle.writer.specs.Calls.{write_rules, WriteRefuses, WriteGives, WriteCall}

-- an output of as many bytes as are written at most is never too short
pub output_suffices : (values : Values) (output : List ℕ) (answer : Result ℕ Refusal) (output' : List ℕ) → most_written ≤ length output → WriteCall values output answer output'
    → answer ≡ refused ShortOutput 0 → ⊥
output_suffices values output answer output' enough call = go (judged (written values)).answer refl call
  where
    go : (said : Answer) → (judged (written values)).answer ≡ said
        → Begins said (write_rules values output) (WriteRefuses output answer output') (WriteGives values output answer output') → answer ≡ refused ShortOutput 0 → ⊥
    go (Refused reason place) told refuses short =
        let both : refused {A = ℕ} reason 0 ≡ refused ShortOutput 0 = sym refuses.0 ∙ short in
        let same : ◌≡◌ {A = Refusal} (record { reason = reason; place = 0 }) (record { reason = ShortOutput; place = 0 }) = cc in
        omega (arith, rw (ap (λ (refusal : Refusal). refusal.reason) same) at (refused_number (written values) reason place told))
    go Accepted told promise short =
        let room : length (written values) ≤ length output = omega (arith, written_most values (accepted_kept values told)) in
        let gives = comes_to_answer Accepted (write_rules values output) (WriteRefuses output answer output') (WriteGives values output answer output') refl (le-ltb _ _ room, tt) promise in
        let both : Ok (length (written values)) ≡ refused ShortOutput 0 = sym gives.0 ∙ short in
        true≢false (ap is_ok both)
