-- Every accepted sheet is ready for the calculations.
use Prim.Native.Nat.{ℕ}
use mathlib.Core.Path.{◌≡◌}
use mathlib.Core.List.{List}
use Rattle.sheet.specs.Judging.{judged}
use Rattle.sheet.specs.Proper.{Bytes}
use Rattle.sheet.specs.Ready.{Ready}
use Rattle.sheet.specs.Answer.{Accepted}
use Rattle.sheet.proofs.Accepted.{accepted_proper}
use Rattle.sheet.proofs.ProperGraph.{proper_sound, length_proper}

pub accepted_ready : (bytes : List ℕ) → Bytes bytes → (judged bytes).answer ≡ Accepted → Ready bytes (judged bytes).sheet
accepted_ready bytes fit accepted =
    let proper = accepted_proper bytes fit accepted in
    record {
      proper = proper;
      sound = proper_sound bytes (judged bytes).sheet proper;
      lengths_most = λ k h. (length_proper bytes (judged bytes).sheet proper k h).1;
    }
