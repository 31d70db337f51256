-- What is printed as the curve of an accepted sheet is right: the cells that the verdict by interval leaves show it, and they rise where demand does.
use Prim.Native.Nat.{ℕ, ◌+◌, ◌-◌, ◌≤◌, ◌<◌}
use native.Mathlib.Omega.{arith}
use mathlib.Core.Path.{◌≡◌}
use mathlib.Core.Logic.{◌↔◌}
use mathlib.Core.List.{List}
use lib.ListN.{length}
use borrow.Author.Tests.{le-ltb}
use Rattle.meaning.specs.Cells.{ByInterval}
use Rattle.meaning.specs.Demand.{longest_time, IsDemand}
use Rattle.meaning.proofs.Unique.{demand_unique}
use Rattle.sheet.specs.Judging.{judged}
use Rattle.sheet.specs.Proper.{Bytes}
use Rattle.sheet.specs.Answer.{Accepted}
use Rattle.sheet.proofs.AcceptedReady.{accepted_ready}
use Rattle.tables.specs.Lines.{HasLines, demand_in}
use Rattle.tables.proofs.Lines.{filled_lines, sheet_demand}
use Rattle.beginning.specs.Beginning.{graph, rows, room_for, FilledByInterval, interval_rules}
use Rattle.beginning.proofs.Beginnings.{comes_to_answer}
use Rattle.desk.specs.Calls.{VerdictAnswers, VerdictCall, VerdictByIntervalCall}
use Rattle.std.specs.Prelude.{Option, Result}
use Rattle.fields.specs.declared.refusal.Refusal.{Refusal}
use Rattle.steps.specs.Rising.{Rises}
use Rattle.printing.specs.Showing.{ShowsCurve}

module _ (bytes : List ℕ) (fit : Bytes bytes) (accepted : (judged bytes).answer ≡ Accepted) (horizon : ℕ) (old new : List ℕ) (answer : Result (Option ℕ) Refusal)
    (range : horizon ≤ longest_time) (enough : room_for bytes (horizon + 1) ≤ length old) (call : VerdictByIntervalCall bytes horizon old answer new) where
  answered : VerdictAnswers FilledByInterval bytes horizon old answer new
  unfolding VerdictCall
  answered =
      comes_to_answer (judged bytes).answer (interval_rules bytes horizon (length old)) _ (VerdictAnswers FilledByInterval bytes horizon old answer new)
      accepted (le-ltb _ _ range, (le-ltb _ _ enough, tt)) call

  pub shows_curve : ShowsCurve bytes (rows bytes) horizon new
  shows_curve =
      let lines : HasLines (rows bytes) (ByInterval (graph bytes)) new (horizon + 1) =
      filled_lines (rows bytes) (ByInterval (graph bytes)) (horizon + 1) old new enough answered.0 in
      record {
        in_range = range;
        room = lines.room;
        demands = λ t h. sheet_demand bytes (judged bytes).sheet (accepted_ready bytes fit accepted) new (horizon + 1) lines t (omega arith);
      }

-- where cells show a curve, they rise exactly where the demand does
pub step_right : (bytes : List ℕ) (rows horizon : ℕ) (cells : List ℕ) → ShowsCurve bytes rows horizon cells
    → (t before after : ℕ) → t ≤ horizon → IsDemand (graph bytes) (t - 1) before → IsDemand (graph bytes) t after
    → Rises (demand_in rows cells) t ↔ before < after
step_right bytes rows horizon cells shows t before after h b a =
    let earlier : before ≡ demand_in rows cells (t - 1) = demand_unique (graph bytes) (t - 1) _ _ b (shows.demands (t - 1) (omega arith)) in
    let later : after ≡ demand_in rows cells t = demand_unique (graph bytes) t _ _ a (shows.demands t h) in
    (λ up. rw (earlier, later) up, λ up. rw (earlier, later) at up)
