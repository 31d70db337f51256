-- What the lines of an accepted sheet tell `explain`: what was found in one pass over them, and the numbers read at an overrun, are those that the call promises.
use Prim.Native.Nat.{ℕ, ◌+◌, ◌*◌, ◌≤◌, ◌<◌}
use native.Mathlib.Omega.{arith}
use mathlib.Core.Path.{◌≡◌, refl, ap, ◌∙◌, subst}
use mathlib.Core.List.{List}
use lib.ListN.{length}
use borrow.Author.Tests.{eq-eqb, ne_eqb}
use Rattle.meaning.specs.Cells.{ByInterval, Filled}
use Rattle.meaning.specs.Computed.{witness_of}
use Rattle.meaning.specs.Demand.{IsDemand}
use Rattle.meaning.specs.Fixed.{fixed_sum}
use Rattle.meaning.specs.Fixed as meaning
use Rattle.meaning.specs.Verdict.{holds, overrun, Overruns}
use Rattle.meaning.proofs.Existence.{witness_of_lem}
use Rattle.meaning.proofs.Margins.{overruns_by_demand}
use Rattle.fields.specs.Deciding.{pick}
use Rattle.sheet.specs.declared.Head.{Head}
use Rattle.tables.specs.Lines.{HasLines, demand_in}
use Rattle.overruns.specs.Releases.{counted_tasks}
use Rattle.witness.specs.Stands.{IsShown}
use Rattle.std.specs.Prelude.{Result, Ok, Err}
use Rattle.fields.specs.Refusals.{refused}
use Rattle.fields.specs.declared.refusal.Reason.{Reason}
use Rattle.fields.specs.declared.refusal.Reason.TheVariants.{ShortArea}
use Rattle.fields.specs.declared.refusal.Refusal.{Refusal}
use Rattle.beginning.specs.Beginning.{graph, tasks}
use Rattle.beginning.specs.declared.accepted.AcceptedSheet.{AcceptedSheet}
use Rattle.beginning.proofs.Showing.{shown_as}
use Rattle.tables.proofs.Lines.{room_for_fewer}
use Rattle.desk.proofs.Telling.{same_tasks, lines_filled, demand_told}
use Rattle.explain.specs.Reasons.{Sums}
use Rattle.explain.specs.Looking.{Shows, ToldAt}
use Rattle.explain.specs.Calls.{failing, FailsAt, ExplainAnswers}
use Rattle.explain.specs.declared.Cause.{Cause}
use Rattle.explain.specs.declared.Explained.{Explained}
use Rattle.explain.specs.declared.Explained.TheVariants.{Holds, NoInterval, Fails}
use Rattle.explain.specs.declared.Overrun.{Overrun}
use Rattle.explain.specs.declared.looking.Tightest.{Tightest}
use Rattle.explain.specs.declared.looking.Tightest.TheVariants as tightest-case
use Rattle.explain.proofs.Causes.{some_sums}

-- an area that has some lines has fewer
pub fewer_lines : (n : ℕ) (Right : ℕ → ℕ → ℕ → Type 0) (cells : List ℕ) (count lines : ℕ) → lines ≤ count → HasLines n Right cells count
    → HasLines n Right cells lines
fewer_lines n Right cells count lines fewer table = record {
  room = room_for_fewer n count lines (length cells) fewer table.room;
  right = λ line k l h. table.right line k (omega arith) h;
}

-- what is told of an overrun with its witness as it is shown
abbrev told_with : List meaning.Task → ℕ → Cause → ℕ → Result ℕ Reason → Result Explained Refusal
told_with tasks t cause engine (Ok count) = Ok (Fails (failing tasks t cause engine count))
told_with tasks t cause engine (Err reason) = refused reason 0

-- the accepted sheet in hand
module _ (sheet : AcceptedSheet) where
  -- the bytes that it was judged from, and its head
  abbrev bytes : List ℕ
  bytes = sheet.bytes.now

  abbrev head : Head
  head = sheet.head

  -- its fixed tasks
  abbrev held : List meaning.Task
  held = counted_tasks head.tasks head.tally.tasks

  -- what one pass found is so of the bytes
  shown : (horizon : ℕ) (found : Tightest) → Shows (graph bytes) held horizon found → Shows (graph bytes) (tasks bytes) horizon found
  shown horizon found = subst (λ (all : List meaning.Task). Shows (graph bytes) all horizon found) (same_tasks sheet)

  -- the lines up to t, and fixed demand at t, which is overrun
  module _ (t fixed : ℕ) (cells : List ℕ) (table : HasLines head.tally.rows (ByInterval (graph bytes)) cells (t + 1))
      (sum : fixed ≡ fixed_sum held t) (over : Overruns (graph bytes) held t) where
    -- fixed demand is that of the bytes
    sum_told : fixed ≡ fixed_sum (tasks bytes) t
    sum_told = sum ∙ ap (λ (all : List meaning.Task). fixed_sum all t) (same_tasks sheet)

    -- the largest cell of the line is the demand
    engine_told : IsDemand (graph bytes) t (demand_in head.tally.rows cells t)
    engine_told = demand_told sheet t cells table (demand_in head.tally.rows cells t) refl

    -- both demands together are more than t
    pub more_than_interval : t < demand_in head.tally.rows cells t + fixed
    more_than_interval =
        let overrun-there : Overruns (graph bytes) (tasks bytes) t = subst (λ (all : List meaning.Task). Overruns (graph bytes) all t) (same_tasks sheet) over in
        rw sum_told ((overruns_by_demand (graph bytes) (tasks bytes) t (demand_in head.tally.rows cells t) engine_told).0 overrun-there)

    -- what is told with the witness as it is shown is what the call promises
    overrun_shown : (area area' : List ℕ) (shown : Result ℕ Reason) (explained : Result Explained Refusal) (cause : Cause)
        → IsShown (witness_of (graph bytes) t) area shown area' → Sums cause t (demand_in head.tally.rows cells t) fixed
        → explained ≡ told_with held t cause (demand_in head.tally.rows cells t) shown → FailsAt bytes t area explained area'
    overrun_shown area area' shown explained cause is-shown sums e =
        let engine : ℕ = demand_in head.tally.rows cells t in
        let witness : List ℕ = witness_of (graph bytes) t in
        let same : explained ≡ told_with (tasks bytes) t cause engine shown = e ∙ ap (λ (all : List meaning.Task). told_with all t cause engine shown) (same_tasks sheet) in (
          cause,
          engine,
          witness,
          engine_told,
          witness_of_lem (graph bytes) sheet.handed.ready.sound t,
          subst (Sums cause t engine) sum_told sums,
          rw same (shown_as witness area (Ok (length witness)) (Err ShortArea) (told_with (tasks bytes) t cause engine) shown area' is-shown),
        )

    -- the witness does not fit
    pub short_told : (area area' : List ℕ) (reason : Reason) → IsShown (witness_of (graph bytes) t) area (Err reason) area'
        → FailsAt bytes t area (refused reason 0) area'
    short_told area area' reason is-shown =
        let found = some_sums t (demand_in head.tally.rows cells t) fixed more_than_interval in
        overrun_shown area area' (Err reason) (refused reason 0) found.0 is-shown found.1 refl

    -- it fits, and the numbers are told
    pub fails_told : (area area' : List ℕ) (count : ℕ) (told : Overrun) → IsShown (witness_of (graph bytes) t) area (Ok count) area'
        → ToldAt head.tally.rows head.tasks head.tally.tasks cells t fixed count told → FailsAt bytes t area (Ok (Fails told)) area'
    fails_told area area' count told is-shown (cause, sums, e) =
        overrun_shown area area' (Ok count) (Ok (Fails told)) cause is-shown sums (ap (λ (one : Overrun). Ok (Fails one)) e)

  -- the lines up to the horizon are filled
  module _ (horizon : ℕ) (old new area : List ℕ) (filled : Filled head.tally.rows (ByInterval (graph bytes)) old new (head.tally.rows * (horizon + 1)))
      (explained : Result Explained Refusal) where
    -- no interval is there
    pub none_told : Shows (graph bytes) held horizon tightest-case.Nothing → explained ≡ Ok NoInterval
        → ExplainAnswers bytes horizon old area explained new area
    unfolding pick
    none_told none e = (
      lines_filled sheet (ByInterval (graph bytes)) (horizon + 1) old new filled,
      (holds, (λ t some within. absurd (omega (arith, none))), (rw (eq-eqb horizon 0 none) e, refl)),
    )

    -- no interval is overrun
    pub margin_told : (margin t : ℕ) → Shows (graph bytes) held horizon (tightest-case.Margin margin t) → explained ≡ Ok (Holds margin t)
        → ExplainAnswers bytes horizon old area explained new area
    unfolding pick
    margin_told margin t shows e =
        let told = shown horizon (tightest-case.Margin margin t) shows in (
          lines_filled sheet (ByInterval (graph bytes)) (horizon + 1) old new filled,
          (
            holds,
            told.0,
            (rw (ne_eqb horizon 0 (λ none. omega (arith, none, told.1.reached.0, told.1.reached.1))) (t, margin, told.1, e), refl),
          ),
        )

    -- one is overrun
    pub overrun_told : (t fixed : ℕ) (area' : List ℕ) → Shows (graph bytes) held horizon (tightest-case.Overrun t fixed)
        → FailsAt bytes t area explained area' → ExplainAnswers bytes horizon old area explained new area'
    overrun_told t fixed area' shows fails = (
      lines_filled sheet (ByInterval (graph bytes)) (horizon + 1) old new filled,
      (overrun t, (shown horizon (tightest-case.Overrun t fixed) shows).0, fails),
    )
