-- What may be printed of an answer of `explain`: why the verdict is what it is, or a refusal of the sheet or of the horizon, and never one for want of room.
use Rattle.std.specs.Prelude.{ℕ, ◌≤◌, List, length, Result, Ok, Err}
use Rattle.meaning.specs.Verdict.{Verdict, IsVerdict}
use Rattle.beginning.specs.Beginning.{graph, tasks}
use Rattle.explain.specs.Calls.{Explains}
use Rattle.explain.specs.declared.Explained.{Explained}
use Rattle.explain.specs.declared.Explained.TheVariants.{Holds, NoInterval, Fails}
use Rattle.explain.specs.declared.Overrun.{Overrun}
use Rattle.fields.specs.declared.refusal.Refusal.{Refusal}
use Rattle.printing.specs.Refusals.{bad_interval, RefusedBy}

-- why the verdict up to a horizon holds or fails; where it fails, with the rows of its witness at the front of the area
abbrev pub WhyTold : List ℕ → ℕ → List ℕ → Result Explained Refusal → Type 0
WhyTold bytes horizon area' explained =
    (v : Verdict) × (area : List ℕ) × IsVerdict (graph bytes) (tasks bytes) horizon v × Explains bytes horizon area v explained area'

-- the rows of a witness that an answer counts stand in the area
abbrev pub RowsStand : List ℕ → Explained → Type 0
RowsStand area' (Holds margin interval) = Unit {0}
RowsStand area' NoInterval = Unit {0}
RowsStand area' (Fails told) = told.count ≤ length area'

abbrev pub ExplainTold : List ℕ → ℕ → List ℕ → Result Explained Refusal → Type 0
ExplainTold bytes horizon area' (Ok explained) = WhyTold bytes horizon area' (Ok explained) × RowsStand area' explained
ExplainTold bytes horizon area' (Err refusal) = RefusedBy bytes (bad_interval horizon) refusal

-- an overrun with the verdict that it is why of, up to some horizon
abbrev pub OverrunTold : List ℕ → List ℕ → Overrun → Type 0
OverrunTold bytes area' told = (horizon : ℕ) × ExplainTold bytes horizon area' (Ok (Fails told))
