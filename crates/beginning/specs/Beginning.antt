-- What every call has in common: the graph, the tasks and the rows of its bytes, the cells that it uses, and how it begins.
use Rattle.std.specs.Prelude.{ℕ, ◌+◌, ◌*◌, ◌≡◌, Bool, true, false, List, [], ◌∷◌, ltb, eqb, Option, Some, None, Result, IsOkAnd}
use Rattle.meaning.specs.Graph.{Graph}
use Rattle.meaning.specs.Demand.{longest_time}
use Rattle.meaning.specs.Cells.{ByInterval, ByAmount, Filled}
use Rattle.meaning.specs.Fixed.{Task}
use Rattle.fields.specs.Deciding.{Rule, ◌when◌, ◌or◌, judged_by}
use Rattle.sheet.specs.Judging.{judged}
use Rattle.sheet.specs.Meaning.{graph_of, tasks_of}
use Rattle.sheet.specs.Answer.{Answer}
use Rattle.sheet.specs.Answer as sheet-case
use Rattle.beginning.specs.declared.accepted.AcceptedSheet.{AcceptedSheet}
use Rattle.fields.specs.Refusals.{refused}
use Rattle.fields.specs.declared.refusal.Reason.{Reason}
use Rattle.fields.specs.declared.refusal.Reason.TheVariants.{OutOfRange, FewCells}
use Rattle.fields.specs.declared.refusal.Refusal.{Refusal}

-- the graph and the fixed tasks of a sheet's bytes, and how many rows it has
abbrev pub graph : List ℕ → Graph
graph bytes = graph_of bytes (judged bytes).sheet

abbrev pub tasks : List ℕ → List Task
tasks bytes = tasks_of (judged bytes).sheet

abbrev pub rows : List ℕ → ℕ
rows bytes = (judged bytes).sheet.tally.rows

-- how many cells a number of lines takes, one cell a row
abbrev pub room_for : List ℕ → ℕ → ℕ
room_for bytes lines = rows bytes * lines

-- the first lines of the table by interval are filled and nothing else has changed; likewise by amount
abbrev pub FilledByInterval : List ℕ → ℕ → List ℕ → List ℕ → Type 0
FilledByInterval bytes lines old new = Filled (rows bytes) (ByInterval (graph bytes)) old new (room_for bytes lines)

abbrev pub FilledByAmount : List ℕ → ℕ → List ℕ → List ℕ → Type 0
FilledByAmount bytes lines old new = Filled (rows bytes) (ByAmount (graph bytes)) old new (room_for bytes lines)

-- the rules of a call: rule 11 where the number asked for is out of range, rule 12 where the room, in cells, is too small for its lines
abbrev pub call_rules : List ℕ → Bool → ℕ → ℕ → List Rule
call_rules bytes out_of_range lines room = OutOfRange when out_of_range ∷ FewCells when ltb room (room_for bytes lines) ∷ []

-- the same where the lines are counted already: none where the number is out of range
abbrev pub counted_rules : List ℕ → Option ℕ → ℕ → List Rule
counted_rules bytes (Some lines) = call_rules bytes false lines
counted_rules bytes None = call_rules bytes true 0

-- the rules of a call with an interval or a horizon, which is at most the longest time and takes a line for each interval from 0 on
abbrev pub interval_rules : List ℕ → ℕ → ℕ → List Rule
interval_rules bytes t = call_rules bytes (ltb longest_time t) (t + 1)

-- rule 11 of an amount: it is from 1 to one more than the longest time
abbrev pub bad_amount : ℕ → Bool
bad_amount b = eqb b 0 or ltb (longest_time + 1) b

-- the rules of a call with an amount, which takes a line for each amount from 1 on
abbrev pub amount_rules : List ℕ → ℕ → ℕ → List Rule
amount_rules bytes b = call_rules bytes (bad_amount b) b

-- how every call begins: the sheet's own refusal at its place, else the first broken rule of the call at place 0, else the answer
abbrev pub Begins : Answer → List Rule → (Reason → ℕ → Type 0) → Type 0 → Type 0
Begins (sheet-case.Refused reason place) rules Refuses Answers = Refuses reason place
Begins sheet-case.Accepted rules Refuses Answers = judged_by (λ reason. Refuses reason 0) rules Answers

-- what a call has in hand once it has begun: the accepted sheet of its bytes where it may go on, else the refusal that stands first
unfoldable pub Begun : List ℕ → List Rule → Result AcceptedSheet Refusal → Type 0
Begun bytes rules begun =
    Begins (judged bytes).answer rules
    (λ reason place. begun ≡ refused reason place)
    (IsOkAnd begun (λ sheet. sheet.bytes.now ≡ bytes))
