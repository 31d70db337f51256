-- What the tables of an accepted sheet tell a call: the numbers read off its cells are those that the call promises.
use Prim.Native.Nat.{ℕ, ◌+◌, ◌*◌, ◌^◌, ◌≤◌, ◌<◌}
use native.Mathlib.Omega.{arith}
use mathlib.Core.Path.{◌≡◌, refl, sym, ap, ap₂, ◌∙◌, subst}
use mathlib.Core.List.{List}
use lib.IntN.{ℤ, pos, ◌-ℤ◌}
use lib.ListN.{length}
use mir.Syntax.{w64}
use mir.Val.{to_z, of_z}
use mir.Facts.{to_z_pos}
use borrow.Author.Tests.{eq-eqb, ne_eqb}
use Rattle.meaning.specs.Graph.{Graph}
use Rattle.meaning.specs.Demand.{no_time, IsDemand, IsShortest}
use Rattle.meaning.specs.Cells.{ByInterval, ByAmount, Filled}
use Rattle.meaning.specs.Fixed.{Task, fixed_sum}
use Rattle.meaning.specs.Verdict.{IsVerdict}
use Rattle.meaning.specs.Computed.{cell_for, min_below, witness_of}
use Rattle.meaning.proofs.Differences.{sub_is64}
use Rattle.meaning.proofs.Existence.{witness_of_lem}
use Rattle.meaning.proofs.Margins.{difference, margin_sub}
use Rattle.fields.specs.Deciding.{pick}
use Rattle.sheet.specs.Judging.{judged}
use Rattle.sheet.specs.Meaning.{graph_of, tasks_of}
use Rattle.sheet.specs.declared.Head.{Head}
use Rattle.tables.specs.Lines.{HasLines, demand_in}
use Rattle.overruns.specs.Releases.{counted_tasks, ProperTasks}
use Rattle.overruns.specs.Sweeping.{IsSwept, verdict_of}
use Rattle.overruns.proofs.ProperTasks.{sheet_tasks}
use Rattle.tables.proofs.Lines.{filled_lines, sheet_demand}
use Rattle.tables.proofs.Amounts.{line_shortest}
use Rattle.beginning.specs.Beginning.{graph, tasks, rows, room_for}
use Rattle.beginning.specs.declared.accepted.AcceptedSheet.{AcceptedSheet}
use Rattle.beginning.proofs.Showing.{shown_as}
use Rattle.desk.specs.Calls.{DemandAnswers, ShortestGives, ShortestAnswers, first_overrun}
use Rattle.desk.specs.Found.{MarginFound, VerdictFound}
use Rattle.desk.specs.WhichTable.{filled_by}
use Rattle.witness.specs.Stands.{IsShown}
use Rattle.std.specs.Prelude.{Option, Result, Ok, Err}
use Rattle.fields.specs.Refusals.{refused}
use Rattle.fields.specs.declared.refusal.Reason.{Reason}
use Rattle.fields.specs.declared.refusal.Reason.TheVariants.{ShortArea, NeverReached}
use Rattle.fields.specs.declared.refusal.Refusal.{Refusal}
use Rattle.desk.specs.declared.Attained.{Attained}

-- what `demand` answers with a witness as it is shown
abbrev pub attained_as : ℕ → Result ℕ Reason → Result Attained Refusal
attained_as amount (Ok count) = Ok (record { amount = amount; count = count })
attained_as amount (Err reason) = refused reason 0

-- the accepted sheet in hand
module _ (sheet : AcceptedSheet) where
  -- the bytes that it was judged from, and its head
  abbrev bytes : List ℕ
  bytes = sheet.bytes.now

  abbrev head : Head
  head = sheet.head

  -- its rows are those that the call speaks of
  same_rows_lem : head.tally.rows ≡ rows bytes
  same_rows_lem = ap (λ (h : Head). h.tally.rows) sheet.handed.same

  -- and those of the graph
  pub rows_told : (graph bytes).rows ≡ head.tally.rows
  unfolding graph_of
  rows_told = sym same_rows_lem

  -- and so are its fixed tasks
  pub same_tasks : counted_tasks head.tasks head.tally.tasks ≡ tasks bytes
  unfolding tasks_of
  same_tasks = ap (λ (h : Head). counted_tasks h.tasks h.tally.tasks) sheet.handed.same

  -- whose times are in range
  pub tasks_proper : ProperTasks head.tasks head.tally.tasks
  tasks_proper =
      subst (λ (h : Head). ProperTasks h.tasks h.tally.tasks) (sym sheet.handed.same) (sheet_tasks bytes (judged bytes).sheet sheet.handed.ready.proper)

  -- lines filled for the head's rows, of either table, are those that the call promises
  pub lines_filled : (Right : ℕ → ℕ → ℕ → Type 0) (count : ℕ) (old new : List ℕ)
      → Filled head.tally.rows Right old new (head.tally.rows * count) → Filled (rows bytes) Right old new (room_for bytes count)
  lines_filled Right count old new = subst (λ (n : ℕ). Filled n Right old new (n * count)) same_rows_lem

  -- there is room for the lines
  pub room_told : (count : ℕ) (cells : List ℕ) → room_for bytes count ≤ length cells → head.tally.rows * count ≤ length cells
  room_told count cells = subst (λ (n : ℕ). n * count ≤ length cells) (sym same_rows_lem)

  -- the largest cell of a line by interval is the demand
  pub demand_told : (t : ℕ) (cells : List ℕ) → HasLines head.tally.rows (ByInterval (graph bytes)) cells (t + 1)
      → (amount : ℕ) → amount ≡ demand_in head.tally.rows cells t → IsDemand (graph bytes) t amount
  demand_told t cells table amount e =
      subst (IsDemand (graph bytes) t) (sym (e ∙ ap (λ (n : ℕ). demand_in n cells t) same_rows_lem))
      (sheet_demand bytes (judged bytes).sheet sheet.handed.ready cells (t + 1)
      (subst (λ (n : ℕ). HasLines n (ByInterval (graph bytes)) cells (t + 1)) same_rows_lem table) t (omega arith))

  module _ (t : ℕ) (old new : List ℕ) (room : head.tally.rows * (t + 1) ≤ length old)
      (filled : Filled head.tally.rows (ByInterval (graph bytes)) old new (head.tally.rows * (t + 1))) where
    -- the filled lines, as the witness asks for them
    pub lines_told : HasLines head.tally.rows (ByInterval (graph bytes)) new (t + 1)
    lines_told = filled_lines head.tally.rows (ByInterval (graph bytes)) (t + 1) old new room filled

    -- a margin read off the last line and fixed demand
    pub margin_told : (amount fixed : ℕ) (m : ℤ)
        → amount ≡ demand_in head.tally.rows new t → fixed ≡ fixed_sum (counted_tasks head.tasks head.tally.tasks) t → m ≡ pos t -ℤ pos (amount + fixed)
        → MarginFound bytes t old m new
    margin_told amount fixed m most sum e =
        let same_sum : fixed ≡ fixed_sum (tasks bytes) t = sum ∙ ap (λ (all : List Task). fixed_sum all t) same_tasks in (
          lines_filled (ByInterval (graph bytes)) (t + 1) old new filled,
          (
            amount,
            demand_told t new lines_told amount most,
            e ∙ difference t (amount + fixed) ∙ sym (margin_sub t amount fixed) ∙ ap (λ (f : ℕ). pos t -ℤ pos amount -ℤ pos f) same_sum,
          ),
        )

    -- a demand read off the last line, with its witness as it is shown
    pub demand_shown : (amount : ℕ) (area area' : List ℕ) (shown : Result ℕ Reason)
        → amount ≡ demand_in head.tally.rows new t → IsShown (witness_of (graph bytes) t) area shown area'
        → DemandAnswers bytes t old area (attained_as amount shown) new area'
    demand_shown amount area area' shown most is-shown =
        let witness : List ℕ = witness_of (graph bytes) t in (
          lines_filled (ByInterval (graph bytes)) (t + 1) old new filled,
          (
            amount,
            witness,
            demand_told t new lines_told amount most,
            witness_of_lem (graph bytes) sheet.handed.ready.sound t,
            shown_as witness area (Ok (length witness)) (Err ShortArea) (attained_as amount) shown area' is-shown,
          ),
        )

  module _ (b : ℕ) (some : 1 ≤ b) (old new : List ℕ) (room : head.tally.rows * b ≤ length old)
      (filled : Filled head.tally.rows (ByAmount (graph bytes)) old new (head.tally.rows * b)) where
    -- the smallest cell of the last line is the shortest interval
    shortest_told : (time : ℕ) → time ≡ min_below head.tally.rows no_time (cell_for head.tally.rows new b) → IsShortest (graph bytes) b time
    unfolding graph_of
    shortest_told time e =
        subst (IsShortest (graph bytes) b) (sym (e ∙ ap (λ (n : ℕ). min_below n no_time (cell_for n new b)) same_rows_lem))
        (line_shortest (graph bytes) new b
        (subst (λ (n : ℕ). HasLines n (ByAmount (graph bytes)) new b) same_rows_lem (filled_lines head.tally.rows (ByAmount (graph bytes)) b old new room filled))
        b some (omega arith))

    -- what `shortest` answers, read off the last line
    pub shortest_answers : (time : ℕ) (answer : Result ℕ Refusal)
        → time ≡ min_below head.tally.rows no_time (cell_for head.tally.rows new b) → ShortestGives answer time
        → ShortestAnswers bytes b old answer new
    shortest_answers time answer least gives = (lines_filled (ByAmount (graph bytes)) b old new filled, (time, shortest_told time least, gives))

  -- a verdict from the lines of a table
  pub verdict_told : (Right : Graph → ℕ → ℕ → ℕ → Type 0) (horizon : ℕ) (old new : List ℕ) → head.tally.rows * (horizon + 1) ≤ length old
      → Filled head.tally.rows (Right (graph bytes)) old new (head.tally.rows * (horizon + 1))
      → (swept : Option ℕ) → IsSwept Right head.tally.rows head.tasks head.tally.tasks new horizon swept
      → (found : Option ℕ) → found ≡ first_overrun (verdict_of swept) → VerdictFound (filled_by Right) bytes horizon old found new
  verdict_told Right horizon old new room filled swept says found e = (
    lines_filled (Right (graph bytes)) (horizon + 1) old new filled,
    (
      verdict_of swept,
      subst (λ (all : List Task). IsVerdict (graph bytes) all horizon (verdict_of swept)) same_tasks
          (says (graph bytes) sheet.handed.ready.sound rows_told
          (filled_lines head.tally.rows (Right (graph bytes)) (horizon + 1) old new room filled)),
      e,
    ),
  )

-- no time is refused, and any other is found
pub gives_none : (time : ℕ) → time ≡ no_time → ShortestGives (refused NeverReached 0) time
unfolding pick
gives_none time e = rw (eq-eqb time no_time e) refl

pub gives_time : (time : ℕ) → (time ≡ no_time → ⊥) → ShortestGives (Ok time) time
unfolding pick
gives_time time e = rw (ne_eqb time no_time e) refl

-- a difference of two numbers that are not too large keeps its value as a signed number
pub difference_kept : (t n : ℕ) → t < 2 ^ 63 → n < 2 ^ 63 → to_z w64 (of_z w64 (pos t -ℤ pos n)) ≡ pos t -ℤ pos n
difference_kept t n a b = ap₂ (λ (x y : ℤ). to_z w64 (of_z w64 (x -ℤ y))) (sym (to_z_pos w64 a)) (sym (to_z_pos w64 b)) ∙ sub_is64 t n a b
