-- Files with the same values mean the same: their graphs say the same of every row, and their fixed tasks are the same. So the shorter form means what the longer one does.
use Prim.Native.Nat.{ℕ, ◌<◌}
use native.Mathlib.Omega.{arith}
use mathlib.Core.Path.{◌≡◌, ◌∙◌, refl, sym, ap}
use mathlib.Core.Logic.{⊎_elim}
use mathlib.Core.List.{List, [], ◌∷◌, map, nil≢cons}
use mathlib.Core.Bool.{true, false}
use lib.ListN.{length, get_or, length-map}
use Rattle.sets.specs.Sets.{member, width}
use Rattle.meaning.proofs.Tests.{bool_or}
use Rattle.fields.specs.Deciding.{pick}
use Rattle.fields.specs.Values.{no_row}
use Rattle.sheet.specs.Judging.{judged}
use Rattle.sheet.specs.Meaning.{modes_in, rows_in, tasks_in, row_of, gap_of, graph_of, each_task, tasks_of}
use Rattle.sheet.specs.Outline.{head_of}
use Rattle.sheet.specs.Proper.{Bytes, ProperRow}
use Rattle.sheet.proofs.Accepted.{accepted_proper}
use Rattle.sheet.proofs.Growing.{all_there}
use Rattle.fields.specs.declared.values.Mode.{Mode}
use Rattle.fields.specs.declared.values.Task.{Task}
use Rattle.sheet.specs.Answer.{Accepted}
use Rattle.written.specs.Reading.{values_in, values_of}
use Rattle.written.specs.ShortForm.{short_form}
use Rattle.written.specs.Values.{Values, ModeEntry, TaskEntry, mode_entries, task_entries}
use Rattle.written.proofs.AcceptedAgain.{accepted_again}
use Rattle.written.proofs.InColumns.{modes_entries, tasks_entries}
use Rattle.written.proofs.JudgedWritten.{written_read}
use Rattle.written.proofs.WrittenBack.{written_short}
use Rattle.contents.specs.Contents.{row_numbered, gap_numbered}
use Rattle.contents.specs.declared.RowValues.{RowValues}
use Rattle.contents.proofs.GapColumn.{gap_column}
use Rattle.contents.proofs.SameGraph.{SameGraph}
use Rattle.contents.proofs.ShortBytes.{short_bytes}
use Rattle.contents.proofs.SameNumbers.{graph_deadline, graph_gap, speed_column, deadline_column, set_column}
use Rattle.contents.proofs.Told.{row_told}

-- a list is told by the list of what tells each of its members
listed_told : {A B : Type 0} (tell : A → B) → ((a b : A) → tell a ≡ tell b → a ≡ b) → (one other : List A) → map tell one ≡ map tell other → one ≡ other
listed_told tell told [] [] same = refl
listed_told tell told [] (b ∷ other) same = absurd (nil≢cons same)
listed_told tell told (a ∷ one) [] same = absurd (nil≢cons (sym same))
listed_told tell told (a ∷ one) (b ∷ other) same =
    let first : a ≡ b = told a b (cc) in
    let rest : one ≡ other = listed_told tell told one other (cc) in
    λ i. first i ∷ rest i

mode_told : (a b : Mode) → ModeEntry a ≡ ModeEntry b → a ≡ b
mode_told a b same = cc

task_told : (a b : Task) → TaskEntry a ≡ TaskEntry b → a ≡ b
task_told a b same = cc

-- an accepted sheet has as many rows in its column of speeds as it counts
rows_counted : (bytes : List ℕ) → Bytes bytes → (judged bytes).answer ≡ Accepted → length (values_of bytes).speeds ≡ (judged bytes).sheet.tally.rows
unfolding values_of values_in
rows_counted bytes fit accepted =
    let proper = accepted_proper bytes fit accepted in
    let count = (judged bytes).sheet.tally.rows in
    length-map (rows_in (judged bytes).sheet) (λ row. row.speed.0)
    ∙ all_there no_row (ProperRow bytes count) (judged bytes).sheet.rows count (λ (p : ProperRow bytes count no_row). omega (arith, p.speed)) proper.each_row

-- no row follows where the set does not have it
no_gap : (bytes : List ℕ) (from to : ℕ) → from < (judged bytes).sheet.tally.rows → member (row_numbered bytes from).followers to ≡ false → (gap_numbered bytes from to).0 ≡ 0
unfolding graph_of pick
no_gap bytes from to counted none =
    let followers : (row_of (judged bytes).sheet from).followers ≡ (row_numbered bytes from).followers =
    ap (λ (values : RowValues). values.followers) (row_told bytes (head_of (judged bytes).sheet) refl from _ _ refl refl counted) in
    let gap : gap_of bytes (row_of (judged bytes).sheet from) to ≡ 0 = rw (followers, none) refl in
    sym (graph_gap bytes from counted to) ∙ gap

module _ (one other : List ℕ) (fit : Bytes one) (fits : Bytes other) (accepted : (judged one).answer ≡ Accepted) (also : (judged other).answer ≡ Accepted)
    (same : values_of one ≡ values_of other) where
  same_modes : modes_in (judged one).sheet ≡ modes_in (judged other).sheet
  unfolding values_of values_in
  same_modes =
      listed_told ModeEntry mode_told (modes_in (judged one).sheet) (modes_in (judged other).sheet)
      (sym (modes_entries (modes_in (judged one).sheet))
      ∙ ap (λ (values : Values). mode_entries values.boundaries values.lengths values.fallbacks) same
      ∙ modes_entries (modes_in (judged other).sheet))

  -- and so the same fixed tasks
  pub same_tasks : tasks_of (judged one).sheet ≡ tasks_of (judged other).sheet
  unfolding values_of values_in tasks_of
  same_tasks =
      ap each_task
      (listed_told TaskEntry task_told (tasks_in (judged one).sheet) (tasks_in (judged other).sheet)
      (sym (tasks_entries (tasks_in (judged one).sheet))
      ∙ ap (λ (values : Values). task_entries values.task_lengths values.task_periods values.task_deadlines values.task_jitters) same
      ∙ tasks_entries (tasks_in (judged other).sheet)))

  same_count : (judged one).sheet.tally.rows ≡ (judged other).sheet.tally.rows
  same_count = sym (rows_counted one fit accepted) ∙ ap (λ (values : Values). length values.speeds) same ∙ rows_counted other fits also

  -- the row of a number
  module _ (k : ℕ) (counted : k < (judged one).sheet.tally.rows) where
    counts : k < (judged other).sheet.tally.rows
    counts = omega (arith, same_count)

    speed_of : (bytes : List ℕ) → k < (judged bytes).sheet.tally.rows → (row_of (judged bytes).sheet k).speed ≡ record { 0 = get_or (values_of bytes).speeds k 0 }
    speed_of bytes there =
        ap (λ (values : RowValues). values.speed) (row_told bytes (head_of (judged bytes).sheet) refl k _ _ refl refl there) ∙ ap (λ (n : ℕ). record { 0 = n }) (sym (speed_column bytes k))

    same_length : (graph_of one (judged one).sheet).length k ≡ (graph_of other (judged other).sheet).length k
    unfolding graph_of
    same_length =
        let speed : (row_of (judged one).sheet k).speed ≡ (row_of (judged other).sheet k).speed =
        speed_of one counted ∙ ap (λ (values : Values). record { 0 = get_or values.speeds k 0 }) same ∙ sym (speed_of other counts) in
        rw (same_modes, speed) refl

    same_deadline : (graph_of one (judged one).sheet).deadline k ≡ (graph_of other (judged other).sheet).deadline k
    same_deadline =
        graph_deadline one k counted ∙ sym (deadline_column one k) ∙ ap (λ (values : Values). get_or values.deadlines k 0) same ∙ deadline_column other k ∙ sym (graph_deadline other k counts)

    same_set : (row_numbered one k).followers ≡ (row_numbered other k).followers
    same_set = sym (set_column one k) ∙ ap (λ (values : Values). get_or values.sets k 0) same ∙ set_column other k

    -- the gap to a row is the same, and there is none where that row does not follow
    same_gap : (j : ℕ) → j < width → (graph_of one (judged one).sheet).gap k j ≡ (graph_of other (judged other).sheet).gap k j
    same_gap j within =
        graph_gap one k counted j
        ∙ ⊎_elim
        (λ (follows : member (row_numbered one k).followers j ≡ true).
        sym (gap_column one k j counted within follows)
        ∙ rw (same, same_set) refl
        ∙ gap_column other k j counts within (rw same_set at follows))
        (λ (none : member (row_numbered one k).followers j ≡ false). no_gap one k j counted none ∙ sym (no_gap other k j counts (rw same_set at none)))
        (bool_or (member (row_numbered one k).followers j))
        ∙ sym (graph_gap other k counts j)

  pub same_graph : SameGraph (graph_of one (judged one).sheet) (graph_of other (judged other).sheet)
  unfolding graph_of
  same_graph =
      record {
        rows = same_count;
        length = same_length;
        deadline = same_deadline;
        gap = λ k j h l. same_gap k h j (omega (arith, (accepted_proper one fit accepted).rows_most));
      }

-- an accepted file and its short form, which is written from its values, mean the same
pub short_form_means : (bytes : List ℕ) → Bytes bytes → (judged bytes).answer ≡ Accepted
    → SameGraph (graph_of bytes (judged bytes).sheet) (graph_of (short_form bytes) (judged (short_form bytes)).sheet) × (tasks_of (judged bytes).sheet ≡ tasks_of (judged (short_form bytes)).sheet)
short_form_means bytes fit accepted =
    let fits = short_bytes bytes fit in
    let short = written_short bytes fit accepted in
    let again : (judged (short_form bytes)).answer ≡ Accepted = rw short at (accepted_again bytes fit accepted) in
    let same : values_of bytes ≡ values_of (short_form bytes) = sym (rw short at (written_read (values_of bytes) (accepted_again bytes fit accepted))) in
    (same_graph bytes (short_form bytes) fit fits accepted again same, same_tasks bytes (short_form bytes) fit fits accepted again same)
