-- What a reader says of the written bytes is what the rules on values say.
use Prim.Native.Nat.{ℕ, ◌+◌}
use native.Mathlib.Omega.{arith}
use mathlib.Core.Path.{◌≡◌, ◌∙◌, refl, sym, ap}
use mathlib.Core.List.{List, [], ◌∷◌, ◌++◌, map}
use mathlib.Core.Bool.{true, false}
use lib.ListN.{length, get_or, take, get_or-map}
use lib.Seq.{get_or-take}
use Rattle.std.specs.Prelude.{Result, Ok, Err}
use Rattle.fields.specs.Deciding.{Rule, ◌when◌, pick, first_broken}
use Rattle.fields.specs.Values.{empty_sheet, no_row}
use Rattle.rules.specs.Rules.{unknown_in, unknown_follower, common_rules}
use Rattle.sheet.specs.Judging.{refusal, checked, judged}
use Rattle.sheet.specs.Meaning.{rows_in}
use Rattle.fields.specs.declared.refusal.Reason.{Reason}
use Rattle.fields.specs.declared.refusal.Reason.TheVariants.{UnknownFollower}
use Rattle.fields.specs.declared.values.Row.{Row}
use Rattle.fields.specs.declared.values.Sheet.{Sheet}
use Rattle.sheet.specs.Answer.{Answer, Accepted, Refused, Judged}
use Rattle.fields.proofs.Deciding.{by_none}
use Rattle.written.specs.Judging.{entries_rules, count_entries, no_tally, unknown_among, end_rules, values_rules}
use Rattle.written.specs.Reading.{values_in, values_of}
use Rattle.written.specs.Values.{Values, entries}
use Rattle.written.specs.Written.{field, fields_of, written}
use Rattle.fields.proofs.AnyFrom.{any_alike}
use Rattle.written.proofs.Alike.{checked_alike, checked_one}
use Rattle.written.proofs.EntriesKept.{kept_written}
use Rattle.written.proofs.From.{judged_from}
use Rattle.written.proofs.Here.{past_here}
use Rattle.written.proofs.Named.{entries_named}
use Rattle.written.proofs.ReadBack.{values_read}
use Rattle.written.proofs.Sheets.{read_sheet, entries_tally}
use Rattle.written.proofs.Walked.{entries_walked, end_walked}

-- the reason that an answer refuses for, where it refuses
abbrev pub reason_of : Answer → Result (Unit {0}) Reason
reason_of Accepted = Ok tt
reason_of (Refused reason place) = Err reason

-- the reason that refuses is that of the first broken rule
reason_checked : (place : ℕ) (rules : List Rule) (sheet : Sheet) → reason_of (checked place rules (record { answer = Accepted; sheet = sheet })).answer ≡ first_broken rules
unfolding refusal first_broken pick
reason_checked place [] sheet = refl
reason_checked place (reason when true ∷ rules) sheet = refl
reason_checked place (reason when false ∷ rules) sheet = reason_checked place rules sheet

-- the rows that are counted and their sets name the same rows
pub unknown_alike : (rows : List Row) (count : ℕ) → unknown_follower rows count ≡ unknown_among (map (λ row. row.followers) (take count rows)) count
unfolding unknown_follower unknown_among
unknown_alike rows count =
    any_alike (λ k. unknown_in (get_or rows k no_row).followers count) (λ k. unknown_in (get_or (map (λ row. row.followers) (take count rows)) k 0) count) 0 0 count
    (λ j h. ap (λ followers. unknown_in followers count)
    (sym (get_or-map (λ row. row.followers) (take count rows) (0 + j) no_row ∙ ap (λ row. row.followers) (get_or-take count rows (0 + j) no_row (omega arith)))))

module _ (values : Values) where
  abbrev accepted : Judged
  accepted = record { answer = Accepted; sheet = read_sheet values }

  -- where no rule of a field is broken, the follower sets are read back, so rule 9 is the same of either
  end_alike : first_broken (entries_rules no_tally (entries values)) ≡ Ok tt
      → common_rules 5 (read_sheet values).tally.last 0 false 0 ++ (UnknownFollower when (unknown_follower (read_sheet values).rows (read_sheet values).tally.rows) ∷ []) ≡ end_rules (count_entries no_tally (entries values)) values.sets
  unfolding end_rules values_in
  end_alike none =
      let sets : map (λ row. row.followers) (rows_in (read_sheet values)) ≡ values.sets = ap (λ read. read.sets) (values_read values none) in
      let unknown : unknown_follower (read_sheet values).rows (read_sheet values).tally.rows ≡ unknown_among values.sets (read_sheet values).tally.rows =
      unknown_alike (read_sheet values).rows (read_sheet values).tally.rows ∙ ap (λ read. unknown_among read (read_sheet values).tally.rows) sets in
      rw unknown (ap (λ tally. end_rules tally values.sets) (entries_tally 0 empty_sheet (entries values)))

  -- the fields of the entries, then the end field: one of them is refused, or the sheet is accepted
  walked_written : (place : ℕ) × (judged (written values) ≡ checked place (values_rules values) accepted)
  unfolding written values_rules
  walked_written =
      let bytes = written values in
      let end = 0 + length (fields_of (entries values)) in
      let first = entries_rules no_tally (entries values) in
      let walked = entries_walked bytes (entries values) (field 5 []) 0 empty_sheet (entries_named values) refl in
      let ended = end_walked bytes end (read_sheet values) (past_here bytes 0 (fields_of (entries values)) (field 5 []) refl) in
      let both = checked_one walked.0 end first (end_rules (count_entries no_tally (entries values)) values.sets) accepted in
      let behind = checked_alike walked.0 first _ _ (λ none. ended ∙ ap (λ rules. checked end rules accepted) (end_alike none)) in
      (both.0, judged_from bytes ∙ walked.1 ∙ behind ∙ both.1)

  -- a reader of the written bytes refuses for the reason that the rules on values give
  pub judged_written : reason_of (judged (written values)).answer ≡ first_broken (values_rules values)
  judged_written = ap (λ said. reason_of said.answer) walked_written.1 ∙ reason_checked walked_written.0 (values_rules values) (read_sheet values)

  -- and where they give none, accepts the sheet that the entries make
  pub accepted_written : first_broken (values_rules values) ≡ Ok tt → judged (written values) ≡ record { answer = Accepted; sheet = read_sheet values }
  accepted_written none = walked_written.1 ∙ by_none _ accepted (values_rules values) none

  -- an accepted sheet is one that breaks no rule
  pub accepted_kept : (judged (written values)).answer ≡ Accepted → first_broken (values_rules values) ≡ Ok tt
  accepted_kept accepted = sym judged_written ∙ ap reason_of accepted

  -- and reading it gives the same values
  pub written_read : (judged (written values)).answer ≡ Accepted → values_of (written values) ≡ values
  unfolding values_of
  written_read accepted =
      let none = accepted_kept accepted in
      ap (λ (said : Judged). values_in (written values) said.sheet) (accepted_written none) ∙ values_read values (kept_written values none)
