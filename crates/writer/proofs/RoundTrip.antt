-- The calls `write` and `judge` undo each other, on the bytes that they are lent and leave.
use Prim.Native.Nat.{ℕ, ◌≤◌}
use mathlib.Core.Path.{◌≡◌, ◌∙◌, sym, ap}
use mathlib.Core.List.{List, ◌++◌}
use mathlib.Core.Bool.{true, false, true≢false}
use lib.ListN.{length, take, drop}
use lib.Seq.{take-append_seam}
use borrow.Author.Tests.{le-ltb}
use Rattle.std.specs.Prelude.{Result, Ok, is_ok}
use Rattle.fields.specs.Refusals.{refused}
use Rattle.fields.specs.declared.refusal.Reason.{Reason}
use Rattle.fields.specs.declared.refusal.Refusal.{Refusal}
use Rattle.sheet.specs.Judging.{judged}
use Rattle.sheet.specs.Proper.{Bytes}
use Rattle.sheet.specs.Answer.{Accepted}
use Rattle.beginning.proofs.Beginnings.{came_to_answer, comes_to_answer}
use Rattle.written.specs.Reading.{values_of}
use Rattle.written.specs.ShortForm.{short_form, has_skipped, takes_shorter}
use Rattle.written.specs.Values.{Values}
use Rattle.written.specs.Written.{written}
use Rattle.written.proofs.AcceptedAgain.{accepted_again}
use Rattle.written.proofs.JudgedWritten.{written_read}
use Rattle.written.proofs.WrittenBack.{written_short, written_back, only_short}
use Rattle.writer.specs.Calls.{write_rules, WriteRefuses, WriteGives, WriteCall}

written_not_refused : (size : ℕ) (reason : Reason) → Ok size ≡ refused reason 0 → ⊥
written_not_refused size reason e = true≢false (ap is_ok e)

-- where `write` answers with a size, so many bytes of the output are the sheet, which the judge accepts
front_written : (values : Values) (output output' : List ℕ) (size : ℕ) → WriteCall values output (Ok size) output'
    → ((judged (written values)).answer ≡ Accepted) × (take size output' ≡ written values)
front_written values output output' size call =
    let came = came_to_answer (judged (written values)).answer (write_rules values output) (WriteRefuses output (Ok size) output') (WriteGives values output (Ok size) output')
    (λ reason place (refuses : WriteRefuses output (Ok size) output' reason place). written_not_refused size reason refuses.0) call in
    let said : ◌≡◌ {A = Result ℕ Refusal} (Ok size) (Ok (length (written values))) = came.0.0 in
    let many : size ≡ length (written values) = cc in
    (came.1, rw (many, came.0.1) (take-append_seam (written values) _))

-- and its values are those that were written
pub written_reads_back : (values : Values) (output output' : List ℕ) (size : ℕ) → WriteCall values output (Ok size) output'
    → ((judged (take size output')).answer ≡ Accepted) × (values_of (take size output') ≡ values)
written_reads_back values output output' size call =
    let front = front_written values output output' size call in
    rw front.1 (front.0, written_read values front.0)

module _ (bytes : List ℕ) (fit : Bytes bytes) (accepted : (judged bytes).answer ≡ Accepted) (output : List ℕ) (answer : Result ℕ Refusal) (output' : List ℕ) where
  -- the values of an accepted file are written where there is room for them
  values_come_back : length (written (values_of bytes)) ≤ length output → WriteCall (values_of bytes) output answer output' → WriteGives (values_of bytes) output answer output'
  values_come_back room call =
      comes_to_answer (judged (written (values_of bytes))).answer (write_rules (values_of bytes) output) (WriteRefuses output answer output') (WriteGives (values_of bytes) output answer output')
      (accepted_again bytes fit accepted) (le-ltb _ _ room, tt) call

  -- an accepted file, written from its values, is its short form
  pub file_comes_back_short : length (short_form bytes) ≤ length output → WriteCall (values_of bytes) output answer output'
      → (answer ≡ Ok (length (short_form bytes))) × (output' ≡ short_form bytes ++ drop (length (short_form bytes)) output)
  file_comes_back_short room call =
      let same = written_short bytes fit accepted in
      rw (← same) (values_come_back (rw same room) call)

  -- and where it skips none and takes the shorter form, the file byte for byte
  pub file_comes_back : has_skipped bytes ≡ false → takes_shorter bytes ≡ true → length bytes ≤ length output → WriteCall (values_of bytes) output answer output'
      → (answer ≡ Ok (length bytes)) × (output' ≡ bytes ++ drop (length bytes) output)
  file_comes_back none shorter room call =
      let same = written_back bytes fit accepted none shorter in
      let gives = values_come_back (rw same room) call in
      rw same at gives

  -- only such a file comes back so
  pub only_short_comes_back : WriteCall (values_of bytes) output (Ok (length bytes)) output' → take (length bytes) output' ≡ bytes
      → (has_skipped bytes ≡ false) × (takes_shorter bytes ≡ true)
  only_short_comes_back call back = only_short bytes fit accepted (sym (front_written (values_of bytes) output output' (length bytes) call).1 ∙ back)
