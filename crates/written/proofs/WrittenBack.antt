-- Writing the values of an accepted file gives its short form, and so the file byte for byte just where it skips none and takes the shorter form.
use Prim.Native.Nat.{ℕ, ◌+◌, ◌-◌, ◌≤◌}
use native.Mathlib.Omega.{arith}
use mathlib.Core.Path.{◌≡◌, ◌∙◌, refl, sym, ap, ap₂}
use mathlib.Core.List.{List, [], ◌∷◌, ◌++◌, append_assoc, append-nil}
use mathlib.Core.Logic.{⊎_elim}
use mathlib.Core.Bool.{true, false, true≢false}
use lib.ListN.{length, take, drop}
use Rattle.meaning.proofs.Tests.{bool_or}
use Rattle.fields.specs.Deciding.{pick}
use Rattle.fields.specs.Fields.{line_of, fields, is_end}
use Rattle.fields.specs.Reading.{field_at, mode_at, row_at, task_at}
use Rattle.fields.specs.Values.{empty_sheet}
use Rattle.rules.specs.Rules.{out_of_order, wrong_length}
use Rattle.sheet.specs.Judging.{refusal, judged}
use Rattle.sheet.specs.Proper.{Bytes}
use Rattle.fields.specs.declared.table.Kind.{Kind}
use Rattle.fields.specs.declared.table.Kind.TheVariants.{EndField}
use Rattle.fields.specs.declared.values.Sheet.{Sheet}
use Rattle.sheet.specs.Answer.{Accepted, Judged}
use Rattle.sheet.proofs.Keeping.{Keeps, judged_keeps}
use Rattle.sheet.proofs.Numbered.{common_says, row_length}
use Rattle.sheet.proofs.Walking.{found, field_in}
use Rattle.written.specs.Reading.{values_in, values_of}
use Rattle.written.specs.ShortForm.{is_skipped, has_shorter, shorter_field, short_field, short_form, has_skipped, takes_shorter}
use Rattle.written.specs.Values.{Entry, LabelEntry, ModeEntry, TaskEntry}
use Rattle.written.specs.Written.{field, tag_of, content_of, field_of, fields_of, written}
use Rattle.written.proofs.InColumns.{values_entries}
use Rattle.written.proofs.Entered.{InOrder, Entered, empty_in_order, none_entered, label_before, with_label_lem, with_mode_lem, with_row_lem, with_task_lem}
use Rattle.written.proofs.FieldBytes.{tag_for, Known, field_bytes, short_enough, mode_content, mode_shortened, row_content, task_content, task_shortened}
use Rattle.written.proofs.Fields.{fields_both}
use Rattle.written.proofs.Sheets.{row_entry, entries_in}
use Rattle.written.proofs.ShortForms.{short_after, short_all, short_field_lem, short_itself, fewer_skipped, fewer_shorter}
use Rattle.written.proofs.ShortNumbers.{either_way}

module _ (bytes : List ℕ) (fit : Bytes bytes) where
  -- the short form is the fields of the sheet so far, and what it has from the place on
  record SoFar (at : ℕ) (sheet : Sheet) : Type 0 where
    order : InOrder sheet
    kept : short_form bytes ≡ fields_of (entries_in bytes sheet) ++ short_after bytes at

  abbrev Answers : Judged → Type 0
  Answers answer = answer.answer ≡ Accepted → written (values_in bytes answer.sheet) ≡ short_form bytes

  nothing_read : SoFar 0 empty_sheet
  unfolding fields_of empty_sheet
  nothing_read =
      let none = none_entered bytes empty_sheet empty_in_order refl in
      record { order = empty_in_order; kept = short_all bytes ∙ ap (λ (l : List Entry). fields_of l ++ short_after bytes 0) (sym none) }

  module _ (sheet : Sheet) (at start size next : ℕ) (kind : Kind) (here : field_at bytes at ≡ found kind start size next) (so_far : SoFar at sheet) where
    -- the short form with this field
    with_field_lem : short_form bytes ≡ fields_of (entries_in bytes sheet) ++ (short_field bytes at kind start size next ++ pick (is_end kind) [] (short_after bytes next))
    with_field_lem = so_far.kept ∙ ap (λ (l : List ℕ). fields_of (entries_in bytes sheet) ++ l) (short_field_lem bytes at start size next kind here)

    inside : start + size ≤ length bytes
    inside = omega (arith, field_in bytes at kind start size next here)

    -- a field of a known kind, in the shorter form where two say the same, whose tag and content are those of an entry
    entry_field : (entry : Entry) → is_skipped kind ≡ false → Known kind → tag_for kind ≡ tag_of entry
        → (has_shorter bytes kind start size ≡ true → shorter_field bytes kind start ≡ field_of entry)
        → (has_shorter bytes kind start size ≡ false → take size (drop start bytes) ≡ content_of entry) → short_field bytes at kind start size next ≡ field_of entry
    unfolding pick
    entry_field entry unskipped known tag shortened content =
        either_way (has_shorter bytes kind start size) _
        (λ has. rw (unskipped, has) (shortened has))
        (λ needed. rw (unskipped, needed) (field_bytes bytes fit at start size next kind here known ∙ ap₂ field tag (content needed)))

    -- a field whose short form is that of the entry which it adds
    one_more : (entry : Entry) (grown : Sheet) → is_end kind ≡ false → short_field bytes at kind start size next ≡ field_of entry → Entered bytes sheet entry grown → SoFar next grown
    unfolding pick fields_of
    one_more entry grown on own entered =
        let before = fields_of (entries_in bytes sheet) in
        let behind = short_after bytes next in
        let all : fields_of (entries_in bytes grown) ≡ before ++ field_of entry =
        ap fields_of entered.more ∙ fields_both (entries_in bytes sheet) (entry ∷ []) ∙ ap (λ (l : List ℕ). before ++ l) (append-nil (field_of entry)) in
        record {
          order = entered.order;
          kept = (rw (own, on) at with_field_lem) ∙ sym (append_assoc before (field_of entry) behind) ∙ ap (λ (l : List ℕ). l ++ behind) (sym all);
        }

  -- the end field, which has no content
  ended : (sheet : Sheet) (at start size next : ℕ) → field_at bytes at ≡ found EndField start size next → SoFar at sheet
      → out_of_order sheet.tally.last 5 ≡ false → wrong_length 5 size ≡ false → written (values_in bytes sheet) ≡ short_form bytes
  unfolding pick written line_of fields
  ended sheet at start size next here so_far order long =
      let empty : size ≡ 0 = omega (arith, short_enough 5 size long) in
      let own : take (next - at) (drop at bytes) ≡ field 5 [] = field_bytes bytes fit at start size next EndField here tt ∙ ap (λ (n : ℕ). field 5 (take n (drop start bytes))) empty in
      ap (λ (l : List Entry). fields_of l ++ field 5 []) (values_entries bytes sheet (label_before _ 5 order (omega arith)))
      ∙ sym (rw own at (with_field_lem sheet at start size next EndField here so_far))

  kept_fields : Keeps bytes SoFar Answers
  unfolding refusal pick tag_of content_of
  kept_fields =
      record {
        none = nothing_read;
        refused = λ reason place o inside e. let z : ◌≡◌ {A = ℕ} 0 1 = cc in absurd (omega arith);
        label = λ sheet at start size next e p common own.
            let entry = LabelEntry (take size (drop start bytes)) in
            one_more sheet at start size next _ e p entry _ refl (entry_field sheet at start size next _ e p entry refl tt refl (λ has. absurd (true≢false (sym has))) (λ _. refl))
            (with_label_lem bytes sheet p.order size _ start common);
        mode = λ sheet at start size next e p common own.
            let says = common_says _ _ _ _ _ common in
            let entry = ModeEntry (mode_at bytes start size) in
            let there = inside sheet at start size next _ e p in
            one_more sheet at start size next _ e p entry _ refl
            (entry_field sheet at start size next _ e p entry refl tt refl (λ has. ap (field 2) (mode_shortened bytes fit start size there has)) (mode_content bytes fit start size there says.1))
            (with_mode_lem bytes sheet p.order size _ (mode_at bytes start size) common);
        row = λ sheet at start size next e p common own.
            let says = common_says _ _ _ _ _ common in
            let entry = row_entry bytes (row_at bytes start) in
            let content = row_content bytes fit start size (inside sheet at start size next _ e p) (row_length _ _ says.2) in
            one_more sheet at start size next _ e p entry _ refl (entry_field sheet at start size next _ e p entry refl tt refl (λ has. absurd (true≢false (sym has))) (λ _. content))
            (with_row_lem bytes sheet p.order size _ (row_at bytes start) common);
        task = λ sheet at start size next e p common own.
            let says = common_says _ _ _ _ _ common in
            let entry = TaskEntry (task_at bytes start size) in
            let there = inside sheet at start size next _ e p in
            one_more sheet at start size next _ e p entry _ refl
            (entry_field sheet at start size next _ e p entry refl tt refl (λ has. ap (field 4) (task_shortened bytes fit start size there has)) (task_content bytes fit start size there says.1))
            (with_task_lem bytes sheet p.order size _ (task_at bytes start size) common);
        skipped = λ sheet at start size next e p. record { order = p.order; kept = with_field_lem sheet at start size next _ e p };
        accepted = λ sheet at start size next e p order long followers end a. ended sheet at start size next e p order long;
      }

  -- the values of an accepted file are written as its short form
  pub written_short : (judged bytes).answer ≡ Accepted → written (values_of bytes) ≡ short_form bytes
  unfolding values_of
  written_short = judged_keeps bytes SoFar Answers kept_fields

  -- where it skips none and takes the shorter form, that is the file itself
  pub written_back : (judged bytes).answer ≡ Accepted → has_skipped bytes ≡ false → takes_shorter bytes ≡ true → written (values_of bytes) ≡ bytes
  written_back accepted none shorter = written_short accepted ∙ short_itself bytes none shorter accepted

  -- and only there
  pub only_short : (judged bytes).answer ≡ Accepted → written (values_of bytes) ≡ bytes → (has_skipped bytes ≡ false) × (takes_shorter bytes ≡ true)
  only_short accepted back =
      let as_long : length (short_form bytes) ≡ length bytes = ap length (sym (written_short accepted) ∙ back) in (
        ⊎_elim (λ (skips : has_skipped bytes ≡ true). absurd (omega (arith, as_long, fewer_skipped bytes skips))) (λ none. none) (bool_or (has_skipped bytes)),
        ⊎_elim (λ shorter. shorter) (λ (longer : takes_shorter bytes ≡ false). absurd (omega (arith, as_long, fewer_shorter bytes longer))) (bool_or (takes_shorter bytes)),
      )
