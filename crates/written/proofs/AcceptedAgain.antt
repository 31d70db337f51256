-- The values of an accepted file break no rule, so they can be written, and what is written is accepted again.
use Prim.Native.Nat.{ℕ, ◌+◌, ◌≤◌}
use native.Mathlib.Omega.{arith}
use mathlib.Core.Path.{◌≡◌, ◌∙◌, refl, sym, ap}
use mathlib.Core.List.{List, [], ◌∷◌, ◌++◌}
use mathlib.Core.Bool.{true, false, true≢false}
use lib.Dec.{eqb}
use lib.ListN.{length, take, drop, length-drop, take-append-drop}
use lib.Seq.{length-take-le}
use borrow.Author.Tests.{eq-eqb}
use Rattle.std.specs.Prelude.{Ok}
use Rattle.fields.specs.Deciding.{Rule, ◌when◌, pick, first_broken}
use Rattle.fields.specs.Fields.{line_of, fields, kind_of}
use Rattle.fields.specs.Reading.{word_at, mode_at, row_at, task_at}
use Rattle.fields.specs.Limits.{mode_size}
use Rattle.fields.specs.Values.{empty_sheet, short_size, short_task_size}
use Rattle.rules.specs.Rules.{out_of_order, wrong_length, full, unknown_follower, bad_fallback, common_rules, text_rules, mode_rules, task_rules}
use Rattle.sheet.specs.Judging.{refusal, head_rules, own_rules, field_rules, with_field, checked, judged}
use Rattle.sheet.specs.Proper.{Bytes}
use Rattle.fields.specs.declared.values.Tally.{Tally}
use Rattle.fields.specs.declared.values.Sheet.{Sheet}
use Rattle.sheet.specs.Answer.{Accepted, Judged}
use Rattle.fields.proofs.Deciding.{Kept}
use Rattle.sheet.proofs.Keeping.{Keeps, judged_keeps}
use Rattle.sheet.proofs.Numbered.{common_says, row_length}
use Rattle.sheet.proofs.Walking.{field_in}
use Rattle.written.specs.Judging.{no_tally, entry_rules, count_entry, entries_rules, count_entries, end_rules, values_rules}
use Rattle.written.specs.Reading.{values_in, values_of}
use Rattle.written.specs.Values.{Entry, LabelEntry, ModeEntry, TaskEntry, entries}
use Rattle.written.specs.Written.{tag_of, content_of, written}
use Rattle.written.proofs.InColumns.{values_entries}
use Rattle.written.proofs.Entered.{InOrder, Entered, empty_in_order, none_entered, label_before, with_label_lem, with_mode_lem, with_row_lem, with_task_lem}
use Rattle.written.proofs.EntriesKept.{rules_both, count_both}
use Rattle.written.proofs.EntryFields.{entry_judged}
use Rattle.written.proofs.FieldBytes.{row_content}
use Rattle.written.proofs.JudgedWritten.{unknown_alike, accepted_written}
use Rattle.written.proofs.Named.{Named}
use Rattle.written.proofs.Sheets.{row_entry, entry_sheet, entries_in}
use Rattle.written.proofs.ShortNumbers.{either_way, short_right, task_short_right}

-- rules that are all kept leave what stands behind them, and rules that leave an acceptance are all kept
kept_leaves : (place : ℕ) (rules : List Rule) (ok : Judged) → Kept rules → checked place rules ok ≡ ok
unfolding pick
kept_leaves place [] ok kept = refl
kept_leaves place (reason when true ∷ rules) ok kept = absurd (true≢false kept.0)
kept_leaves place (reason when false ∷ rules) ok kept = kept_leaves place rules ok kept.1

leaves_kept : (place : ℕ) (rules : List Rule) (sheet : Sheet) → (checked place rules (record { answer = Accepted; sheet = sheet })).answer ≡ Accepted → Kept rules
unfolding pick refusal
leaves_kept place [] sheet e = tt
leaves_kept place (reason when true ∷ rules) sheet e = let z : ◌≡◌ {A = ℕ} 0 1 = cc in absurd (omega arith)
leaves_kept place (reason when false ∷ rules) sheet e = (refl, leaves_kept place rules sheet e)

kept_none : (rules : List Rule) → Kept rules → first_broken rules ≡ Ok tt
unfolding first_broken pick
kept_none [] kept = refl
kept_none (reason when true ∷ rules) kept = absurd (true≢false kept.0)
kept_none (reason when false ∷ rules) kept = kept_none rules kept.1

kept_both : (first behind : List Rule) → Kept first → Kept behind → Kept (first ++ behind)
kept_both [] behind a b = b
kept_both (reason when test ∷ first) behind a b = (a.0, kept_both first behind a.1 b)

-- the first rules are kept with another length too, where rule 5 allows it
other_length : (tag last size other count : ℕ) → Kept (common_rules tag last size false count) → wrong_length tag other ≡ false → Kept (common_rules tag last other false count)
unfolding common_rules
other_length tag last size other count kept right = (kept.0, (right, kept.1.1))

module _ (bytes : List ℕ) (fit : Bytes bytes) where
  -- the entries of the sheet so far keep the rules, and the tally counts them
  record SoFar (sheet : Sheet) : Type 0 where
    order : InOrder sheet
    counted : count_entries no_tally (entries_in bytes sheet) ≡ sheet.tally
    kept : Kept (entries_rules no_tally (entries_in bytes sheet))

  -- a field that keeps the rules of its kind is read as an entry that keeps its own
  entry_kept : (sheet : Sheet) (start size : ℕ) (entry : Entry) → Named entry → start + size ≤ length bytes → take size (drop start bytes) ≡ content_of entry
      → Kept (head_rules bytes sheet.tally (kind_of (tag_of entry)) start size) → Kept (own_rules bytes sheet.tally (kind_of (tag_of entry)) start size)
      → Kept (entry_rules sheet.tally entry)
  entry_kept sheet start size entry named inside content head own =
      let kind = kind_of (tag_of entry) in
      let ok : Sheet → Judged = λ left. record { answer = Accepted; sheet = left } in
      let long : length (content_of entry) ≡ size = ap length (sym content) ∙ length-take-le size (drop start bytes) (simp length-drop (omega arith)) in
      let here : drop start bytes ≡ content_of entry ++ drop size (drop start bytes) =
      sym (take-append-drop size (drop start bytes)) ∙ ap (λ (l : List ℕ). l ++ drop size (drop start bytes)) content in
      let rules = kept_both (head_rules bytes sheet.tally kind start size) _ head own in
      let field-judged : checked 0 (field_rules bytes sheet.tally kind start size) (ok (with_field bytes sheet kind start size)) ≡ ok (with_field bytes sheet kind start size) =
      kept_leaves 0 (field_rules bytes sheet.tally kind start size) _ rules in
      let judged-as = entry_judged bytes 0 start (drop size (drop start bytes)) entry named here sheet ok in
      leaves_kept 0 (entry_rules sheet.tally entry) (entry_sheet start sheet entry)
      (ap (λ (said : Judged). said.answer) (sym (rw long at judged-as) ∙ field-judged))

  -- in the shorter form a fall-back that is the boundary is not judged
  short_fallback : (tally : Tally) (start size : ℕ) → let mode = mode_at bytes start size in bad_fallback tally mode size ≡ false → bad_fallback tally mode (short_size mode) ≡ false
  unfolding bad_fallback short_size pick
  short_fallback tally start size kept =
      either_way (eqb size mode_size) _
      (λ e. let same : eqb (word_at bytes start) (word_at bytes start) ≡ true = eq-eqb (word_at bytes start) (word_at bytes start) refl in rw (e, same) refl)
      (λ e.
      either_way (eqb (word_at bytes (start + mode_size)) (word_at bytes start)) _ (λ same. rw (e, same) refl) (λ other. rw (e, other) (rw e at kept)))

  -- so its entry keeps its own rules, and so does that of a fixed task
  mode_kept : (sheet : Sheet) (start size : ℕ) → let mode = mode_at bytes start size in
      Kept (common_rules 2 sheet.tally.last size false sheet.tally.modes) → Kept (mode_rules sheet.tally mode size) → Kept (entry_rules sheet.tally (ModeEntry mode))
  unfolding entry_rules mode_rules
  mode_kept sheet start size head own =
      let mode = mode_at bytes start size in
      kept_both (common_rules 2 sheet.tally.last (short_size mode) false sheet.tally.modes) _ (other_length 2 _ size _ _ head (short_right mode))
      (own.0, (own.1.0, (short_fallback sheet.tally start size own.1.1.0, own.1.1.1)))

  task_kept : (sheet : Sheet) (start size : ℕ) → let task = task_at bytes start size in
      Kept (common_rules 4 sheet.tally.last size false sheet.tally.tasks) → Kept (task_rules task) → Kept (entry_rules sheet.tally (TaskEntry task))
  unfolding entry_rules
  task_kept sheet start size head own =
      let task = task_at bytes start size in
      kept_both (common_rules 4 sheet.tally.last (short_task_size task) false sheet.tally.tasks) _ (other_length 4 _ size _ _ head (task_short_right task)) own

  -- one field more
  one_more : (sheet : Sheet) (entry : Entry) (grown : Sheet) → SoFar sheet → Entered bytes sheet entry grown → count_entry sheet.tally entry ≡ grown.tally
      → Kept (entry_rules sheet.tally entry) → SoFar grown
  unfolding entries_rules count_entries
  one_more sheet entry grown so_far entered counts own =
      let all = entries_in bytes sheet in
      let behind = kept_both (entry_rules sheet.tally entry) [] own tt in
      record {
        order = entered.order;
        counted = rw (entered.more, count_both no_tally all (entry ∷ []), so_far.counted) counts;
        kept = rw (entered.more, rules_both no_tally all (entry ∷ []), so_far.counted) (kept_both (entries_rules no_tally all) _ so_far.kept behind);
      }

  nothing_read : SoFar empty_sheet
  unfolding count_entries entries_rules empty_sheet
  nothing_read =
      let none = none_entered bytes empty_sheet empty_in_order refl in
      record { order = empty_in_order; counted = rw none refl; kept = rw none tt }

  abbrev Answers : Judged → Type 0
  Answers answer = answer.answer ≡ Accepted → first_broken (values_rules (values_in bytes answer.sheet)) ≡ Ok tt

  -- at the end field the entries are those of the values, and rule 9 is kept by their sets
  ended : (sheet : Sheet) → SoFar sheet → out_of_order sheet.tally.last 5 ≡ false → unknown_follower sheet.rows sheet.tally.rows ≡ false
      → first_broken (values_rules (values_in bytes sheet)) ≡ Ok tt
  unfolding values_rules end_rules common_rules wrong_length full line_of fields pick values_in
  ended sheet so_far in_order followers =
      let same : entries (values_in bytes sheet) ≡ entries_in bytes sheet = values_entries bytes sheet (label_before _ 5 in_order (omega arith)) in
      let counted : count_entries no_tally (entries (values_in bytes sheet)) ≡ sheet.tally = ap (count_entries no_tally) same ∙ so_far.counted in
      let known = sym (unknown_alike sheet.rows sheet.tally.rows) ∙ followers in
      kept_none (values_rules (values_in bytes sheet))
      (kept_both (entries_rules no_tally (entries (values_in bytes sheet))) _ (rw same so_far.kept) (rw counted (in_order, (refl, (refl, (refl, (known, tt)))))))

  values_keep : Keeps bytes (λ _ sheet. SoFar sheet) Answers
  unfolding refusal head_rules own_rules text_rules tag_of content_of count_entry pick
  values_keep =
      record {
        none = nothing_read;
        refused = λ reason place o inside e. let z : ◌≡◌ {A = ℕ} 0 1 = cc in absurd (omega arith);
        label = λ sheet at start size next e p common own.
            let inside : start + size ≤ length bytes = omega (arith, field_in bytes at _ start size next e) in
            let entry = LabelEntry (take size (drop start bytes)) in
            one_more sheet entry _ p (with_label_lem bytes sheet p.order size _ start common) refl (entry_kept sheet start size entry tt inside refl common (own, tt));
        mode = λ sheet at start size next e p common own.
            one_more sheet (ModeEntry (mode_at bytes start size)) _ p (with_mode_lem bytes sheet p.order size _ (mode_at bytes start size) common) refl (mode_kept sheet start size common own);
        row = λ sheet at start size next e p common own.
            let inside : start + size ≤ length bytes = omega (arith, field_in bytes at _ start size next e) in
            let entry = row_entry bytes (row_at bytes start) in
            let content = row_content bytes fit start size inside (row_length _ _ (common_says _ _ _ _ _ common).2) in
            one_more sheet entry _ p (with_row_lem bytes sheet p.order size _ (row_at bytes start) common) refl (entry_kept sheet start size entry tt inside content common own);
        task = λ sheet at start size next e p common own.
            one_more sheet (TaskEntry (task_at bytes start size)) _ p (with_task_lem bytes sheet p.order size _ (task_at bytes start size) common) refl (task_kept sheet start size common own);
        skipped = λ sheet at start size next e p. p;
        accepted = λ sheet at start size next e p order long followers end a. ended sheet p order followers;
      }

  -- the values of an accepted file break no rule
  pub values_kept : (judged bytes).answer ≡ Accepted → first_broken (values_rules (values_of bytes)) ≡ Ok tt
  unfolding values_of
  values_kept = judged_keeps bytes (λ _ sheet. SoFar sheet) Answers values_keep

  -- so what is written of them is accepted
  pub accepted_again : (judged bytes).answer ≡ Accepted → (judged (written (values_of bytes))).answer ≡ Accepted
  accepted_again accepted = ap (λ (said : Judged). said.answer) (accepted_written (values_of bytes) (values_kept accepted))
