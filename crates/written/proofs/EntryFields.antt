-- The field of an entry: its bytes are judged as the entry is, and add to the sheet what the entry does.
use Prim.Native.Nat.{ℕ, zero, suc, ◌+◌, ◌*◌, ◌/◌, ◌%◌, ◌<◌}
use native.Mathlib.Nat.{div-add-mod', zero-add}
use native.Mathlib.Omega.{arith}
use mathlib.Core.Path.{◌≡◌, ◌∙◌, refl, sym, ap}
use mathlib.Core.List.{List, [], ◌∷◌, ◌++◌}
use mathlib.Core.Bool.{false}
use lib.Dec.{ltb, eqb}
use lib.ListN.{length, get_or, drop, get_or-append}
use borrow.Author.Tests.{eqb-true}
use Rattle.fields.specs.Deciding.{pick}
use Rattle.fields.specs.Fields.{kind_of, line_of, fields}
use Rattle.fields.specs.Limits.{head_size, gap_size}
use Rattle.fields.specs.Reading.{word_at, long_at, fallback_at, mode_at, jitter_at, task_at}
use Rattle.fields.specs.Values.{short_size, short_task_size}
use Rattle.rules.specs.Rules.{unlike_set, follower_count, wrong_length, bad_byte, bad_text, common_rules, text_rules, mode_rules, row_rules, task_rules}
use Rattle.sheet.specs.Content.{gap_shorter, row_gap_rules}
use Rattle.sheet.specs.Judging.{head_rules, own_rules, field_rules, with_field, checked}
use Rattle.sheet.specs.Values.{with_mode, with_task}
use Rattle.fields.specs.declared.table.Kind.{Kind}
use Rattle.fields.specs.declared.table.Kind.TheVariants.{RowField}
use Rattle.fields.specs.declared.units.Rpm.{Rpm}
use Rattle.fields.specs.declared.units.Ticks.{Ticks}
use Rattle.fields.specs.declared.values.Mode.{Mode}
use Rattle.fields.specs.declared.values.Row.{Row}
use Rattle.fields.specs.declared.values.Task.{Task}
use Rattle.fields.specs.declared.values.Sheet.{Sheet}
use Rattle.sheet.specs.Answer.{Judged}
use Rattle.fields.proofs.Deciding.{all_kept}
use Rattle.sheet.proofs.Numbered.{common_says, row_length}
use Rattle.written.specs.Judging.{row_size, one_shorter, entry_rules}
use Rattle.written.specs.Values.{Entry, LabelEntry, ModeEntry, RowEntry, TaskEntry, CutEntry}
use Rattle.written.specs.Written.{words, mode_numbers, task_numbers, tag_of, content_of}
use Rattle.fields.proofs.AnyFrom.{any_alike}
use Rattle.written.proofs.Alike.{checked_alike, checked_both}
use Rattle.written.proofs.Here.{byte_here, on_here, word_here}
use Rattle.written.proofs.Named.{Parted, modes_part, rows_part, tasks_part, Named}
use Rattle.written.proofs.Sheets.{entry_sheet}
use Rattle.written.proofs.ShortNumbers.{either_way, mode_long, task_long}

-- a field is judged as an entry is, and what is left of the file with the sheet that the entry makes
abbrev pub JudgedAs : List ℕ → ℕ → ℕ → Kind → Entry → Type 0
JudgedAs bytes place start kind entry =
    (sheet : Sheet) (ok : Sheet → Judged)
    → checked place (field_rules bytes sheet.tally kind start (length (content_of entry))) (ok (with_field bytes sheet kind start (length (content_of entry))))
    ≡ checked place (entry_rules sheet.tally entry) (ok (entry_sheet start sheet entry))

-- numbers as two bytes each: how many bytes they are, those of one list behind another, and the number at a place
pub words_length : (numbers : List ℕ) → length (words numbers) ≡ 2 * length numbers
unfolding words
words_length [] = refl
words_length (x ∷ numbers) = let behind = words_length numbers in omega arith

pub words_append : (numbers more : List ℕ) → words (numbers ++ more) ≡ words numbers ++ words more
unfolding words
words_append [] more = refl
words_append (x ∷ numbers) more = ap (λ (bytes : List ℕ). x / 256 ∷ x % 256 ∷ bytes) (words_append numbers more)

word_at_lem : (bytes numbers rest : List ℕ) (start k : ℕ) → drop start bytes ≡ words numbers ++ rest → k < length numbers → word_at bytes (start + gap_size * k) ≡ get_or numbers k 0
unfolding words
word_at_lem bytes [] rest start k e h = absurd (omega arith)
word_at_lem bytes (x ∷ numbers) rest start zero e h = let q : start + 2 * 0 ≡ start = omega arith in rw q (word_here bytes start x _ e)
word_at_lem bytes (x ∷ numbers) rest start (suc k) e h =
    let q : start + 2 * suc k ≡ start + 2 + 2 * k = omega arith in
    rw q (word_at_lem bytes numbers rest (start + 2) k (on_here bytes start 2 _ e) (omega arith))

-- what is read where the content of an entry starts
module _ (bytes : List ℕ) (start : ℕ) (rest : List ℕ) where
  text_here : (text : List ℕ) → drop start bytes ≡ text ++ rest → bad_text bytes start (length text) ≡ bad_text text 0 (length text)
  unfolding bad_text
  text_here text e =
      any_alike (λ k. bad_byte (get_or bytes k 0)) (λ k. bad_byte (get_or text k 0)) start 0 (length text)
      (λ j h. rw zero-add (ap bad_byte (byte_here bytes start j _ e ∙ get_or-append text rest 0 j h)))

  -- a mode's boundary and length, and its fall-back where the field has one
  module _ (mode : Mode) (e : drop start bytes ≡ content_of (ModeEntry mode) ++ rest) where
    boundary_here : word_at bytes start ≡ mode.boundary.0
    unfolding content_of mode_numbers words
    boundary_here = word_here bytes start _ _ e

    length_here : word_at bytes (start + 2) ≡ mode.length.0
    unfolding content_of mode_numbers words
    length_here = word_here bytes (start + 2) _ _ (on_here bytes start 2 _ e)

    fallback_here : fallback_at bytes start (short_size mode) ≡ mode.fallback
    unfolding content_of mode_numbers words short_size pick
    fallback_here =
        either_way (eqb mode.fallback.0 mode.boundary.0) _
        (λ same.
        let whole : mode.fallback.0 ≡ mode.boundary.0 = eqb-true _ _ same in
        rw (same, boundary_here, ← whole) refl)
        (λ other.
        let last : word_at bytes (start + 4) ≡ mode.fallback.0 = word_here bytes (start + 4) _ _ (on_here bytes start 4 _ (rw other at e)) in
        rw (other, last) refl)

    mode_here : mode_at bytes start (short_size mode) ≡ mode
    mode_here = rw (fallback_here, boundary_here, length_here) refl

  -- a fixed task's length, period and deadline, and its jitter where the field has one
  module _ (task : Task) (e : drop start bytes ≡ content_of (TaskEntry task) ++ rest) where
    times_here : (word_at bytes start ≡ task.length.0) × (word_at bytes (start + 2) ≡ task.period.0) × (word_at bytes (start + 4) ≡ task.deadline.0)
    unfolding content_of task_numbers words
    times_here = (
      word_here bytes start _ _ e,
      word_here bytes (start + 2) _ _ (on_here bytes start 2 _ e),
      word_here bytes (start + 4) _ _ (on_here bytes start 4 _ e),
    )

    jitter_here : jitter_at bytes start (short_task_size task) ≡ task.jitter
    unfolding content_of task_numbers words short_task_size pick
    jitter_here =
        either_way (eqb task.jitter.0 0) _
        (λ none.
        let ticks : ℕ → Ticks = λ number. record { 0 = number } in
        rw none (ap ticks (sym (eqb-true _ _ none))))
        (λ some.
        let last : word_at bytes (start + 6) ≡ task.jitter.0 = word_here bytes (start + 6) _ _ (on_here bytes start 6 _ (rw some at e)) in
        rw (some, last) refl)

    task_here : task_at bytes start (short_task_size task) ≡ task
    task_here = rw (jitter_here, times_here.0, times_here.1, times_here.2) refl

  module _ (speed : Rpm) (deadline : Ticks) (followers : ℕ) (gaps : List ℕ) (e : drop start bytes ≡ content_of (RowEntry speed deadline followers gaps) ++ rest) where
    -- the row that is read there
    abbrev row_here : Row
    row_here = record { speed = speed; deadline = deadline; followers = followers; gaps = start + head_size }

    speed_here : word_at bytes start ≡ speed.0
    unfolding content_of words
    speed_here = word_here bytes start _ _ e

    deadline_here : word_at bytes (start + 2) ≡ deadline.0
    unfolding content_of words
    deadline_here = word_here bytes (start + 2) _ _ (on_here bytes start 2 _ e)

    set_here : long_at bytes (start + 4) ≡ followers
    unfolding content_of words
    set_here =
        let high : word_at bytes (start + 4) ≡ followers / 65536 = word_here bytes (start + 4) _ _ (on_here bytes start 4 _ e) in
        let low : word_at bytes (start + 4 + 2) ≡ followers % 65536 = word_here bytes (start + 4 + 2) _ _ (on_here bytes (start + 4) 2 _ (on_here bytes start 4 _ e)) in
        rw (high, low, div-add-mod' followers 65536) refl

    row_long : length (content_of (RowEntry speed deadline followers gaps)) ≡ row_size gaps
    unfolding content_of words
    row_long = omega (arith, words_length gaps)

    -- where there is a gap for each row of the set, a scan of the bytes is a scan of the gaps
    gaps_here : unlike_set (row_size gaps) followers ≡ false → (bound : Ticks) → gap_shorter bytes (start + head_size) (follower_count followers) bound ≡ one_shorter gaps bound
    unfolding gap_shorter one_shorter content_of words
    gaps_here like bound =
        let enough : length gaps ≡ follower_count followers = omega (arith, row_length (row_size gaps) followers like) in
        rw (← enough)
        (any_alike (λ k. ltb (word_at bytes (start + head_size + gap_size * k)) bound.0) (λ k. ltb (get_or gaps k 0) bound.0) 0 0 (length gaps)
        (λ j h. ap (λ gap. ltb gap bound.0) (word_at_lem bytes gaps rest (start + head_size) (0 + j) (on_here bytes start 8 _ e) (omega arith))))

    -- with too few gaps the bytes scanned would be another field's, but then the length is wrong
    row_judged : (place : ℕ) → JudgedAs bytes place start RowField (RowEntry speed deadline followers gaps)
    unfolding head_rules own_rules row_gap_rules row_rules with_field entry_rules entry_sheet
    row_judged place sheet ok =
        let tally = sheet.tally in
        let first = common_rules 3 tally.last (row_size gaps) (unlike_set (row_size gaps) followers) tally.rows in
        let whole = ok (entry_sheet start sheet (RowEntry speed deadline followers gaps)) in
        rw (speed_here, deadline_here, set_here, row_long)
        (checked_both place first (row_gap_rules bytes tally row_here) whole
        ∙ checked_alike place first _ _
        (λ none.
        let like = (common_says _ _ _ _ _ (all_kept first none)).2 in
        rw (gaps_here like (record { 0 = 1 }), gaps_here like deadline) refl)
        ∙ sym (checked_both place first (row_rules tally row_here (one_shorter gaps (record { 0 = 1 })) (one_shorter gaps deadline)) whole))

module _ (bytes : List ℕ) (place start : ℕ) (rest : List ℕ) where
  -- a field without content has a wrong length
  cut_judged : (tag : ℕ) → Parted tag → JudgedAs bytes place start (kind_of tag) (CutEntry tag)
  unfolding head_rules entry_rules common_rules wrong_length line_of fields content_of pick
  cut_judged tag modes_part sheet ok = refl
  cut_judged tag rows_part sheet ok = refl
  cut_judged tag tasks_part sheet ok = refl

  -- the content of an entry stands at the start
  pub entry_judged : (entry : Entry) → Named entry → drop start bytes ≡ content_of entry ++ rest → JudgedAs bytes place start (kind_of (tag_of entry)) entry
  unfolding head_rules own_rules text_rules with_field entry_rules entry_sheet tag_of content_of words pick
  entry_judged (LabelEntry text) named e sheet ok = rw (text_here bytes start rest text e) refl
  entry_judged (ModeEntry mode) named e sheet ok =
      rw (mode_long mode)
      (ap (λ read. checked place (common_rules 2 sheet.tally.last (short_size mode) false sheet.tally.modes ++ mode_rules sheet.tally read (short_size mode)) (ok (with_mode sheet read)))
      (mode_here bytes start rest mode e))
  entry_judged (RowEntry speed deadline followers gaps) named e sheet ok = row_judged bytes start rest speed deadline followers gaps e place sheet ok
  entry_judged (TaskEntry task) named e sheet ok =
      rw (task_long task)
      (ap (λ read. checked place (common_rules 4 sheet.tally.last (short_task_size task) false sheet.tally.tasks ++ task_rules read) (ok (with_task sheet read)))
      (task_here bytes start rest task e))
  entry_judged (CutEntry tag) named e sheet ok = cut_judged tag named sheet ok
