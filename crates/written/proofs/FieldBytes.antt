-- The bytes of a field that was read: its tag, its length as two bytes, and its content, which is that of the entry read from it.
use Prim.Native.Nat.{ℕ, zero, suc, ◌+◌, ◌-◌, ◌*◌, ◌/◌, ◌%◌, ◌≤◌, ◌<◌}
use native.Mathlib.Numerals.{add-one}
use native.Mathlib.Omega.{arith}
use mathlib.Core.Path.{◌≡◌, ◌∙◌, refl, sym, ap, ap₂}
use mathlib.Core.List.{List, [], ◌∷◌}
use mathlib.Core.Bool.{Bool, true, false, not, true≢false}
use lib.Dec.{ltb, eqb}
use lib.ListN.{length, get_or, take, drop, length-drop}
use lib.Seq.{drop-cons, length-take-le}
use borrow.Author.Tests.{ltb-false, eqb-true, eqb-false, eq-eqb, not-false}
use Rattle.std.specs.Prelude.{Result, Ok, Err, is_ok}
use Rattle.fields.specs.Deciding.{Rule, ◌when◌, pick, judged_by}
use Rattle.fields.specs.Fields.{line_of, fields, kind_of, is_refused}
use Rattle.fields.specs.Limits.{mode_size, fallback_size, head_size, gap_size, task_size, jitter_size}
use Rattle.fields.specs.Reading.{field_at, word_at, long_at, mode_at, row_at, task_at}
use Rattle.fields.specs.Refusals.{refused}
use Rattle.fields.specs.declared.table.Kind.{Kind}
use Rattle.fields.specs.declared.table.Kind.TheVariants.{RefusedTag, LabelField, ModeField, RowField, TaskField, EndField, SkippedField}
use Rattle.fields.specs.declared.reader.Field.{Field}
use Rattle.fields.specs.declared.refusal.Reason.{Reason}
use Rattle.fields.specs.declared.refusal.Reason.TheVariants.{CutOff, UnknownTag}
use Rattle.fields.specs.declared.refusal.Refusal.{Refusal}
use Rattle.fields.proofs.Deciding.{neither}
use Rattle.rules.specs.Rules.{wrong_length, follower_count}
use Rattle.sheet.specs.Proper.{Bytes}
use Rattle.sheet.proofs.Numbered.{long_enough}
use Rattle.sheet.proofs.Walking.{found, field_in}
use Rattle.written.specs.Reading.{words_at}
use Rattle.written.specs.Values.{ModeEntry, TaskEntry}
use Rattle.written.specs.Written.{words, mode_numbers, task_numbers, field, content_of}
use Rattle.written.specs.ShortForm.{has_shorter}
use Rattle.written.proofs.Sheets.{row_entry}
use Rattle.written.proofs.ShortForms.{longer_size}
use Rattle.written.proofs.ShortNumbers.{either_way}

-- an answer that is no refusal is what stands behind the rules
not_refused : {A : Type 0} (refuse : Reason → A) (ok answer : A) → ((reason : Reason) → refuse reason ≡ answer → ⊥) → (rules : List Rule) → judged_by refuse rules ok ≡ answer → ok ≡ answer
unfolding pick
not_refused refuse ok answer other [] e = e
not_refused refuse ok answer other (reason when true ∷ rules) e = absurd (other reason e)
not_refused refuse ok answer other (reason when false ∷ rules) e = not_refused refuse ok answer other rules e

-- a part of the field that an answer holds
abbrev part_of : {A : Type 0} → (Field → A) → A → Result Field Refusal → A
part_of part other (Ok field) = part field
part_of part other (Err refusal) = other

-- the tag of a kind, where the kind is known by one
abbrev pub tag_for : Kind → ℕ
tag_for RefusedTag = 0
tag_for LabelField = 1
tag_for ModeField = 2
tag_for RowField = 3
tag_for TaskField = 4
tag_for EndField = 5
tag_for SkippedField = 0

abbrev pub Known : Kind → Type 0
Known RefusedTag = ⊥
Known LabelField = Unit {0}
Known ModeField = Unit {0}
Known RowField = Unit {0}
Known TaskField = Unit {0}
Known EndField = Unit {0}
Known SkippedField = ⊥

-- each test of `kind_of` tells its tag
tag_by : (tag : ℕ) (label mode row task end low : Bool)
    → (label ≡ true → tag ≡ 1) → (mode ≡ true → tag ≡ 2) → (row ≡ true → tag ≡ 3) → (task ≡ true → tag ≡ 4) → (end ≡ true → tag ≡ 5)
    → let kind = pick label LabelField (pick mode ModeField (pick row RowField (pick task TaskField (pick end EndField (pick low RefusedTag SkippedField))))) in
    Known kind → tag ≡ tag_for kind
unfolding pick
tag_by tag true mode row task end low is-1 is-2 is-3 is-4 is-5 known = is-1 refl
tag_by tag false true row task end low is-1 is-2 is-3 is-4 is-5 known = is-2 refl
tag_by tag false false true task end low is-1 is-2 is-3 is-4 is-5 known = is-3 refl
tag_by tag false false false true end low is-1 is-2 is-3 is-4 is-5 known = is-4 refl
tag_by tag false false false false true low is-1 is-2 is-3 is-4 is-5 known = is-5 refl
tag_by tag false false false false false true is-1 is-2 is-3 is-4 is-5 known = absurd known
tag_by tag false false false false false false is-1 is-2 is-3 is-4 is-5 known = absurd known

tag_known : (tag : ℕ) (kind : Kind) → kind_of tag ≡ kind → Known kind → tag ≡ tag_for kind
tag_known tag kind e known =
    tag_by tag (eqb tag 1) (eqb tag 2) (eqb tag 3) (eqb tag 4) (eqb tag 5) (ltb tag 128)
    (eqb-true tag 1) (eqb-true tag 2) (eqb-true tag 3) (eqb-true tag 4) (eqb-true tag 5) (rw e known)
    ∙ ap tag_for e

-- rule 5: a field is no longer than its tag's line allows
pub short_enough : (tag size : ℕ) → wrong_length tag size ≡ false → size ≤ (line_of tag).longest
unfolding wrong_length
short_enough tag size e = ltb-false _ _ (neither _ _ (neither _ _ e).1).0

-- and has an even length where its content is numbers; so where the last number may be left out, a field that has more than the others has it
whole_numbers : (tag size : ℕ) → wrong_length tag size ≡ false → pick (line_of tag).numbers (not (eqb (size % 2) 0)) false ≡ false
unfolding wrong_length
whole_numbers tag size e = (neither _ _ (neither _ _ e).1).1

with_last : (tag size others : ℕ) → (line_of tag).numbers ≡ true → (line_of tag).shortest ≡ 2 * others → (line_of tag).longest ≡ 2 * others + 2
    → wrong_length tag size ≡ false → (size ≡ 2 * others → ⊥) → size ≡ 2 * others + 2
unfolding pick
with_last tag size others numbers short long right more =
    let even : size % 2 ≡ 0 = eqb-true _ _ (not-false _ (rw numbers at (whole_numbers tag size right))) in
    omega (arith, long_enough tag size right, short_enough tag size right)

-- two bytes are those of their number
high_byte : (high low number : ℕ) → low < 256 → high * 256 + low ≡ number → high ≡ number / 256
high_byte high low number small e = omega arith

low_byte : (high low number : ℕ) → low < 256 → high * 256 + low ≡ number → low ≡ number % 256
low_byte high low number small e = omega arith

module _ (bytes : List ℕ) (fit : Bytes bytes) where
  -- the byte at a place, and those behind it
  byte_first : (at : ℕ) → at < length bytes → drop at bytes ≡ get_or bytes at 0 ∷ drop (at + 1) bytes
  byte_first at inside = rw (add-one at) (drop-cons bytes at 0 inside)

  -- the two bytes of a number
  word_first : (at : ℕ) → at + 2 ≤ length bytes → drop at bytes ≡ word_at bytes at / 256 ∷ word_at bytes at % 256 ∷ drop (at + 2) bytes
  word_first at inside =
      let high = high_byte (get_or bytes at 0) (get_or bytes (at + 1) 0) (word_at bytes at) (fit (at + 1)) refl in
      let low = low_byte (get_or bytes at 0) (get_or bytes (at + 1) 0) (word_at bytes at) (fit (at + 1)) refl in
      let two : at + 1 + 1 ≡ at + 2 = omega arith in
      byte_first at (omega arith)
      ∙ ap₂ (λ (byte : ℕ) (rest : List ℕ). byte ∷ rest) high (byte_first (at + 1) (omega arith) ∙ ap₂ (λ (byte place : ℕ). byte ∷ drop place bytes) low two)

  -- an even part of the file is its numbers, each as two bytes
  part_words : (count at : ℕ) → at + gap_size * count ≤ length bytes → take (gap_size * count) (drop at bytes) ≡ words (words_at bytes at count)
  unfolding words words_at
  part_words zero at inside = refl
  part_words (suc count) at inside =
      let more : gap_size * suc count ≡ suc (suc (gap_size * count)) = omega arith in
      rw (more, word_first at (omega arith)) (ap (λ (rest : List ℕ). word_at bytes at / 256 ∷ word_at bytes at % 256 ∷ rest) (part_words count (at + 2) (omega arith)))

  -- the kind and the length are those of the header, and of a known kind the bytes are a field
  module _ (at start size next : ℕ) (kind : Kind) (here : field_at bytes at ≡ found kind start size next) where
    never_refused : (reason : Reason) → refused reason at ≡ found kind start size next → ⊥
    never_refused reason e = true≢false (sym (ap is_ok e))

    field_says : (kind_of (get_or bytes at 0) ≡ kind) × (word_at bytes (at + 1) ≡ size)
    unfolding field_at
    field_says =
        let rules =
        CutOff when (ltb (length bytes) (at + 3))
        ∷ UnknownTag when (is_refused (kind_of (get_or bytes at 0)))
        ∷ CutOff when (ltb (length bytes) (at + 3 + word_at bytes (at + 1)))
        ∷ [] in
        let e = not_refused (λ reason. refused reason at) _ (found kind start size next) never_refused rules here in
        (ap (part_of (λ field. field.kind) kind) e, ap (part_of (λ field. field.size) size) e)

    pub field_bytes : Known kind → take (next - at) (drop at bytes) ≡ field (tag_for kind) (take size (drop start bytes))
    field_bytes known =
        let lies = field_in bytes at kind start size next here in
        let tag : get_or bytes at 0 ≡ tag_for kind = tag_known _ kind field_says.0 known in
        let long : length (take size (drop start bytes)) ≡ size = length-take-le size (drop start bytes) (simp length-drop (omega arith)) in
        let far : next - at ≡ suc (suc (suc size)) = omega arith in
        let behind : at + 1 + 2 ≡ start = omega arith in
        rw (far, byte_first at (omega arith), word_first (at + 1) (omega arith), tag, field_says.1, behind, long) refl

  -- the content of a field is that of the entry which is read from it
  module _ (start size : ℕ) (inside : start + size ≤ length bytes) where
    -- the numbers of a mode without its fall-back, of a mode with it or a fixed task without its jitter, and of a fixed task with it
    two_numbers : start + mode_size ≤ length bytes → take mode_size (drop start bytes) ≡ words (word_at bytes start ∷ word_at bytes (start + 2) ∷ [])
    unfolding words_at
    two_numbers there = part_words 2 start there

    three_numbers : start + 6 ≤ length bytes → take 6 (drop start bytes) ≡ words (word_at bytes start ∷ word_at bytes (start + 2) ∷ word_at bytes (start + 4) ∷ [])
    unfolding words_at
    three_numbers there =
        let third : start + 2 + 2 ≡ start + 4 = omega arith in
        rw (part_words 3 start there, third) refl

    four_numbers : start + 8 ≤ length bytes
        → take 8 (drop start bytes) ≡ words (word_at bytes start ∷ word_at bytes (start + 2) ∷ word_at bytes (start + 4) ∷ word_at bytes (start + task_size) ∷ [])
    unfolding words_at
    four_numbers there =
        let third : start + 2 + 2 ≡ start + 4 = omega arith in
        let fourth : start + 4 + 2 ≡ start + task_size = omega arith in
        rw (part_words 4 start there, third, fourth) refl

    -- a mode's content is that of its entry where no shorter field says the same
    pub mode_content : wrong_length 2 size ≡ false → has_shorter bytes ModeField start size ≡ false → take size (drop start bytes) ≡ content_of (ModeEntry (mode_at bytes start size))
    unfolding content_of mode_numbers line_of fields pick
    mode_content right needed =
        either_way (eqb size mode_size) _
        (λ e.
        let four : size ≡ mode_size = eqb-true _ _ e in
        let same : eqb (word_at bytes start) (word_at bytes start) ≡ true = eq-eqb (word_at bytes start) (word_at bytes start) refl in
        rw (four, same) (two_numbers (omega arith)))
        (λ e.
        let six : size ≡ mode_size + fallback_size = with_last 2 size 2 refl refl refl right (eqb-false _ _ e) in
        let other : eqb (word_at bytes (start + mode_size)) (word_at bytes start) ≡ false = rw six at needed in
        rw (six, other) (three_numbers (omega arith)))

    -- and else its first two numbers are
    pub mode_shortened : has_shorter bytes ModeField start size ≡ true → take mode_size (drop start bytes) ≡ content_of (ModeEntry (mode_at bytes start size))
    unfolding content_of mode_numbers pick
    mode_shortened has =
        let six : size ≡ mode_size + fallback_size = longer_size size (mode_size + fallback_size) (eqb (word_at bytes (start + mode_size)) (word_at bytes start)) has in
        let same : eqb (word_at bytes (start + mode_size)) (word_at bytes start) ≡ true = rw six at has in
        rw (six, same) (two_numbers (omega arith))

    -- a fixed task's content likewise, and where a shorter field says the same, its first three numbers
    pub task_content : wrong_length 4 size ≡ false → has_shorter bytes TaskField start size ≡ false → take size (drop start bytes) ≡ content_of (TaskEntry (task_at bytes start size))
    unfolding content_of task_numbers line_of fields pick
    task_content right needed =
        either_way (eqb size task_size) _
        (λ e.
        let six : size ≡ task_size = eqb-true _ _ e in
        rw six (three_numbers (omega arith)))
        (λ e.
        let eight : size ≡ task_size + jitter_size = with_last 4 size 3 refl refl refl right (eqb-false _ _ e) in
        let other : eqb (word_at bytes (start + task_size)) 0 ≡ false = rw eight at needed in
        rw (eight, other) (four_numbers (omega arith)))

    pub task_shortened : has_shorter bytes TaskField start size ≡ true → take task_size (drop start bytes) ≡ content_of (TaskEntry (task_at bytes start size))
    unfolding content_of task_numbers pick
    task_shortened has =
        let eight : size ≡ task_size + jitter_size = longer_size size (task_size + jitter_size) (eqb (word_at bytes (start + task_size)) 0) has in
        let none : eqb (word_at bytes (start + task_size)) 0 ≡ true = rw eight at has in
        rw (eight, none) (three_numbers (omega arith))

    pub row_content : size ≡ head_size + gap_size * follower_count (row_at bytes start).followers → take size (drop start bytes) ≡ content_of (row_entry bytes (row_at bytes start))
    unfolding content_of words_at
    row_content right =
        let followers = long_at bytes (start + 4) in
        let count = follower_count followers in
        let low = word_at bytes (start + 4 + 2) in
        let small : low < 65536 = omega (arith, fit (start + 4 + 2), fit (start + 4 + 2 + 1)) in
        let all : size ≡ gap_size * suc (suc (suc (suc count))) = omega arith in
        let third : start + 2 + 2 ≡ start + 4 = omega arith in
        let gaps : start + 4 + 2 + 2 ≡ start + head_size = omega arith in
        let upper : word_at bytes (start + 4) ≡ followers / 65536 = omega arith in
        let lower : low ≡ followers % 65536 = omega arith in
        ap (λ (n : ℕ). take n (drop start bytes)) all ∙ part_words (suc (suc (suc (suc count)))) start (omega arith)
        ∙ rw (third, gaps) (ap₂ (λ (a b : ℕ). words (word_at bytes start ∷ word_at bytes (start + 2) ∷ a ∷ b ∷ words_at bytes (start + head_size) count)) upper lower)
