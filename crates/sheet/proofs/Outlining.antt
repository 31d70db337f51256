-- What the judge keeps of a sheet: each field adds to it what it adds to the sheet, and at the end it is the judged sheet's.
use Prim.Native.Nat.{ℕ, ◌+◌, ◌≤◌, ◌<◌}
use native.Mathlib.Omega.{arith}
use native.Mathlib.Nat.{eq-or-lt_of_le}
use mathlib.Core.Path.{◌≡◌, ◌∙◌, refl, sym}
use mathlib.Core.Logic.{⊎_elim}
use mathlib.Core.Bool.{Bool, true, true≢false}
use mathlib.Core.List.{List, [], ◌∷◌}
use lib.Dec.{ltb}
use lib.ListN.{length, get_or, set, length-set}
use lib.Seq.{get_or-set_same, get_or-set_other}
use Rattle.std.specs.Prelude.{Result}
use Rattle.fields.specs.Deciding.{◌when◌, pick}
use Rattle.fields.specs.Limits.{row_limit, head_size}
use Rattle.fields.specs.Reading.{mode_at, row_at, task_at}
use Rattle.fields.specs.Refusals.{refused}
use Rattle.fields.specs.Values.{empty_sheet}
use denote.Enum.Bare.{sameb}
use Rattle.fields.specs.contracts.table.Kind.{the_type}
use Rattle.fields.specs.declared.table.Kind.{Kind}
use Rattle.fields.specs.declared.table.Kind.TheVariants.{RefusedTag, LabelField, ModeField, RowField, TaskField, EndField, SkippedField}
use Rattle.fields.specs.declared.refusal.Reason.{Reason}
use Rattle.fields.specs.declared.refusal.Reason.TheVariants.{BehindTheEnd, UnknownFollower}
use Rattle.fields.specs.declared.refusal.Refusal.{Refusal}
use Rattle.fields.specs.declared.values.Row.{Row}
use Rattle.fields.specs.declared.values.Sheet.{Sheet}
use Rattle.fields.proofs.Deciding.{Kept, told}
use Rattle.rules.specs.Rules.{unknown_follower}
use Rattle.sheet.specs.Judging.{refusal, head_rules, with_field, end_judged, judged}
use Rattle.sheet.specs.Outline.{sheet_from, outline_of, head_with, is_row, places_with, PlacesIn, RowsFrom, RowsAt, Outlined}
use Rattle.sheet.specs.Values.{with_label, with_mode, with_row, with_task}
use Rattle.sheet.specs.declared.Head.{Head}
use Rattle.sheet.specs.Answer.{Judged}
use Rattle.sheet.proofs.Keeping.{checked_keeps}
use Rattle.sheet.proofs.Numbered.{row_fits}
use Rattle.sheet.proofs.RowPlaces.{rows_none, rows_more}

-- what a field adds to the head is what it adds to the sheet, whatever its rows are
field_on : (bytes : List ℕ) (head : Head) (rows : List Row) (kind : Kind) (start size : ℕ)
    → let sheet = with_field bytes (sheet_from head rows) kind start size in
    sheet ≡ sheet_from (head_with bytes head kind start size) sheet.rows
unfolding with_field
field_on bytes head rows RefusedTag start size = refl
field_on bytes head rows LabelField start size = refl
field_on bytes head rows ModeField start size = refl
field_on bytes head rows RowField start size = refl
field_on bytes head rows TaskField start size = refl
field_on bytes head rows EndField start size = refl
field_on bytes head rows SkippedField start size = refl

pub field_grown : (bytes : List ℕ) (head : Head) (rows : List Row) (kind : Kind) (start size : ℕ) (grown : Head) → grown ≡ head_with bytes head kind start size
    → let sheet = with_field bytes (sheet_from head rows) kind start size in
    sheet ≡ sheet_from grown sheet.rows
field_grown bytes head rows kind start size grown e = rw e (field_on bytes head rows kind start size)

pub is_row_lem : (kind : Kind) → is_row kind ≡ true → kind ≡ RowField
is_row_lem RefusedTag e = absurd (true≢false (sym e))
is_row_lem LabelField e = absurd (true≢false (sym e))
is_row_lem ModeField e = absurd (true≢false (sym e))
is_row_lem RowField e = refl
is_row_lem TaskField e = absurd (true≢false (sym e))
is_row_lem EndField e = absurd (true≢false (sym e))
is_row_lem SkippedField e = absurd (true≢false (sym e))

row_kind : (kind : Kind) → sameb the_type kind RowField ≡ is_row kind
row_kind RefusedTag = refl
row_kind LabelField = refl
row_kind ModeField = refl
row_kind RowField = refl
row_kind TaskField = refl
row_kind EndField = refl
row_kind SkippedField = refl

-- what `==` answered of a kind and the row's
pub told_row : (r : Bool) (kind : Kind) (v : Bool) → r ≡ sameb the_type kind RowField → r ≡ v → is_row kind ≡ v
told_row r kind v e f = sym (row_kind kind) ∙ told r (sameb the_type kind RowField) v e f

module _ (bytes places : List ℕ) where
  -- a sheet's rows are at the places where its count of them is and its array has them
  pub stand : (sheet : Sheet) → PlacesIn bytes places sheet.tally.rows → RowsFrom bytes places sheet.tally.rows sheet.rows → RowsAt bytes sheet places
  stand sheet inside from = record { most = inside.0; each = from.each; inside = inside.1; past = from.past; room = from.room }

  pub places_in : (sheet : Sheet) → RowsAt bytes sheet places → PlacesIn bytes places sheet.tally.rows
  places_in sheet rows = (rows.most, rows.inside)

  pub rows_from_lem : (sheet : Sheet) → RowsAt bytes sheet places → RowsFrom bytes places sheet.tally.rows sheet.rows
  rows_from_lem sheet rows = record { each = rows.each; past = rows.past; room = rows.room }

  -- a sheet of which nothing is read has none, wherever the places are
  pub stand_none : RowsAt bytes empty_sheet places
  unfolding empty_sheet
  stand_none = stand _ (omega arith, λ k h. absurd (omega arith)) (rows_none bytes places)

  -- with the place of one row more
  module _ (sheet : Sheet) (start : ℕ) (inside : start + head_size ≤ length bytes) (room : length places ≡ row_limit) (free : sheet.tally.rows < row_limit) (rows : RowsAt bytes sheet places) where
    abbrev count : ℕ
    count = sheet.tally.rows

    here : get_or (set places count start) count 0 ≡ start
    here = get_or-set_same places count start 0 (omega arith)

    before : (k : ℕ) → k < count → get_or (set places count start) k 0 ≡ get_or places k 0
    before k h = get_or-set_other places count k start 0 (λ (e : k ≡ count). omega arith)

    inside_more : (k : ℕ) → k < count + 1 → get_or (set places count start) k 0 + head_size ≤ length bytes
    inside_more k h =
        let l : k ≤ count = omega arith in
        ⊎_elim (λ e. rw e (rw here inside)) (λ b. rw (before k b) (rows.inside k b)) (eq-or-lt_of_le l)

    from_before : RowsFrom bytes (set places count start) count sheet.rows
    from_before = record { each = λ k h. rw (before k h) (rows.each k h); past = rows.past; room = rows.room }

    pub stand_more : PlacesIn bytes (set places count start) (count + 1) × RowsFrom bytes (set places count start) (count + 1) (set sheet.rows count (row_at bytes start))
    stand_more = ((omega arith, inside_more), rw here at (rows_more bytes (set places count start) count sheet.rows free from_before))

-- a field that keeps its rules keeps the rows at the places
pub field_stands : (bytes places : List ℕ) (sheet : Sheet) (kind : Kind) (start size : ℕ) → start + size ≤ length bytes → Kept (head_rules bytes sheet.tally kind start size)
    → length places ≡ row_limit → RowsAt bytes sheet places → RowsAt bytes (with_field bytes sheet kind start size) (places_with kind places sheet.tally.rows start)
unfolding with_field pick
field_stands bytes places sheet RefusedTag start size inside kept room rows = rows
field_stands bytes places sheet LabelField start size inside kept room rows = stand bytes places (with_label sheet start size) (places_in bytes places sheet rows) (rows_from_lem bytes places sheet rows)
field_stands bytes places sheet ModeField start size inside kept room rows =
    stand bytes places (with_mode sheet (mode_at bytes start size)) (places_in bytes places sheet rows) (rows_from_lem bytes places sheet rows)
field_stands bytes places sheet RowField start size inside kept room rows =
    let fits = row_fits bytes sheet.tally start size RowField refl kept in
    let more = stand_more bytes places sheet start (omega (arith, fits)) room fits.2 rows in
    stand bytes (set places sheet.tally.rows start) (with_row sheet (row_at bytes start)) more.0 more.1
field_stands bytes places sheet TaskField start size inside kept room rows =
    stand bytes places (with_task sheet (task_at bytes start size)) (places_in bytes places sheet rows) (rows_from_lem bytes places sheet rows)
field_stands bytes places sheet EndField start size inside kept room rows = rows
field_stands bytes places sheet SkippedField start size inside kept room rows = rows

-- there are as many places as before
pub places_length : (kind : Kind) (places : List ℕ) (number start : ℕ) → length (places_with kind places number start) ≡ length places
unfolding pick
places_length RefusedTag places number start = refl
places_length LabelField places number start = refl
places_length ModeField places number start = refl
places_length RowField places number start = length-set places number start
places_length TaskField places number start = refl
places_length EndField places number start = refl
places_length SkippedField places number start = refl

module _ (bytes places : List ℕ) (outline : Result Head Refusal) where
  outlined_by : (one : Judged) → judged bytes ≡ one → outline ≡ outline_of one → RowsAt bytes one.sheet places → Outlined bytes places outline
  outlined_by one j o rows = record { answer = rw (o, j) refl; rows = rw j rows }

  -- a refused sheet has no rows
  pub outlined_refused : (reason : Reason) (place : ℕ) → judged bytes ≡ refusal reason place → outline ≡ refused reason place → Outlined bytes places outline
  unfolding refusal
  outlined_refused reason place j o = outlined_by (refusal reason place) j o (stand_none bytes places)

  pub outlined_end : (sheet : Sheet) (at next : ℕ) → judged bytes ≡ end_judged bytes sheet at next → outline ≡ outline_of (end_judged bytes sheet at next) → RowsAt bytes sheet places
      → Outlined bytes places outline
  unfolding end_judged refusal
  outlined_end sheet at next j o rows =
      let Q : Judged → Type 0 = λ one. RowsAt bytes one.sheet places in
      outlined_by (end_judged bytes sheet at next) j o
      (checked_keeps Q at (λ reason r. stand_none bytes places) (UnknownFollower when (unknown_follower sheet.rows sheet.tally.rows) ∷ []) _ tt
      (λ followers. checked_keeps Q next (λ reason r. stand_none bytes places) (BehindTheEnd when (ltb next (length bytes)) ∷ []) _ tt
      (λ last. rows)))
