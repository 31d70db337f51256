-- The judge: the rules of a field of each kind, what a field adds to the sheet, and the walk over the fields in file order.
use Rattle.std.specs.Prelude.{ℕ, zero, suc, ◌+◌, List, [], ◌∷◌, ◌++◌, true, false, length, take, drop, ltb, ◌≡◌, Result, Ok, Err}
use Rattle.std.specs.Borrow.{Bor}
use Rattle.fields.specs.Deciding.{Rule, ◌when◌, pick, judged_by}
use Rattle.fields.specs.Fields.{is_end}
use Rattle.fields.specs.Reading.{field_at, mode_at, row_at, task_at}
use Rattle.fields.specs.Values.{empty_sheet}
use Rattle.sheet.specs.Values.{with_label, with_mode, with_row, with_task}
use Rattle.rules.specs.Rules.{unlike_set, unknown_follower, common_rules, mode_rules, task_rules, text_rules}
use Rattle.sheet.specs.Content.{row_gap_rules}
use Rattle.fields.specs.declared.table.Kind.{Kind}
use Rattle.fields.specs.declared.table.Kind.TheVariants.{RefusedTag, LabelField, ModeField, RowField, TaskField, EndField, SkippedField}
use Rattle.fields.specs.declared.reader.Field.{Field}
use Rattle.fields.specs.declared.refusal.Reason.{Reason}
use Rattle.fields.specs.declared.refusal.Reason.TheVariants.{CutOff, UnknownTag, BehindTheEnd, UnknownFollower}
use Rattle.fields.specs.declared.refusal.Refusal.{Refusal}
use Rattle.fields.specs.declared.values.Part.{Part}
use Rattle.fields.specs.declared.values.Sheet.{Sheet}
use Rattle.fields.specs.declared.values.Tally.{Tally}
use Rattle.sheet.specs.Answer.{Accepted, Refused, Judged, answered}

-- a refused sheet has no values
unfoldable pub refusal : Reason → ℕ → Judged
refusal reason place = record { answer = Refused reason place; sheet = empty_sheet }

-- the first rules of a field of each kind: its place in the order, its length, on which a row's own follower set has a say too, its count; label and end are not counted, since rules 3 and 4 keep a second one out, and a refused tag is refused by the reader already, by rule 2
unfoldable pub head_rules : List ℕ → Tally → Kind → ℕ → ℕ → List Rule
head_rules bytes tally RefusedTag start size = UnknownTag when true ∷ []
head_rules bytes tally LabelField start size = common_rules 1 tally.last size false 0
head_rules bytes tally ModeField start size = common_rules 2 tally.last size false tally.modes
head_rules bytes tally RowField start size = common_rules 3 tally.last size (unlike_set size (row_at bytes start).followers) tally.rows
head_rules bytes tally TaskField start size = common_rules 4 tally.last size false tally.tasks
head_rules bytes tally EndField start size = common_rules 5 tally.last size false 0
head_rules bytes tally SkippedField start size = []

-- then those of its bytes and numbers
unfoldable pub own_rules : List ℕ → Tally → Kind → ℕ → ℕ → List Rule
own_rules bytes tally RefusedTag start size = []
own_rules bytes tally LabelField start size = text_rules bytes start size
own_rules bytes tally ModeField start size = mode_rules tally (mode_at bytes start size) size
own_rules bytes tally RowField start size = row_gap_rules bytes tally (row_at bytes start)
own_rules bytes tally TaskField start size = task_rules (task_at bytes start size)
own_rules bytes tally EndField start size = []
own_rules bytes tally SkippedField start size = []

abbrev pub field_rules : List ℕ → Tally → Kind → ℕ → ℕ → List Rule
field_rules bytes tally kind start size = head_rules bytes tally kind start size ++ own_rules bytes tally kind start size

-- the sheet with what a field adds to it
unfoldable pub with_field : List ℕ → Sheet → Kind → ℕ → ℕ → Sheet
with_field bytes sheet RefusedTag start size = sheet
with_field bytes sheet LabelField start size = with_label sheet start size
with_field bytes sheet ModeField start size = with_mode sheet (mode_at bytes start size)
with_field bytes sheet RowField start size = with_row sheet (row_at bytes start)
with_field bytes sheet TaskField start size = with_task sheet (task_at bytes start size)
with_field bytes sheet EndField start size = sheet
with_field bytes sheet SkippedField start size = sheet

-- refused at a place by the first broken rule, or `ok` where none is broken
abbrev pub checked : ℕ → List Rule → Judged → Judged
checked place rules ok = judged_by (λ reason. refusal reason place) rules ok

-- the end of a sheet whose end field keeps these rules: rule 9 at the field, then rule 4 at the first byte after it
unfoldable pub end_judged : List ℕ → Sheet → ℕ → ℕ → Judged
end_judged bytes sheet at next =
    checked at (UnknownFollower when (unknown_follower sheet.rows sheet.tally.rows) ∷ [])
    (checked next (BehindTheEnd when (ltb next (length bytes)) ∷ [])
    (record { answer = Accepted; sheet = sheet }))

-- one field, which starts at `at`, and the rest of the file by `go`
unfoldable pub on_field : List ℕ → Sheet → ℕ → (ℕ → Sheet → Judged) → Result Field Refusal → Judged
on_field bytes sheet at go (Err found) = refusal found.reason found.place
on_field bytes sheet at go (Ok field) =
    checked at (field_rules bytes sheet.tally field.kind field.start field.size)
    (pick (is_end field.kind) (end_judged bytes sheet at field.next) (go field.next (with_field bytes sheet field.kind field.start field.size)))

-- at most n fields from a place on
unfoldable pub walk : List ℕ → ℕ → ℕ → Sheet → Judged
walk bytes zero at sheet = refusal CutOff at
walk bytes (suc n) at sheet = on_field bytes sheet at (walk bytes n) (field_at bytes at)

-- the whole file: a field has three bytes at least, so there are never more fields than bytes
unfoldable pub judged : List ℕ → Judged
judged bytes = walk bytes (length bytes + 1) 0 empty_sheet

-- what a judge answers: the sheet's values, or the refusal
abbrev pub judgement : List ℕ → Result Sheet Refusal
judgement bytes = answered (judged bytes).answer (judged bytes).sheet

-- a slice is that part of other bytes: it stands in their block, as many bytes further on as the part starts, and holds as many of them as the part has
abbrev pub PartOf : Bor (List ℕ) → Part → Bor (List ℕ) → Type 0
PartOf bytes part slice =
    (slice.ref_ptr.0 ≡ bytes.ref_ptr.0) × (slice.ref_ptr.1 ≡ bytes.ref_ptr.1 + part.start) × (slice.now ≡ take part.size (drop part.start bytes.now))

-- the label is the part of the bytes that judging them gives: an empty part at their start for a refused sheet
abbrev pub LabelOf : Bor (List ℕ) → Bor (List ℕ) → Type 0
LabelOf bytes slice = PartOf bytes (judged bytes.now).sheet.label slice
