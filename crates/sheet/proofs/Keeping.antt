-- What each field keeps holds of the whole file: a law about every judged file says what holds of the sheet so far and of the answer, and is proved of one field of each kind.
use Prim.Native.Nat.{ℕ, zero, suc, ◌+◌, ◌≤◌, ◌<◌}
use native.Mathlib.Omega.{arith}
use mathlib.Core.Path.{◌≡◌, refl}
use mathlib.Core.List.{List, [], ◌∷◌}
use mathlib.Core.Bool.{true, false, true≢false}
use lib.Dec.{T, ltb}
use lib.ListN.{length}
use borrow.Author.Tests.{ltb-false}
use Rattle.std.specs.Prelude.{Result, Ok, Err}
use Rattle.fields.specs.Deciding.{Rule, ◌when◌, pick}
use Rattle.fields.specs.Fields.{is_end}
use Rattle.fields.specs.Reading.{field_at, mode_at, row_at, task_at}
use Rattle.fields.specs.Values.{empty_sheet}
use Rattle.sheet.specs.Values.{with_label, with_mode, with_row, with_task}
use Rattle.rules.specs.Rules.{out_of_order, wrong_length, unlike_set, unknown_follower, common_rules, mode_rules, task_rules, bad_text, text_rules}
use Rattle.sheet.specs.Content.{row_gap_rules}
use Rattle.sheet.specs.Judging.{refusal, head_rules, own_rules, field_rules, with_field, checked, end_judged, on_field, walk, judged}
use Rattle.fields.specs.declared.table.Kind.{Kind}
use Rattle.fields.specs.declared.table.Kind.TheVariants.{RefusedTag, LabelField, ModeField, RowField, TaskField, EndField, SkippedField}
use Rattle.fields.specs.declared.reader.Field.{Field}
use Rattle.fields.specs.declared.refusal.Reason.{Reason}
use Rattle.fields.specs.declared.refusal.Reason.TheVariants.{BehindTheEnd, UnknownFollower}
use Rattle.fields.specs.declared.refusal.Refusal.{Refusal}
use Rattle.fields.specs.declared.values.Sheet.{Sheet}
use Rattle.sheet.specs.Answer.{Accepted, Judged}
use Rattle.fields.proofs.Deciding.{Kept, OfFile, of_file, first_of_file}
use Rattle.sheet.proofs.Numbered.{common_says, field_of_file, field_kept}
use Rattle.sheet.proofs.Walking.{found, field_in, refused_in}

module _ (Q : Judged → Type 0) (place : ℕ) (refused : (reason : Reason) → OfFile reason → Q (refusal reason place)) where
  -- what holds of each refusal, and of `ok` where every rule is kept, holds of what is checked
  pub checked_keeps : (rules : List Rule) (ok : Judged) → T (of_file rules) → (Kept rules → Q ok) → Q (checked place rules ok)
  unfolding pick
  checked_keeps [] ok t f = f tt
  checked_keeps (reason when true ∷ rules) ok t f = refused reason (first_of_file reason true rules t).0
  checked_keeps (reason when false ∷ rules) ok t f = checked_keeps rules ok (first_of_file reason false rules t).1 (λ k. f (refl, k))

-- P holds of the sheet so far at each place where a field starts, and Q of each answer: of every refusal, and of the sheet that the end field accepts
pub record Keeps (bytes : List ℕ) (P : ℕ → Sheet → Type 0) (Q : Judged → Type 0) : Type 0 where
  pub none : P 0 empty_sheet
  pub refused : (reason : Reason) (place : ℕ) → OfFile reason → place ≤ length bytes → Q (refusal reason place)
  pub label : (sheet : Sheet) (at start size next : ℕ) → field_at bytes at ≡ found LabelField start size next → P at sheet
      → Kept (common_rules 1 sheet.tally.last size false 0) → bad_text bytes start size ≡ false
      → P next (with_label sheet start size)
  pub mode : (sheet : Sheet) (at start size next : ℕ) → field_at bytes at ≡ found ModeField start size next → P at sheet
      → Kept (common_rules 2 sheet.tally.last size false sheet.tally.modes) → Kept (mode_rules sheet.tally (mode_at bytes start size) size)
      → P next (with_mode sheet (mode_at bytes start size))
  pub row : (sheet : Sheet) (at start size next : ℕ) → field_at bytes at ≡ found RowField start size next → P at sheet
      → Kept (common_rules 3 sheet.tally.last size (unlike_set size (row_at bytes start).followers) sheet.tally.rows) → Kept (row_gap_rules bytes sheet.tally (row_at bytes start))
      → P next (with_row sheet (row_at bytes start))
  pub task : (sheet : Sheet) (at start size next : ℕ) → field_at bytes at ≡ found TaskField start size next → P at sheet
      → Kept (common_rules 4 sheet.tally.last size false sheet.tally.tasks) → Kept (task_rules (task_at bytes start size))
      → P next (with_task sheet (task_at bytes start size))
  pub skipped : (sheet : Sheet) (at start size next : ℕ) → field_at bytes at ≡ found SkippedField start size next → P at sheet → P next sheet
  pub accepted : (sheet : Sheet) (at start size next : ℕ) → field_at bytes at ≡ found EndField start size next → P at sheet
      → out_of_order sheet.tally.last 5 ≡ false → wrong_length 5 size ≡ false → unknown_follower sheet.rows sheet.tally.rows ≡ false → next ≡ length bytes
      → Q (record { answer = Accepted; sheet = sheet })

module _ (bytes : List ℕ) (P : ℕ → Sheet → Type 0) (Q : Judged → Type 0) (keeps : Keeps bytes P Q) where
  -- a field is refused where it starts
  refused_at : (kind : Kind) (at start size next : ℕ) → field_at bytes at ≡ found kind start size next → (reason : Reason) → OfFile reason → Q (refusal reason at)
  refused_at kind at start size next e reason o = keeps.refused reason at o (omega (arith, field_in bytes at kind start size next e))

  -- and the end field also where the next would start
  refused_after : (kind : Kind) (at start size next : ℕ) → field_at bytes at ≡ found kind start size next → (reason : Reason) → OfFile reason → Q (refusal reason next)
  refused_after kind at start size next e reason o = keeps.refused reason next o (field_in bytes at kind start size next e).2

  -- the end, where the field itself is in order
  end_keeps : (sheet : Sheet) (at start size next : ℕ) → field_at bytes at ≡ found EndField start size next → P at sheet
      → out_of_order sheet.tally.last 5 ≡ false → wrong_length 5 size ≡ false → Q (end_judged bytes sheet at next)
  unfolding end_judged
  end_keeps sheet at start size next e p order long =
      checked_keeps Q at (refused_at _ at start size next e) (UnknownFollower when (unknown_follower sheet.rows sheet.tally.rows) ∷ []) _ tt
      (λ followers. checked_keeps Q next (refused_after _ at start size next e) (BehindTheEnd when (ltb next (length bytes)) ∷ []) _ tt
      (λ last.
      let end : length bytes ≤ next = ltb-false _ _ last.0 in
      keeps.accepted sheet at start size next e p order long followers.0 (omega (arith, field_in bytes at _ start size next e))))

  -- what is left to judge where the rules of the field are kept: the kind's line of `Keeps` has what it asks for
  rest_keeps : (sheet : Sheet) (kind : Kind) (at start size next : ℕ) (rest : Judged) → field_at bytes at ≡ found kind start size next → P at sheet
      → Kept (head_rules bytes sheet.tally kind start size) → Kept (own_rules bytes sheet.tally kind start size)
      → (P next (with_field bytes sheet kind start size) → Q rest) → Q (pick (is_end kind) (end_judged bytes sheet at next) rest)
  unfolding head_rules own_rules text_rules with_field pick
  rest_keeps sheet RefusedTag at start size next rest e p head own f = absurd (true≢false head.0)
  rest_keeps sheet LabelField at start size next rest e p head own f = f (keeps.label sheet at start size next e p head own.0)
  rest_keeps sheet ModeField at start size next rest e p head own f = f (keeps.mode sheet at start size next e p head own)
  rest_keeps sheet RowField at start size next rest e p head own f = f (keeps.row sheet at start size next e p head own)
  rest_keeps sheet TaskField at start size next rest e p head own f = f (keeps.task sheet at start size next e p head own)
  rest_keeps sheet EndField at start size next rest e p head own f =
      let says = common_says _ _ _ _ _ head in
      end_keeps sheet at start size next e p says.0 says.1
  rest_keeps sheet SkippedField at start size next rest e p head own f = f (keeps.skipped sheet at start size next e p)

  -- one field, where what is left of the file keeps Q
  one_field : (sheet : Sheet) (at n : ℕ) (here : Result Field Refusal) → field_at bytes at ≡ here → at ≤ length bytes → length bytes < suc n + at → P at sheet
      → ((next : ℕ) (grown : Sheet) → next ≤ length bytes → length bytes < n + next → P next grown → Q (walk bytes n next grown))
      → Q (on_field bytes sheet at (walk bytes n) here)
  unfolding on_field
  one_field sheet at n (Err refused) e inside enough p rest =
      let r = refused_in bytes at refused e in
      keeps.refused refused.reason refused.place r.0 (omega (arith, r.1))
  one_field sheet at n (Ok field) e inside enough p rest =
      let kind = field.kind in
      let start = field.start in
      let size = field.size in
      let next = field.next in
      let lies = field_in bytes at kind start size next e in
      checked_keeps Q at (refused_at kind at start size next e) (field_rules bytes sheet.tally kind start size) _ (field_of_file bytes sheet.tally start size kind)
      (λ kept.
      let both = field_kept bytes sheet.tally start size kind kept in
      rest_keeps sheet kind at start size next _ e p both.0 both.1 (rest next _ lies.2 (omega arith)))

  -- a field has three bytes at least, so what is left of the file is never cut short
  walk_keeps : (n at : ℕ) (sheet : Sheet) → at ≤ length bytes → length bytes < n + at → P at sheet → Q (walk bytes n at sheet)
  unfolding walk
  walk_keeps zero at sheet inside enough p = absurd (omega arith)
  walk_keeps (suc n) at sheet inside enough p = one_field sheet at n (field_at bytes at) refl inside enough p (walk_keeps n)

  pub judged_keeps : Q (judged bytes)
  unfolding judged
  judged_keeps = walk_keeps (length bytes + 1) 0 empty_sheet (omega arith) (omega arith) keeps.none
