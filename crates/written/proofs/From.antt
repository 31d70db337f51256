-- The walk over the fields from a place on, without a count of fields: what one field makes of it.
use Prim.Native.Nat.{ℕ, zero, suc, ◌+◌, ◌<◌}
use native.Mathlib.Numerals.{add-one}
use native.Mathlib.Omega.{arith}
use mathlib.Core.Path.{◌≡◌, ◌∙◌, refl, sym, ap}
use mathlib.Core.List.{List}
use lib.ListN.{length}
use borrow.Author.Tests.{lt-ltb}
use Rattle.std.specs.Prelude.{Result, Ok, Err}
use Rattle.fields.specs.Deciding.{pick}
use Rattle.fields.specs.Fields.{is_end}
use Rattle.fields.specs.Reading.{field_at}
use Rattle.fields.specs.Refusals.{refused}
use Rattle.fields.specs.Values.{empty_sheet}
use Rattle.sheet.specs.Judging.{field_rules, with_field, checked, end_judged, on_field, walk, judged}
use Rattle.fields.specs.declared.table.Kind.{Kind}
use Rattle.fields.specs.declared.reader.Field.{Field}
use Rattle.fields.specs.declared.refusal.Reason.TheVariants.{CutOff}
use Rattle.fields.specs.declared.refusal.Refusal.{Refusal}
use Rattle.fields.specs.declared.values.Sheet.{Sheet}
use Rattle.sheet.specs.Answer.{Judged}
use Rattle.sheet.proofs.Walking.{found, field_in}

-- the judgement from a place on, with what is read so far
unfoldable pub from : List ℕ → ℕ → Sheet → Judged
from bytes at sheet = walk bytes (suc (length bytes)) at sheet

module _ (bytes : List ℕ) where
  pub judged_from : judged bytes ≡ from bytes 0 empty_sheet
  unfolding judged from
  judged_from = ap (λ n. walk bytes n 0 empty_sheet) (add-one (length bytes))

  past_end : (at : ℕ) → length bytes < at → field_at bytes at ≡ refused CutOff at
  unfolding field_at pick
  past_end at h = let cut : length bytes < at + 3 = omega arith in rw (lt-ltb (length bytes) (at + 3) cut)

  -- one field, where what follows it is judged alike
  field_alike : (sheet : Sheet) (at : ℕ) (go other : ℕ → Sheet → Judged) (step : Result Field Refusal)
      → ((field : Field) → step ≡ Ok field → (grown : Sheet) → go field.next grown ≡ other field.next grown)
      → on_field bytes sheet at go step ≡ on_field bytes sheet at other step
  unfolding on_field
  field_alike sheet at go other (Err refusal) alike = refl
  field_alike sheet at go other (Ok field) alike = rw (alike field refl (with_field bytes sheet field.kind field.start field.size)) refl

  -- more fields than there are bytes left change nothing
  walk_more : (n at : ℕ) (sheet : Sheet) → length bytes < n + at → walk bytes n at sheet ≡ walk bytes (suc n) at sheet
  unfolding walk on_field
  walk_more zero at sheet enough = let past : length bytes < at = omega arith in sym (ap (on_field bytes sheet at (walk bytes zero)) (past_end at past))
  walk_more (suc n) at sheet enough =
      field_alike sheet at (walk bytes n) (walk bytes (suc n)) (field_at bytes at)
      (λ field e grown. let lies = field_in bytes at field.kind field.start field.size field.next e in walk_more n field.next grown (omega arith))

  pub from_field : (at : ℕ) (sheet : Sheet) (kind : Kind) (start size next : ℕ) → field_at bytes at ≡ found kind start size next
      → from bytes at sheet
      ≡ checked at (field_rules bytes sheet.tally kind start size)
      (pick (is_end kind) (end_judged bytes sheet at next) (from bytes next (with_field bytes sheet kind start size)))
  unfolding from walk on_field
  from_field at sheet kind start size next e =
      let lies = field_in bytes at kind start size next e in
      ap (on_field bytes sheet at (walk bytes (length bytes))) e
      ∙ rw (walk_more (length bytes) next (with_field bytes sheet kind start size) (omega arith)) refl
