-- The short form of a file's bytes is made of bytes.
use Prim.Native.Nat.{ℕ, zero, suc, ◌+◌, ◌-◌, ◌/◌, ◌%◌, ◌<◌}
use native.Mathlib.Omega.{arith}
use mathlib.Core.List.{List, [], ◌∷◌, ◌++◌}
use mathlib.Core.Bool.{Bool, true, false}
use lib.ListN.{length, take, drop, length-take}
use lib.Seq.{get_or-drop}
use Rattle.fields.specs.Deciding.{pick}
use Rattle.fields.specs.Fields.{is_end}
use Rattle.fields.specs.Limits.{mode_size, task_size}
use Rattle.fields.specs.Reading.{field_at}
use Rattle.std.specs.Prelude.{Result, Ok, Err}
use Rattle.fields.specs.declared.reader.Field.{Field}
use Rattle.fields.specs.declared.refusal.Refusal.{Refusal}
use Rattle.fields.specs.declared.table.Kind.{Kind}
use Rattle.fields.specs.declared.table.Kind.TheVariants.{RefusedTag, LabelField, ModeField, RowField, TaskField, EndField, SkippedField}
use Rattle.sheet.specs.Proper.{Bytes}
use Rattle.written.specs.ShortForm.{is_skipped, has_shorter, shorter_field, short_field, short_step, short_from, short_form}
use Rattle.written.specs.Written.{field}

no_bytes : Bytes []
no_bytes i = omega arith

one_more : (byte : ℕ) (rest : List ℕ) → byte < 256 → Bytes rest → Bytes (byte ∷ rest)
one_more byte rest small are zero = small
one_more byte rest small are (suc i) = are i

both_bytes : (first behind : List ℕ) → Bytes first → Bytes behind → Bytes (first ++ behind)
both_bytes [] behind one other = other
both_bytes (byte ∷ first) behind one other = one_more byte (first ++ behind) (one 0) (both_bytes first behind (λ i. one (suc i)) other)

front_bytes : (n : ℕ) (bytes : List ℕ) → Bytes bytes → Bytes (take n bytes)
front_bytes zero bytes are = no_bytes
front_bytes (suc n) [] are = no_bytes
front_bytes (suc n) (byte ∷ bytes) are = one_more byte (take n bytes) (are 0) (front_bytes n bytes (λ i. are (suc i)))

behind_bytes : (n : ℕ) (bytes : List ℕ) → Bytes bytes → Bytes (drop n bytes)
behind_bytes n bytes are i = rw (get_or-drop n bytes i 0) (are (n + i))

chosen_bytes : (test : Bool) (one other : List ℕ) → Bytes one → Bytes other → Bytes (pick test one other)
unfolding pick
chosen_bytes true one other are also = are
chosen_bytes false one other are also = also

module _ (bytes : List ℕ) (are : Bytes bytes) where
  -- a field with a part of the file as its content
  part_bytes : (tag size start : ℕ) → tag < 256 → size < 65536 → Bytes (field tag (take size (drop start bytes)))
  part_bytes tag size start known few =
      let content = take size (drop start bytes) in
      let most = length-take size (drop start bytes) in
      one_more tag (length content / 256 ∷ length content % 256 ∷ content) known
      (one_more (length content / 256) (length content % 256 ∷ content) (omega (arith, most))
      (one_more (length content % 256) content (omega arith) (front_bytes size (drop start bytes) (behind_bytes start bytes are))))

  shorter_bytes : (kind : Kind) (start : ℕ) → Bytes (shorter_field bytes kind start)
  shorter_bytes RefusedTag start = no_bytes
  shorter_bytes LabelField start = no_bytes
  shorter_bytes ModeField start = part_bytes 2 mode_size start (omega arith) (omega arith)
  shorter_bytes RowField start = no_bytes
  shorter_bytes TaskField start = part_bytes 4 task_size start (omega arith) (omega arith)
  shorter_bytes EndField start = no_bytes
  shorter_bytes SkippedField start = no_bytes

  step_bytes : (at : ℕ) (go : ℕ → List ℕ) → ((next : ℕ) → Bytes (go next)) → (here : Result Field Refusal) → Bytes (short_step bytes at go here)
  unfolding short_step
  step_bytes at go goes (Err refusal) = no_bytes
  step_bytes at go goes (Ok field) =
      let kind = field.kind in
      let start = field.start in
      let next = field.next in
      both_bytes (short_field bytes at kind start field.size next) _
      (chosen_bytes (is_skipped kind) [] _ no_bytes (chosen_bytes (has_shorter bytes kind start field.size) (shorter_field bytes kind start) _ (shorter_bytes kind start) (front_bytes (next - at) (drop at bytes) (behind_bytes at bytes are))))
      (chosen_bytes (is_end kind) [] (go next) no_bytes (goes next))

  from_bytes : (n at : ℕ) → Bytes (short_from bytes n at)
  unfolding short_from
  from_bytes zero at = no_bytes
  from_bytes (suc n) at = step_bytes at (short_from bytes n) (from_bytes n) (field_at bytes at)

  pub short_bytes : Bytes (short_form bytes)
  unfolding short_form
  short_bytes = from_bytes (length bytes + 1) 0
