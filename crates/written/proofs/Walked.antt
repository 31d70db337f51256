-- The walk over the fields of entries is the rules on those entries, and the end field ends it.
use Prim.Native.Nat.{ℕ, ◌+◌}
use native.Mathlib.Omega.{arith}
use mathlib.Core.Path.{◌≡◌, ◌∙◌, refl, ap}
use mathlib.Core.List.{List, [], ◌∷◌, ◌++◌, append_assoc}
use mathlib.Core.Bool.{false}
use lib.Dec.{ltb}
use lib.ListN.{length, drop, length-append}
use borrow.Author.Tests.{le-ltb}
use Rattle.fields.specs.Deciding.{◌when◌, pick}
use Rattle.rules.specs.Rules.{unknown_follower, common_rules}
use Rattle.sheet.specs.Judging.{head_rules, own_rules, checked, end_judged}
use Rattle.fields.specs.declared.refusal.Reason.TheVariants.{UnknownFollower}
use Rattle.fields.specs.declared.values.Sheet.{Sheet}
use Rattle.sheet.specs.Answer.{Accepted}
use Rattle.written.specs.Judging.{entry_rules, entries_rules}
use Rattle.written.specs.Values.{Entry}
use Rattle.written.specs.Written.{field, tag_of, content_of, field_of, fields_of}
use Rattle.written.proofs.Alike.{checked_one}
use Rattle.written.proofs.EntryFields.{entry_judged}
use Rattle.written.proofs.From.{from, from_field}
use Rattle.written.proofs.Here.{long_here, field_here, content_here, past_here}
use Rattle.written.proofs.Named.{Named, AllNamed, named_read}
use Rattle.written.proofs.Sheets.{entry_sheet, entries_sheet, entry_tally}

module _ (bytes : List ℕ) where
  entry_walked : (entry : Entry) (rest : List ℕ) (at : ℕ) (sheet : Sheet) → Named entry → drop at bytes ≡ field_of entry ++ rest
      → from bytes at sheet ≡ checked at (entry_rules sheet.tally entry) (from bytes (at + length (field_of entry)) (entry_sheet (at + 3) sheet entry))
  unfolding pick
  entry_walked entry rest at sheet named e =
      let known = named_read entry named in
      let q : at + length (field_of entry) ≡ at + 3 + length (content_of entry) = omega arith in
      from_field bytes at sheet _ _ _ _ (field_here bytes at (tag_of entry) (content_of entry) rest e known.0)
      ∙ rw (known.1, q)
      (entry_judged bytes at (at + 3) rest entry named (content_here bytes at (tag_of entry) (content_of entry) rest e) sheet (from bytes (at + 3 + length (content_of entry))))

  -- fields one behind the other: a broken rule is refused at one of them
  pub entries_walked : (entries : List Entry) (rest : List ℕ) (at : ℕ) (sheet : Sheet) → AllNamed entries → drop at bytes ≡ fields_of entries ++ rest
      → (place : ℕ) × (from bytes at sheet ≡ checked place (entries_rules sheet.tally entries) (from bytes (at + length (fields_of entries)) (entries_sheet at sheet entries)))
  unfolding fields_of entries_rules entries_sheet
  entries_walked [] rest at sheet named e = (at, let q : at + 0 ≡ at = omega arith in rw q refl)
  entries_walked (entry ∷ more) rest at sheet named e =
      let here : drop at bytes ≡ field_of entry ++ (fields_of more ++ rest) = e ∙ append_assoc (field_of entry) (fields_of more) rest in
      let next = at + length (field_of entry) in
      let grown = entry_sheet (at + 3) sheet entry in
      let behind = entries_walked more rest next grown named.1 (past_here bytes at (field_of entry) (fields_of more ++ rest) here) in
      let both = checked_one at behind.0 (entry_rules sheet.tally entry) (entries_rules grown.tally more) (from bytes (next + length (fields_of more)) (entries_sheet next grown more)) in
      let q : at + length (field_of entry ++ fields_of more) ≡ next + length (fields_of more) = omega (arith, length-append (field_of entry) (fields_of more)) in
      rw (q, ← entry_tally (at + 3) sheet entry)
      (both.0, entry_walked entry (fields_of more ++ rest) at sheet named.0 here ∙ ap (checked at (entry_rules sheet.tally entry)) behind.1 ∙ both.1)

  -- the end field at the end of the file
  pub end_walked : (at : ℕ) (sheet : Sheet) → drop at bytes ≡ field 5 []
      → from bytes at sheet
      ≡ checked at (common_rules 5 sheet.tally.last 0 false 0 ++ (UnknownFollower when (unknown_follower sheet.rows sheet.tally.rows) ∷ [])) (record { answer = Accepted; sheet = sheet })
  unfolding head_rules own_rules common_rules end_judged pick
  end_walked at sheet e =
      let last : ltb (at + 3 + 0) (length bytes) ≡ false = le-ltb (at + 3 + 0) (length bytes) (omega (arith, long_here bytes at 5 [] [] e)) in
      from_field bytes at sheet _ _ _ _ (field_here bytes at 5 [] [] e refl) ∙ rw last refl
