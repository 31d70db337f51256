-- The walk over the fields: where a field lies in the file, and what one field makes of the walk.
use Prim.Native.Nat.{ℕ, suc, ◌+◌, ◌-◌, ◌≤◌, ◌<◌}
use native.Mathlib.Omega.{arith}
use mathlib.Core.Path.{◌≡◌, ◌∙◌, refl, sym, ap}
use mathlib.Core.List.{List}
use mathlib.Core.Bool.{Bool, true, false, true≢false}
use lib.Dec.{ltb}
use lib.ListN.{length, get_or}
use borrow.Author.Tests.{ltb-false}
use Rattle.std.specs.Prelude.{Result, Ok, Err, is_ok}
use Rattle.fields.specs.Deciding.{pick, first_broken}
use Rattle.fields.specs.Fields.{kind_of, is_refused, is_end}
use Rattle.fields.specs.Reading.{field_at, word_at}
use Rattle.fields.specs.Refusals.{refused}
use Rattle.sheet.specs.Judging.{field_rules, with_field, checked, end_judged, on_field, walk, refusal}
use Rattle.fields.specs.declared.table.Kind.{Kind}
use Rattle.fields.specs.declared.reader.Field.{Field}
use Rattle.fields.specs.declared.refusal.Reason.{Reason}
use Rattle.fields.specs.declared.refusal.Reason.TheVariants.{CutOff, UnknownTag}
use Rattle.fields.specs.declared.refusal.Refusal.{Refusal}
use Rattle.fields.specs.declared.values.Sheet.{Sheet}
use Rattle.sheet.specs.Answer.{Judged}
use Rattle.fields.proofs.Deciding.{OfFile, by_broken, by_none}

-- what is read where a field stands
abbrev pub found : Kind → ℕ → ℕ → ℕ → Result Field Refusal
found kind start size next = Ok (record { kind = kind; start = start; size = size; next = next })

apart : {C : Type 0} (refusal : Refusal) (field : Field) → ◌≡◌ {A = Result Field Refusal} (Err refusal) (Ok field) → C
apart refusal field e = absurd (true≢false (sym (ap is_ok e)))

inside : (b₁ b₂ b₃ : Bool) (at : ℕ) (one other : Field)
    → pick b₁ (refused CutOff at) (pick b₂ (refused UnknownTag at) (pick b₃ (refused CutOff at) (Ok one))) ≡ Ok other → (b₃ ≡ false) × (one ≡ other)
unfolding pick
inside true b₂ b₃ at one other e = apart _ _ e
inside false true b₃ at one other e = apart _ _ e
inside false false true at one other e = apart _ _ e
inside false false false at one other e = (refl, cc)

-- a refusal for a reason of a file, at a place
rightly : (right : Reason) (at : ℕ) (refusal : Refusal) → OfFile right → record { reason = right; place = at } ≡ refusal → OfFile refusal.reason × (refusal.place ≡ at)
rightly right at refusal o e = rw (← e) (o, refl)

-- a place where no field can be read is refused by rule 1 or 2
refused_by : (b₁ b₂ b₃ : Bool) (at : ℕ) (field : Field) (refusal : Refusal)
    → pick b₁ (refused CutOff at) (pick b₂ (refused UnknownTag at) (pick b₃ (refused CutOff at) (Ok field))) ≡ Err refusal → OfFile refusal.reason × (refusal.place ≡ at)
unfolding pick
refused_by true b₂ b₃ at field refusal e = rightly CutOff at refusal (omega arith, omega arith) cc
refused_by false true b₃ at field refusal e = rightly UnknownTag at refusal (omega arith, omega arith) cc
refused_by false false true at field refusal e = rightly CutOff at refusal (omega arith, omega arith) cc
refused_by false false false at field refusal e = apart _ _ (sym e)

pub refused_in : (bytes : List ℕ) (at : ℕ) (refusal : Refusal) → field_at bytes at ≡ Err refusal → OfFile refusal.reason × (refusal.place ≡ at)
unfolding field_at
refused_in bytes at refusal e =
    refused_by (ltb (length bytes) (at + 3)) (is_refused (kind_of (get_or bytes at 0))) (ltb (length bytes) (at + 3 + word_at bytes (at + 1)))
    at _ refusal e

-- a field's content lies in the file, behind its header and right before the next field
pub field_in : (bytes : List ℕ) (at : ℕ) (kind : Kind) (start size next : ℕ) → field_at bytes at ≡ found kind start size next
    → (at + 3 ≡ start) × (start + size ≡ next) × (next ≤ length bytes)
unfolding field_at
field_in bytes at kind start size next e =
    let i =
    inside (ltb (length bytes) (at + 3)) (is_refused (kind_of (get_or bytes at 0))) (ltb (length bytes) (at + 3 + word_at bytes (at + 1)))
    at _ _ e in
    let whole : at + 3 + word_at bytes (at + 1) ≤ length bytes = ltb-false _ _ i.0 in
    let starts : at + 3 ≡ start = ap (λ (field : Field). field.start) i.1 in
    let sized : word_at bytes (at + 1) ≡ size = ap (λ (field : Field). field.size) i.1 in
    let goes_on : at + 3 + word_at bytes (at + 1) ≡ next = ap (λ (field : Field). field.next) i.1 in
    (starts, omega (arith, starts, sized, goes_on), omega (arith, goes_on))

module _ (bytes : List ℕ) (at n : ℕ) (sheet : Sheet) (more : 0 < n) where
  walk_next : walk bytes n at sheet ≡ on_field bytes sheet at (walk bytes (n - 1)) (field_at bytes at)
  unfolding walk
  walk_next = let m : n ≡ suc (n - 1) = omega arith in ap (λ j. walk bytes j at sheet) m

  -- where no field can be read, the walk refuses
  pub walk_refused : (refused : Refusal) → field_at bytes at ≡ Err refused → walk bytes n at sheet ≡ refusal refused.reason refused.place
  unfolding on_field
  walk_refused refused e = walk_next ∙ ap (on_field bytes sheet at (walk bytes (n - 1))) e

  module _ (field : Field) (e : field_at bytes at ≡ Ok field) where
    abbrev rest : Judged
    rest = pick (is_end field.kind) (end_judged bytes sheet at field.next) (walk bytes (n - 1) field.next (with_field bytes sheet field.kind field.start field.size))

    walk_field : walk bytes n at sheet ≡ checked at (field_rules bytes sheet.tally field.kind field.start field.size) rest
    unfolding on_field
    walk_field = walk_next ∙ ap (on_field bytes sheet at (walk bytes (n - 1))) e

    -- a field that breaks a rule is refused
    pub walk_broken : (reason : Reason) → Err reason ≡ first_broken (field_rules bytes sheet.tally field.kind field.start field.size) → walk bytes n at sheet ≡ refusal reason at
    walk_broken reason broken = walk_field ∙ by_broken (λ i. refusal i at) rest _ reason broken

    module _ (none : first_broken (field_rules bytes sheet.tally field.kind field.start field.size) ≡ Ok tt) where
      walk_kept : walk bytes n at sheet ≡ rest
      walk_kept = walk_field ∙ by_none (λ i. refusal i at) rest _ none

      -- the end field ends the walk
      pub walk_end : is_end field.kind ≡ true → walk bytes n at sheet ≡ end_judged bytes sheet at field.next
      unfolding pick
      walk_end o = walk_kept ∙ rw o

      -- any other adds to the sheet, and leaves it to the rest of the file
      pub walk_on : is_end field.kind ≡ false → walk bytes n at sheet ≡ walk bytes (n - 1) field.next (with_field bytes sheet field.kind field.start field.size)
      unfolding pick
      walk_on o = walk_kept ∙ rw o
