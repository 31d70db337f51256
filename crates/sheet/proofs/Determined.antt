-- The public calls leave no choice: two answers that a call's contract allows for the same arguments are equal.
use Prim.Native.Nat.{ℕ}
use mathlib.Core.Path.{◌≡◌, ◌∙◌, sym}
use mathlib.Core.List.{List}
use denote.Ref.{Bor}
use Rattle.fields.proofs.Determined.{Determines, one_value}
use Rattle.fields.specs.declared.values.Part.{Part}
use Rattle.sheet.specs.Judging.{judged, PartOf}
use Rattle.sheet.proofs.judge.Kinds as judge
use Rattle.sheet.proofs.judge.Reads as judge-reads
use Rattle.sheet.proofs.label.Kinds as label
use Rattle.sheet.proofs.label.Reads as label-reads

pub judge_one : Determines 1 judge.ps judge.r judge-reads.Learnt (λ κs x. x)
judge_one = one_value 1 judge.ps judge.r (λ κs x. x) _

-- where a slice stands and what it holds
abbrev PlaceAndBytes : Type 0
PlaceAndBytes = (ℕ × ℕ) × List ℕ

abbrev place_and_bytes : Bor (List ℕ) → PlaceAndBytes
place_and_bytes slice = (slice.ref_ptr, slice.now)

same_part : (bytes : Bor (List ℕ)) (part : Part) (x y : Bor (List ℕ)) → PartOf bytes part x → PartOf bytes part y → place_and_bytes x ≡ place_and_bytes y
same_part bytes part x y p q i = (((p.0 ∙ sym q.0) i, (p.1 ∙ sym q.1) i), (p.2 ∙ sym q.2) i)

-- the same part of the caller's memory, and not only equal bytes
pub label_one : Determines 1 label.ps label.r label-reads.Learnt (λ κs x. place_and_bytes x)
label_one κs args x y s t p q = same_part args.0 (judged args.0.now).sheet.label x y p q
