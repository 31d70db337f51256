-- The promise of `write` determines its answer and every byte of the output: two that are allowed are equal.
use Prim.Native.Nat.{ℕ}
use mathlib.Core.Path.{◌≡◌, ◌∙◌, sym}
use mathlib.Core.List.{List}
use Rattle.std.specs.Prelude.{Result}
use Rattle.fields.specs.declared.refusal.Refusal.{Refusal}
use Rattle.sheet.specs.Judging.{judged}
use Rattle.beginning.proofs.Beginnings.{begins_alike}
use Rattle.written.specs.Values.{Values}
use Rattle.written.specs.Written.{written}
use Rattle.writer.specs.Calls.{write_rules, WriteRefuses, WriteGives, WriteCall}

pub write_determined : (values : Values) (output : List ℕ) (x y : Result ℕ Refusal) (left right : List ℕ)
    → WriteCall values output x left → WriteCall values output y right → (x ≡ y) × (left ≡ right)
write_determined values output x y left right =
    begins_alike (judged (written values)).answer (write_rules values output)
    (WriteRefuses output x left) (WriteRefuses output y right)
    (WriteGives values output x left) (WriteGives values output y right) ((x ≡ y) × (left ≡ right))
    (λ reason place (p : WriteRefuses output x left reason place) (q : WriteRefuses output y right reason place). (p.0 ∙ sym q.0, p.1 ∙ sym q.1))
    (λ (p : WriteGives values output x left) (q : WriteGives values output y right). (p.0 ∙ sym q.0, p.1 ∙ sym q.1))
