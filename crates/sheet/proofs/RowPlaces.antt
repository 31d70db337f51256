-- Rows by their places in the file: an array of them grows row by row, and there is one such array only.
use Prim.Native.Nat.{ℕ, ◌+◌, ◌≤◌, ◌<◌}
use native.Mathlib.Omega.{arith}
use native.Mathlib.Nat.{eq-or-lt_of_le}
use mathlib.Core.Path.{◌≡◌, ◌∙◌, sym}
use mathlib.Core.Logic.{⊎_elim}
use mathlib.Core.List.{List}
use lib.ListN.{get_or, set, replicate, length-set, length-replicate, get_or-replicate, get_or-eq_default}
use lib.Seq.{get_or-set_same, get_or-set_other, ext_get_or}
use Rattle.meaning.proofs.Tests.{lt_or}
use Rattle.fields.specs.Limits.{row_limit}
use Rattle.fields.specs.Reading.{row_at}
use Rattle.fields.specs.Values.{no_row}
use Rattle.fields.specs.declared.values.Row.{Row}
use Rattle.sheet.specs.Outline.{RowsFrom}

zeros : (k : ℕ) → get_or (replicate row_limit no_row) k no_row ≡ no_row
zeros k =
    ⊎_elim
    (λ l. get_or-replicate row_limit k no_row no_row l)
    (λ l. get_or-eq_default (replicate row_limit no_row) no_row {n = k} (rw (length-replicate row_limit no_row) l))
    (lt_or k row_limit)

module _ (bytes places : List ℕ) where
  pub rows_none : RowsFrom bytes places 0 (replicate row_limit no_row)
  rows_none = record { each = λ k h. absurd (omega arith); past = λ k h. zeros k; room = length-replicate row_limit no_row }

  module _ (count : ℕ) where
    pub rows_more : (rows : List Row) → count < row_limit → RowsFrom bytes places count rows
        → RowsFrom bytes places (count + 1) (set rows count (row_at bytes (get_or places count 0)))
    rows_more rows free from =
        let row = row_at bytes (get_or places count 0) in
        record {
          each = λ k h.
              let l : k ≤ count = omega arith in
              ⊎_elim
              (λ e. rw e (get_or-set_same rows count row no_row (omega (arith, from.room))))
              (λ b. get_or-set_other rows count k row no_row (λ (e : k ≡ count). omega arith) ∙ from.each k b)
              (eq-or-lt_of_le l);
          past = λ k h. get_or-set_other rows count k row no_row (λ (e : k ≡ count). omega arith) ∙ from.past k (omega arith);
          room = simp length-set from.room;
        }

    pub rows_one : (one other : List Row) → RowsFrom bytes places count one → RowsFrom bytes places count other → one ≡ other
    rows_one one other p q =
        ext_get_or no_row one other (p.room ∙ sym q.room)
        (λ k h. ⊎_elim (λ l. p.each k l ∙ sym (q.each k l)) (λ l. p.past k l ∙ sym (q.past k l)) (lt_or k count))
