-- A column of cells that is put into its lines, and a block of lines that is filled column after column.
use mathlib.Core.Path.{◌≡◌, sym, ap, ◌∙◌, subst}
use mathlib.Core.Logic.{⊎_elim}
use mathlib.Core.List.{List}
use Prim.Native.Nat.{ℕ, ◌+◌, ◌-◌, ◌*◌, ◌/◌, ◌%◌, ◌≤◌, ◌<◌}
use native.Mathlib.Nat.{eq-or-lt_of_le, mul-le-mul}
use native.Mathlib.Omega.{arith}
use lib.Arith.{digits_lt, digits_mod, digits_div}
use lib.ListN.{length, get_or, set, length-set}
use lib.Seq.{get_or-set_same, get_or-set_other}
use Rattle.meaning.specs.Cells.{Filled}
use Rattle.meaning.specs.Computed.{cell_at}
use Rattle.meaning.proofs.Tests.{lt_or}
use Rattle.tables.specs.Lines.{HasLines}
use Rattle.blocks.specs.Blocks.{block_size}
use Rattle.filling.specs.Reaching.{Put}

module _ (n line k : ℕ) (column old : List ℕ) where
  -- one cell more
  pub put_more : (cells : List ℕ) (i : ℕ) → k < n → (line + i) * n + k < length cells → Put n line k column old cells i
      → Put n line k column old (set cells ((line + i) * n + k) (get_or column i 0)) (i + 1)
  put_more cells i h inside put =
      let at : ℕ = (line + i) * n + k in
      let v : ℕ = get_or column i 0 in
      record {
        same_length = length-set cells at v ∙ put.same_length;
        here = λ m l. ⊎_elim
            (λ same.
            ap (λ (x : ℕ). get_or (set cells at v) ((line + x) * n + k) 0) same
            ∙ get_or-set_same cells at v 0 inside
            ∙ ap (λ (x : ℕ). get_or column x 0) (sym same))
            (λ less.
            let lower : (line + m) * n + k < (line + i) * n = digits_lt {q = line + m} {m = line + i} (omega arith) h in
            get_or-set_other cells at ((line + m) * n + k) v 0 (λ d. omega (arith, d)) ∙ put.here m less)
            (eq-or-lt_of_le {n = m} {m = i} (omega arith));
        other = λ place none.
            get_or-set_other cells at place v 0 (λ d. none i (omega arith) (omega (arith, d)))
            ∙ put.other place (λ m l. none m (omega arith));
      }

-- a place before the end of some lines is of one of them
line_in : (n line lines k : ℕ) → line * n + k < n * lines → line < lines
line_in n line lines k h =
    ⊎_elim (λ l. l) (λ l. absurd (omega (arith, mul-le-mul {n₁ = n} {m₁ = lines} {n₂ = n} {m₂ = line} (omega arith) l))) (lt_or line lines)

-- the lines before are right, and in the block of lines from there on the rows below k; what is behind the block has not changed
pub record Blocked (n : ℕ) (Right : ℕ → ℕ → ℕ → Type 0) (old cells : List ℕ) (line k : ℕ) : Type 0 where
  pub same_length : length cells ≡ length old
  pub before : HasLines n Right cells line
  pub within : (i j : ℕ) → i < block_size → j < k → Right (line + i) j (cell_at n cells (line + i) j)
  pub kept : (place : ℕ) → (line + block_size) * n ≤ place → get_or cells place 0 ≡ get_or old place 0

module _ (n : ℕ) (Right : ℕ → ℕ → ℕ → Type 0) (old : List ℕ) (line : ℕ) where
  module _ (cells : List ℕ) (k : ℕ) (blocked : Blocked n Right old cells line k) where
    -- behind the last row the block is filled
    pub blocked_done : k ≡ n → Filled n Right old cells (n * (line + block_size))
    blocked_done all = record {
      same_length = blocked.same_length;
      right = λ at j h l. ⊎_elim
          (λ earlier. blocked.before.right at j earlier h)
          (λ later.
          let is : line + (at - line) ≡ at = omega arith in
          subst (λ (x : ℕ). Right x j (cell_at n cells x j)) is
          (blocked.within (at - line) j (omega (arith, line_in n at (line + block_size) j l)) (omega (arith, all))))
          (lt_or at line);
      kept = λ place l. blocked.kept place (omega arith);
    }

    module _ (column new : List ℕ) (h : k < n) (right : (i : ℕ) → i < block_size → Right (line + i) k (get_or column i 0))
        (put : Put n line k column cells new block_size) where
      -- a cell of another row, or of a line before, is as it was
      elsewhere : (at j : ℕ) → j < n → ((i : ℕ) → i < block_size → j ≡ k → at ≡ line + i → ⊥) → cell_at n new at j ≡ cell_at n cells at j
      elsewhere at j l none = put.other (at * n + j) λ i a e.
          none i a
          (sym (digits_mod at l) ∙ ap (λ (x : ℕ). x % n) e ∙ digits_mod (line + i) h)
          (sym (digits_div at l) ∙ ap (λ (x : ℕ). x / n) e ∙ digits_div (line + i) h)

      -- one row more
      pub blocked_more : Blocked n Right old new line (k + 1)
      blocked_more = record {
        same_length = put.same_length ∙ blocked.same_length;
        before = record {
          room = omega (arith, put.same_length, blocked.before.room);
          right = λ at j a b. rw (elsewhere at j b (λ i _ _ d. omega (arith, d))) (blocked.before.right at j a b);
        };
        within = λ i j a b. ⊎_elim
            (λ same.
            subst (λ (x : ℕ). Right (line + i) x (cell_at n new (line + i) x)) (sym same)
            (subst (λ (v : ℕ). Right (line + i) k v) (sym (put.here i a)) (right i a)))
            (λ less. rw (elsewhere (line + i) j (omega arith) (λ _ _ d _. omega (arith, d))) (blocked.within i j a less))
            (eq-or-lt_of_le {n = j} {m = k} (omega arith));
        kept = λ place a.
            put.other place (λ i b e. omega (arith, e, digits_lt {q = line + i} {m = line + block_size} (omega arith) h))
            ∙ blocked.kept place a;
      }
