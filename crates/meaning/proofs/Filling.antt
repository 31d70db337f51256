-- A lent area that is filled with a table from the front, cell after cell.
use mathlib.Core.Path.{◌≡◌, ◌∙◌, sym, ap, subst}
use mathlib.Core.Logic.{⊎_elim}
use mathlib.Core.List.{List}
use Prim.Native.Nat.{ℕ, ◌+◌, ◌*◌, ◌/◌, ◌%◌, ◌<◌}
use native.Mathlib.Nat.{eq-or-lt_of_le, mod-lt, div-add-mod'}
use native.Mathlib.Omega.{arith}
use lib.Arith.{digits_mod, digits_div}
use lib.ListN.{get_or, length, set, length-set}
use lib.Seq.{get_or-set_same, get_or-set_other, ext_get_or}
use Rattle.meaning.specs.Graph.{Graph}
use Rattle.meaning.specs.Cells.{ByInterval, ByAmount, Filled}
use Rattle.meaning.proofs.Tests.{lt_or}
use Rattle.meaning.proofs.Unique.{best_unique, least_unique}

module _ (n : ℕ) (Right : ℕ → ℕ → ℕ → Type 0) (old : List ℕ) where
  -- one more right cell
  pub filled_one : (new : List ℕ) (line k v : ℕ) → k < n → line * n + k < length new → Right line k v
      → Filled n Right old new (line * n + k) → Filled n Right old (set new (line * n + k) v) (line * n + k + 1)
  filled_one new line k v hk hl p f = record {
    same_length = length-set new (line * n + k) v ∙ f.same_length;
    right = go;
    kept = λ place a. get_or-set_other new (line * n + k) place v 0 (λ e. omega (arith, e)) ∙ f.kept place (omega arith);
  }
    where
      go : (line' k' : ℕ) → k' < n → line' * n + k' < line * n + k + 1 → Right line' k' (get_or (set new (line * n + k) v) (line' * n + k') 0)
      go line' k' h' l =
          ⊎_elim
          (λ e.
          let same_line : line' ≡ line = sym (digits_div line' h') ∙ ap (λ (x : ℕ). x / n) e ∙ digits_div line hk in
          let same_row : k' ≡ k = sym (digits_mod line' h') ∙ ap (λ (x : ℕ). x % n) e ∙ digits_mod line hk in
          rw (same_line, same_row, get_or-set_same new (line * n + k) v 0 hl) p)
          (λ m. rw (get_or-set_other new (line * n + k) (line' * n + k') v 0 (λ e. omega (arith, e))) (f.right line' k' h' m))
          (eq-or-lt_of_le {n = line' * n + k'} {m = line * n + k} (omega arith))

  -- where each cell has one right value, the whole area is determined
  pub filled_unique : ((line k v u : ℕ) → Right line k v → Right line k u → v ≡ u) → (a b : List ℕ) (used : ℕ) → 0 < n
      → Filled n Right old a used → Filled n Right old b used → a ≡ b
  filled_unique one a b used positive fa fb = ext_get_or 0 a b (fa.same_length ∙ sym fb.same_length) λ place l.
      ⊎_elim
      (λ h.
      let e : place / n * n + place % n ≡ place = div-add-mod' place n in
      let hk : place % n < n = mod-lt place positive in
      subst (λ (x : ℕ). get_or a x 0 ≡ get_or b x 0) e
      (one (place / n) (place % n) _ _ (fa.right (place / n) (place % n) hk (omega (arith, e))) (fb.right (place / n) (place % n) hk (omega (arith, e)))))
      (λ h. fa.kept place h ∙ sym (fb.kept place h))
      (lt_or place used)

module _ (g : Graph) (old : List ℕ) where
  -- an area filled by interval is determined
  pub filled_by_interval_unique : (a b : List ℕ) (used : ℕ) → 0 < g.rows → Filled g.rows (ByInterval g) old a used → Filled g.rows (ByInterval g) old b used → a ≡ b
  filled_by_interval_unique = filled_unique g.rows (ByInterval g) old (λ s k. best_unique g k s)

  -- an area filled by amount is determined
  pub filled_by_amount_unique : (a b : List ℕ) (used : ℕ) → 0 < g.rows → Filled g.rows (ByAmount g) old a used → Filled g.rows (ByAmount g) old b used → a ≡ b
  filled_by_amount_unique = filled_unique g.rows (ByAmount g) old (λ line k. least_unique g k (line + 1))
