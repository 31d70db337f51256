-- An array of numbers that is written from the front, one element a turn.
use mathlib.Core.Path.{◌≡◌, refl, sym, ap, ◌∙◌}
use mathlib.Core.Logic.{⊎_elim}
use mathlib.Core.List.{List}
use Prim.Native.Nat.{ℕ, ◌+◌, ◌<◌}
use native.Mathlib.Nat.{eq-or-lt_of_le}
use native.Mathlib.Omega.{arith}
use lib.ListN.{length, get_or, set, length-set}
use lib.Seq.{get_or-set_same, get_or-set_other}

-- the elements below i are those of f, in an array of a known length
pub record Stored (f : ℕ → ℕ) (room : ℕ) (list : List ℕ) (i : ℕ) : Type 0 where
  pub size : length list ≡ room
  pub right : (m : ℕ) → m < i → get_or list m 0 ≡ f m

-- before the first store
pub stored_none : (f : ℕ → ℕ) (list : List ℕ) → Stored f (length list) list 0
stored_none f list = record { size = refl; right = λ m h. absurd (omega arith) }

-- one element more
pub stored_more : (f : ℕ → ℕ) (room : ℕ) (list : List ℕ) (i v : ℕ) → Stored f room list i → i < room → v ≡ f i → Stored f room (set list i v) (i + 1)
stored_more f room list i v before inside e = record {
  size = length-set list i v ∙ before.size;
  right = λ m h. ⊎_elim
      (λ same. ap (λ (x : ℕ). get_or (set list i v) x 0) same ∙ get_or-set_same list i v 0 (omega (arith, before.size)) ∙ e ∙ ap f (sym same))
      (λ less. get_or-set_other list i m v 0 (λ d. omega (arith, d)) ∙ before.right m less)
      (eq-or-lt_of_le {n = m} {m = i} (omega arith));
}
