-- An area into which a list is written from the front, one number after the other.
use mathlib.Core.Path.{◌≡◌, refl, sym, ap, ap₂, ◌∙◌}
use mathlib.Core.List.{List, [], ◌∷◌, ◌++◌, append_assoc}
use Prim.Native.Nat.{ℕ, suc, ◌+◌, ◌<◌}
use native.Mathlib.Omega.{arith}
use lib.ListN.{length, get_or, drop, set, length-append}
use lib.Seq.{drop-cons, set-append_seam}
use Rattle.witness.specs.Stands.{Written}

-- at first nothing is written
pub written_none : (old : List ℕ) → Written [] old old 0
written_none old = record { counted = refl; is = refl }

module _ (list old new : List ℕ) (count : ℕ) (written : Written list old new count) where
  -- one number more
  pub written_more : (v : ℕ) → length list < length old → Written (list ++ v ∷ []) old (set new count v) (count + 1)
  written_more v h =
      let longer : length (list ++ v ∷ []) ≡ suc (length list) = omega (arith, length-append list (v ∷ [])) in
      record {
        counted = omega (arith, longer, written.counted);
        is =
            ap₂ (λ (l : List ℕ) (k : ℕ). set l k v) (written.is ∙ ap (λ (l : List ℕ). list ++ l) (drop-cons old (length list) 0 h)) written.counted
            ∙ set-append_seam list (get_or old (length list) 0) (drop (suc (length list)) old) v
            ∙ sym (append_assoc list (v ∷ []) (drop (suc (length list)) old))
            ∙ ap (λ (k : ℕ). (list ++ v ∷ []) ++ drop k old) (sym longer);
      }
