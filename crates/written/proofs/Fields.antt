-- The fields of entries that stand one after the other.
use Prim.Native.Nat.{ℕ}
use mathlib.Core.Path.{◌≡◌, ◌∙◌, refl, sym, ap}
use mathlib.Core.List.{List, [], ◌∷◌, ◌++◌, append_assoc}
use Rattle.written.specs.Values.{Entry}
use Rattle.written.specs.Written.{field_of, fields_of}

pub fields_both : (first rest : List Entry) → fields_of (first ++ rest) ≡ fields_of first ++ fields_of rest
unfolding fields_of
fields_both [] rest = refl
fields_both (entry ∷ first) rest = ap (λ (l : List ℕ). field_of entry ++ l) (fields_both first rest) ∙ sym (append_assoc (field_of entry) (fields_of first) (fields_of rest))
