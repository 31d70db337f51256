-- The modes that are left from a number on: the mode of that number and those behind it, or none past the count.
use Prim.Native.Nat.{min, ℕ, ◌+◌, ◌≤◌, ◌<◌}
use native.Mathlib.Numerals.{add-one}
use native.Mathlib.Omega.{arith}
use mathlib.Core.Path.{◌≡◌, refl}
use mathlib.Core.List.{List, [], ◌∷◌}
use lib.ListN.{length, get_or, take, drop, length-take, drop_of_length-le}
use lib.Seq.{drop-cons, get_or-take}
use Rattle.fields.specs.Values.{no_mode}
use Rattle.fields.specs.declared.values.Mode.{Mode}

pub here : (modes : List Mode) (count i : ℕ) → i < count → i < length modes → drop i (take count modes) ≡ get_or modes i no_mode ∷ drop (i + 1) (take count modes)
here modes count i l h =
    let k : i < length (take count modes) = simp length-take (omega arith) in
    rw (drop-cons (take count modes) i no_mode k, add-one, get_or-take) refl

pub none_left : (modes : List Mode) (count i : ℕ) → min count (length modes) ≤ i → drop i (take count modes) ≡ []
none_left modes count i h = drop_of_length-le (take count modes) {i = i} (simp length-take h)
