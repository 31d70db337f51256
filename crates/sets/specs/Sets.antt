-- Sets of rows as numbers: bit j says whether row j is in the set. The definitions know no width, since a number has as many bits as one asks for.
use Rattle.std.specs.Prelude.{Bool, ℕ, zero, suc, ◌+◌, ◌/◌, ◌%◌, ◌^◌, eqb, Option, Some, None}

-- how many bits a set has in code
abbrev pub width : ℕ
width = 64

-- bit j of the set s: 1 where row j is in it, else 0
abbrev pub bit : ℕ → ℕ → ℕ
bit s j = s / 2 ^ j % 2

-- whether row j is in the set s
abbrev pub member : ℕ → ℕ → Bool
member s j = eqb (bit s j) 1

-- how many rows below j are in the set s
unfoldable pub below : ℕ → ℕ → ℕ
below s zero = zero
below s (suc j) = below s j + bit s j

-- the first of two answers where a bit is 1, the second where it is 0
abbrev pub pick_next : ℕ → Option ℕ → Option ℕ → Option ℕ
pick_next zero here later = later
pick_next (suc n) here later = here

-- the first of the d rows from j on that is in the set s
unfoldable pub next_in : ℕ → ℕ → ℕ → Option ℕ
next_in zero s j = None
next_in (suc d) s j = pick_next (bit s j) (Some j) (next_in d s (suc j))

-- what f makes of a where a bit is 1, and a itself where it is 0
abbrev pub on_bit {ℓ} : {A : Type ℓ} → ℕ → (A → A) → A → A
on_bit zero f a = a
on_bit (suc n) f a = f a

-- what f makes of the rows below j that are in the set s, one after the other from the lowest, starting from a
unfoldable pub fold_below {ℓ} : {A : Type ℓ} → (ℕ → A → A) → A → ℕ → ℕ → A
fold_below f a s zero = a
fold_below f a s (suc j) = on_bit (bit s j) (f j) (fold_below f a s j)
