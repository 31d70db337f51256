-- When a word is a number, and which.
use Rattle.std.specs.Prelude.{ℕ, zero, suc, ◌+◌, ◌-◌, ◌*◌, ◌≤◌, ◌<◌, ◌≡◌, List, length, get_or, Option, Some, None}

-- a decimal digit, from `0` to `9`
abbrev pub IsDigit : ℕ → Type 0
IsDigit byte = (48 ≤ byte) × (byte ≤ 57)

-- the most digits of a number
abbrev pub most_digits : ℕ
most_digits = 5

-- a word is a number: some digits, not too many, and none that begins with `0` but `0` itself
pub record IsNumber (word : List ℕ) : Type 0 where
  pub some : 1 ≤ length word
  pub few : length word ≤ most_digits
  pub digits : (i : ℕ) → i < length word → IsDigit (get_or word i 0)
  pub zero_alone : get_or word 0 0 ≡ 48 → length word ≡ 1

-- the value of a word's first digits
unfoldable pub value_upto : List ℕ → ℕ → ℕ
value_upto word zero = 0
value_upto word (suc count) = value_upto word count * 10 + (get_or word count 0 - 48)

-- what is rightly said of a word: which number it is, or that it is none
abbrev pub Says : List ℕ → Option ℕ → Type 0
Says word (Some value) = IsNumber word × (value ≡ value_upto word (length word))
Says word None = IsNumber word → ⊥
