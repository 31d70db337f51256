use Prim.Native.Nat.{ℕ, ◌<◌}
use mathlib.Core.Path.{◌≡◌}
use lib.ListN.{get_or}
use Rattle.words.specs.Numbers.{IsDigit, value_upto}
use Rattle.words.proofs.number_of.Given as goal

abbrev pub invariant-loop-byte : goal.invariant-loop-byte
invariant-loop-byte l =
    (l.value ≡ value_upto l.word l.byte-index)
    × ((k : ℕ) → k < l.byte-index → IsDigit (get_or l.word k 0))
