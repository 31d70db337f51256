-- One element more of a list of which some are counted.
use Prim.Native.Nat.{ℕ, ◌+◌}
use native.Mathlib.Omega.{arith}
use mathlib.Core.Bool.{Bool, true, false, not, cond}
use mathlib.Core.List.{List, ◌∷◌}
use mathlib.Core.Path.{◌≡◌}
use lib.ListN.{length}
use Rattle.fields.specs.Deciding.{pick}

pub one_counted : {A : Type 0} (test : Bool) (x : A) (rest : List A) (count : ℕ) → length rest ≡ count → length (cond (not test) (x ∷ rest) rest) ≡ pick test 0 1 + count
unfolding pick
one_counted true x rest count e = omega arith
one_counted false x rest count e = omega arith
