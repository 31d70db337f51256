-- What `max` answers of two times is the larger of them in the words of the definition.
use native.Mathlib.Omega.{arith}
use mathlib.Core.Path.{◌≡◌, refl, ap}
use Prim.Native.Nat.{ℕ, ◌<◌}
use borrow.Author.Tests.{lt-ltb, le-ltb}
use Rattle.std.proofs.Common.{Ordering, Less, Equal, Greater}
use Rattle.std.specs.Ordering.{MatchOrdering, nat_cmp, ord_max}
use Rattle.std.specs.Cmp.{ranks}
use Rattle.fields.proofs.Deciding.{yes, no}
use Rattle.fields.specs.declared.units.Ticks.{Ticks}
use Rattle.modes.specs.Modes.{longer}

pub larger : (one other : Ticks) → ord_max (λ (a b : Ticks). nat_cmp a.0 b.0) one other ≡ longer one other
larger one other = go (nat_cmp other.0 one.0) (ranks other.0 one.0)
  where
    go : (o : Ordering) → MatchOrdering o (other.0 < one.0) (other.0 ≡ one.0) (one.0 < other.0) → ord_max (λ _ _. o) one other ≡ longer one other
    go Less h = no _ _ _ _ (le-ltb _ _ (omega arith)) refl
    go Equal h = no _ _ _ _ (le-ltb _ _ (omega arith)) (ap (λ (n : ℕ). record { 0 = n }) h)
    go Greater h = yes _ _ _ _ (lt-ltb _ _ h) refl
