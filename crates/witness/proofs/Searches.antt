-- The first number below n that passes a test: what a search that goes up from 0 finds.
use mathlib.Core.Path.{◌≡◌, refl, sym, ◌∙◌}
use mathlib.Core.Logic.{⊎_elim}
use mathlib.Core.Bool.{Bool, true, false, false≢true}
use Prim.Native.Nat.{ℕ, zero, suc, ◌+◌, ◌≤◌, ◌<◌}
use native.Mathlib.Omega.{arith}
use Rattle.meaning.specs.Computed.{seek}
use Rattle.meaning.proofs.Tests.{lt_or}
use Rattle.meaning.proofs.Seeking.{seek_range, seek_hit, seek_le}

module _ (n : ℕ) (test : ℕ → Bool) where
  -- a number that passes, where none before it does
  pub seek_is : (j : ℕ) → j < n → test j ≡ true → ((i : ℕ) → i < j → test i ≡ false) → j ≡ seek n 0 test
  seek_is j h e none =
      ⊎_elim
      (λ l.
      let below : seek n 0 test < 0 + n = omega arith in
      absurd (false≢true (sym (none (seek n 0 test) l) ∙ seek_hit n 0 test below)))
      (λ l. omega (arith, seek_le n 0 test j (omega arith) e))
      (lt_or (seek n 0 test) j)

  -- n, where none passes
  pub seek_none : ((i : ℕ) → i < n → test i ≡ false) → n ≡ seek n 0 test
  seek_none none =
      ⊎_elim
      (λ l.
      let below : seek n 0 test < 0 + n = omega arith in
      absurd (false≢true (sym (none (seek n 0 test) l) ∙ seek_hit n 0 test below)))
      (λ l. omega (arith, (seek_range n 0 test).1))
      (lt_or (seek n 0 test) n)

-- tests that say the same find the same
pub seek_same : (count i : ℕ) (test other : ℕ → Bool) → ((j : ℕ) → i ≤ j → j < i + count → test j ≡ other j) → seek count i test ≡ seek count i other
seek_same zero i test other same = refl
seek_same (suc count) i test other same =
    let later : seek count (suc i) test ≡ seek count (suc i) other = seek_same count (suc i) test other (λ j a b. same j (omega arith) (omega arith)) in
    rw (same i (omega arith) (omega arith), later)
