-- The first number that passes a test.
use mathlib.Core.Path.{◌≡◌, ◌∙◌, sym}
use mathlib.Core.Logic.{⊎_elim}
use mathlib.Core.Bool.{Bool, true, false, false≢true}
use Prim.Native.Nat.{ℕ, zero, suc, ◌+◌, ◌≤◌, ◌<◌}
use native.Mathlib.Nat.{eq-or-lt_of_le}
use native.Mathlib.Omega.{arith}
use Rattle.meaning.specs.Computed.{seek}
use Rattle.meaning.proofs.Tests.{bool_or, lt_or}

-- what is found lies in the range, or just behind it
pub seek_range : (count i : ℕ) (test : ℕ → Bool) → (i ≤ seek count i test) × (seek count i test ≤ i + count)
seek_range zero i test = omega arith
seek_range (suc count) i test =
    ⊎_elim (λ e. rw e (omega arith)) (λ e. rw e (omega (arith, seek_range count (suc i) test))) (bool_or (test i))

-- nothing before it passes
pub seek_before : (count i : ℕ) (test : ℕ → Bool) (m : ℕ) → i ≤ m → m < seek count i test → test m ≡ false
seek_before zero i test m a b = absurd (omega arith)
seek_before (suc count) i test m a b =
    ⊎_elim
    (λ e. absurd (let z : m < i = rw e at b in omega arith))
    (λ e. ⊎_elim (λ d. rw (← d) e) (λ d. seek_before count (suc i) test m d (rw e at b)) (eq-or-lt_of_le a))
    (bool_or (test i))

-- it passes, if it lies in the range
pub seek_hit : (count i : ℕ) (test : ℕ → Bool) → seek count i test < i + count → test (seek count i test) ≡ true
seek_hit zero i test h = absurd (omega arith)
seek_hit (suc count) i test h =
    ⊎_elim
    (λ e. rw e e)
    (λ e. rw e (seek_hit count (suc i) test (let z : seek count (suc i) test < i + suc count = rw e at h in omega arith)))
    (bool_or (test i))

-- it is at most any number that passes
pub seek_le : (count i : ℕ) (test : ℕ → Bool) (m : ℕ) → i ≤ m → test m ≡ true → seek count i test ≤ m
seek_le count i test m a e =
    ⊎_elim (λ l. absurd (false≢true (sym (seek_before count i test m a l) ∙ e))) (λ l. l) (lt_or m (seek count i test))
