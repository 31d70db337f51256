-- Where a sum of two amounts rises next: at the sooner of where either does.
use Prim.Native.Nat.{ℕ, ◌+◌, ◌-◌, ◌≤◌, min}
use native.Mathlib.Omega.{arith}
use mathlib.Core.Logic.{⊎_elim}
use mathlib.Core.Path.{◌≡◌}
use Rattle.meaning.proofs.Tests.{lt_or}
use Rattle.steps.specs.Rising.{IsNextRise}

-- an amount never falls
abbrev pub Grows : (ℕ → ℕ) → Type 0
Grows amount = (t : ℕ) → amount (t - 1) ≤ amount t

-- one that stays as it is rises nowhere
pub never_rises : (amount : ℕ → ℕ) (horizon from : ℕ) → from ≤ horizon + 1 → ((t : ℕ) → amount t ≡ 0) → IsNextRise amount horizon from (horizon + 1)
never_rises amount horizon from h flat = record {
  at_least = h;
  at_most = omega arith;
  rises = λ l. absurd (omega arith);
  first = λ t a b up. omega (arith, flat t, flat (t - 1), up);
}

-- two that are the same at every interval rise alike
pub rises_alike : (first second : ℕ → ℕ) → ((t : ℕ) → second t ≡ first t) → (horizon from next : ℕ)
    → IsNextRise first horizon from next → IsNextRise second horizon from next
rises_alike first second same horizon from next is = record {
  at_least = is.at_least;
  at_most = is.at_most;
  rises = λ l. omega (arith, is.rises l, same next, same (next - 1));
  first = λ t a b up. is.first t a b (omega (arith, up, same t, same (t - 1)));
}

module _ (first second : ℕ → ℕ) (first-grows : Grows first) (second-grows : Grows second) (horizon from a b : ℕ)
    (is-first : IsNextRise first horizon from a) (is-second : IsNextRise second horizon from b) where
  pub sum_rises : IsNextRise (λ t. first t + second t) horizon from (min a b)
  sum_rises = record {
    at_least = omega (arith, is-first.at_least, is-second.at_least);
    at_most = omega (arith, is-first.at_most);
    rises = λ l. ⊎_elim
        (λ sooner. let same : min a b ≡ a = omega arith in rw same (omega (arith, is-first.rises (omega arith), second-grows a)))
        (λ later. let same : min a b ≡ b = omega arith in rw same (omega (arith, is-second.rises (omega arith), first-grows b)))
        (lt_or a b);
    first = λ t h below up. ⊎_elim
        (λ rise. is-first.first t h (omega arith) rise)
        (λ flat. is-second.first t h (omega arith) (omega (arith, flat, up)))
        (lt_or (first (t - 1)) (first t));
  }
