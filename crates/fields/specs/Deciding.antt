-- How rules decide: each has the reason of a refusal and a test, they stand in order, and the first whose test holds gives its reason.
use Rattle.std.specs.Prelude.{ℕ, zero, suc, List, [], ◌∷◌, Bool, true, false, Result, Ok, Err}
use Rattle.fields.specs.declared.refusal.Reason.{Reason}

infixl 68 ◌when◌
infixr 69 ◌or◌
-- the reason, given when the test holds
pub data Rule : Type 0 where
  ◌when◌ : Reason → Bool → Rule

-- a where the test holds, else b
unfoldable pub pick {ℓ} : {A : Type ℓ} → Bool → A → A → A
pick true a b = a
pick false a b = b

-- either test holds
abbrev pub ◌or◌ : Bool → Bool → Bool
◌or◌ a b = pick a true b

-- what `refuse` makes of the reason of the first broken rule, or `ok` where none is broken
abbrev pub judged_by {ℓ} : {A : Type ℓ} → (Reason → A) → List Rule → A → A
judged_by refuse [] ok = ok
judged_by refuse (reason when b ∷ rules) ok = pick b (refuse reason) (judged_by refuse rules ok)

-- the reason of the first broken rule, where one is broken
unfoldable pub first_broken : List Rule → Result (Unit {0}) Reason
first_broken rules = judged_by Err rules (Ok tt)

-- of the n numbers from k on, one passes the test f
unfoldable pub any_from : (ℕ → Bool) → ℕ → ℕ → Bool
any_from f k zero = false
any_from f k (suc n) = pick (f k) true (any_from f (suc k) n)
