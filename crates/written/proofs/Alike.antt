-- Where two scans and two judgements are alike, and what rules decide that stand one behind the other.
use Prim.Native.Nat.{ℕ, zero, suc, ◌+◌, ◌<◌}
use native.Mathlib.Nat.{add-zero, zero-add, suc-add, add-suc, zero-lt-suc}
use native.Mathlib.Numerals.{add-one}
use native.Mathlib.Omega.{arith}
use mathlib.Core.Path.{◌≡◌, ◌∙◌, refl, sym, ap}
use mathlib.Core.List.{List, [], ◌∷◌, ◌++◌}
use mathlib.Core.Bool.{Bool, true, false, ◌||◌}
use Rattle.std.specs.Prelude.{Ok}
use Rattle.fields.specs.Deciding.{Rule, ◌when◌, pick, first_broken, any_from}
use Rattle.sheet.specs.Judging.{checked}
use Rattle.sheet.specs.Answer.{Judged}

-- a scan with one number more at its end
either_last : (first rest last : Bool) → pick first true (rest || last) ≡ (pick first true rest || last)
unfolding pick
either_last true rest last = refl
either_last false rest last = refl

alone : (test : Bool) → pick test true false ≡ test
unfolding pick
alone true = refl
alone false = refl

any_last : (f : ℕ → Bool) (k n : ℕ) → any_from f k (suc n) ≡ (any_from f k n || f (k + n))
unfolding any_from pick
any_last f k zero = rw (add-zero k) (alone (f k))
any_last f k (suc n) =
    ap (λ (rest : Bool). pick (f k) true rest) (any_last f (suc k) n ∙ ap (λ (place : ℕ). any_from f (suc k) n || f place) (suc-add k n ∙ sym (add-suc k n)))
    ∙ either_last (f k) (any_from f (suc k) n) (f (k + suc n))

pub any_further : (f : ℕ → Bool) (n : ℕ) (so_far here : Bool) → so_far ≡ any_from f 0 n → here ≡ f n → (so_far || here) ≡ any_from f 0 (n + 1)
any_further f n so_far here scanned told = rw (add-one n, any_last f 0 n, zero-add n, ← scanned, ← told) refl

-- what is left to judge counts only where no rule is broken
pub checked_alike : (place : ℕ) (rules : List Rule) (ok other : Judged) → (first_broken rules ≡ Ok tt → ok ≡ other) → checked place rules ok ≡ checked place rules other
unfolding first_broken pick
checked_alike place [] ok other alike = alike refl
checked_alike place (reason when true ∷ rules) ok other alike = refl
checked_alike place (reason when false ∷ rules) ok other alike = checked_alike place rules ok other alike

-- rules behind others, at one place
pub checked_both : (place : ℕ) (first behind : List Rule) (ok : Judged) → checked place (first ++ behind) ok ≡ checked place first (checked place behind ok)
unfolding pick
checked_both place [] behind ok = refl
checked_both place (reason when true ∷ first) behind ok = refl
checked_both place (reason when false ∷ first) behind ok = checked_both place first behind ok

-- and at two places: the first broken rule says at which
pub checked_one : (p q : ℕ) (first behind : List Rule) (ok : Judged) → (place : ℕ) × (checked p first (checked q behind ok) ≡ checked place (first ++ behind) ok)
unfolding pick
checked_one p q [] behind ok = (q, refl)
checked_one p q (reason when true ∷ first) behind ok = (p, refl)
checked_one p q (reason when false ∷ first) behind ok = checked_one p q first behind ok
