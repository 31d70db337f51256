-- What `any` answers over a range, and over a part of a slice, in the words of the definitions; and where two scans are alike.
use Prim.Native.Nat.{ℕ, zero, suc, ◌+◌, ◌≤◌, ◌<◌}
use native.Mathlib.Nat.{add-zero, suc-add, add-suc, zero-lt-suc}
use native.Mathlib.Numerals.{add-one}
use native.Mathlib.Omega.{arith}
use mathlib.Core.Path.{◌≡◌, ◌∙◌, refl, sym, ap}
use mathlib.Core.List.{List, [], ◌∷◌}
use mathlib.Core.Bool.{Bool, true, false, ◌||◌}
use lib.ListN.{length, get_or, take, drop}
use Rattle.std.specs.List.{list_any, range_with_len}
use Rattle.fields.specs.Deciding.{pick, any_from}

either : (a b : Bool) → (a || b) ≡ pick a true b
unfolding pick
either true b = refl
either false b = refl

pub any_of_range : (f : ℕ → Bool) (k n : ℕ) → list_any f (range_with_len k n) ≡ any_from f k n
unfolding any_from
any_of_range f k zero = refl
any_of_range f k (suc n) = either (f k) _ ∙ ap (pick (f k) true) (ap (λ (m : ℕ). list_any f (range_with_len m n)) (add-one k) ∙ any_of_range f (suc k) n)

-- the same test at places that are counted from one place later
any_shift : (f : ℕ → Bool) (k n : ℕ) → any_from (λ at. f (suc at)) k n ≡ any_from f (suc k) n
unfolding any_from
any_shift f k zero = refl
any_shift f k (suc n) = ap (pick (f (suc k)) true) (any_shift f (suc k) n)

pub any_of_part : (f : ℕ → Bool) (xs : List ℕ) (start n : ℕ) → start + n ≤ length xs → list_any f (take n (drop start xs)) ≡ any_from (λ at. f (get_or xs at 0)) start n
unfolding any_from
any_of_part f xs zero zero h = refl
any_of_part f [] zero (suc n) h = absurd (omega arith)
any_of_part f (x ∷ xs) zero (suc n) h =
    either (f x) _
    ∙ ap (pick (f x) true) (any_of_part f xs zero n (omega arith) ∙ any_shift (λ at. f (get_or (x ∷ xs) at 0)) zero n)
any_of_part f [] (suc start) zero h = refl
any_of_part f [] (suc start) (suc n) h = absurd (omega arith)
any_of_part f (x ∷ xs) (suc start) n h = any_of_part f xs start n (omega arith) ∙ any_shift (λ at. f (get_or (x ∷ xs) at 0)) start n

-- two scans that see the same, each from its own place on
pub any_alike : (f g : ℕ → Bool) (i k n : ℕ) → ((j : ℕ) → j < n → f (i + j) ≡ g (k + j)) → any_from f i n ≡ any_from g k n
unfolding any_from
any_alike f g i k zero alike = refl
any_alike f g i k (suc n) alike =
    let here : f i ≡ g k = ap f (sym (add-zero i)) ∙ alike 0 (zero-lt-suc n) ∙ ap g (add-zero k) in
    let behind : (j : ℕ) → j < n → f (suc i + j) ≡ g (suc k + j) =
    λ j h. ap f (suc-add i j ∙ sym (add-suc i j)) ∙ alike (suc j) (omega arith) ∙ ap g (add-suc k j ∙ sym (suc-add k j)) in
    rw (here, any_alike f g (suc i) (suc k) n behind) refl
