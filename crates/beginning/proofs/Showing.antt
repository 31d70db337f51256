-- A witness in a lent area: there is one way to show it, and one kind of answer follows from another.
use Prim.Native.Nat.{ℕ, ◌≤◌, ◌<◌}
use mathlib.Core.Path.{◌≡◌, sym, ap, ◌∙◌}
use mathlib.Core.List.{List, ◌++◌}
use lib.Dec.{ltb}
use lib.ListN.{length, drop}
use borrow.Author.Tests.{lt-ltb, le-ltb, ltb-true, ltb-false}
use Rattle.fields.specs.Deciding.{pick}
use Rattle.fields.proofs.Deciding.{pick_case, pick_alike}
use Rattle.beginning.specs.Showing.{WitnessShown}

module _ {A : Type 0} (witness area : List ℕ) (fits tooLong : A) where
  -- what follows from either follows from what is shown
  pub shown_case : (C : Type 0) (answer : A) (area' : List ℕ)
      → (length area < length witness → answer ≡ tooLong → area' ≡ area → C)
      → (length witness ≤ length area → answer ≡ fits → area' ≡ witness ++ drop (length witness) area → C)
      → WitnessShown witness area fits tooLong answer area' → C
  shown_case C answer area' short enough =
      pick_case (ltb (length area) (length witness)) ((answer ≡ tooLong) × (area' ≡ area)) ((answer ≡ fits) × (area' ≡ witness ++ drop (length witness) area)) C
      (λ test p. short (ltb-true (length area) (length witness) test) p.0 p.1)
      (λ test p. enough (ltb-false (length area) (length witness) test) p.0 p.1)

  -- two answers, and what two calls leave in the area, are the same
  pub shown_alike : (x y : A) (area₁ area₂ : List ℕ) → WitnessShown witness area fits tooLong x area₁ → WitnessShown witness area fits tooLong y area₂
      → (x ≡ y) × (area₁ ≡ area₂)
  shown_alike x y area₁ area₂ =
      pick_alike (ltb (length area) (length witness)) _ _ _ _ _
      (λ (p : (x ≡ tooLong) × (area₁ ≡ area)) (q : (y ≡ tooLong) × (area₂ ≡ area)). (p.0 ∙ sym q.0, p.1 ∙ sym q.1))
      (λ (p : (x ≡ fits) × (area₁ ≡ witness ++ drop (length witness) area)) (q : (y ≡ fits) × (area₂ ≡ witness ++ drop (length witness) area)).
      (p.0 ∙ sym q.0, p.1 ∙ sym q.1))

  -- it does not fit
  pub shown_too_long : (answer : A) (area' : List ℕ) → length area < length witness → answer ≡ tooLong → area' ≡ area
      → WitnessShown witness area fits tooLong answer area'
  unfolding pick
  shown_too_long answer area' long e same = rw (lt-ltb (length area) (length witness) long) (e, same)

  -- it fits, and is written
  pub shown_written : (answer : A) (area' : List ℕ) → length witness ≤ length area → answer ≡ fits → area' ≡ witness ++ drop (length witness) area
      → WitnessShown witness area fits tooLong answer area'
  unfolding pick
  shown_written answer area' enough e written = rw (le-ltb (length area) (length witness) enough) (e, written)

-- what follows from an answer is shown with it
pub shown_as : {A B : Type 0} (witness area : List ℕ) (fits tooLong : A) (then : A → B) (answer : A) (area' : List ℕ)
    → WitnessShown witness area fits tooLong answer area' → WitnessShown witness area (then fits) (then tooLong) (then answer) area'
shown_as witness area fits tooLong then answer area' =
    shown_case witness area fits tooLong _ answer area'
    (λ long e same. shown_too_long witness area (then fits) (then tooLong) (then answer) area' long (ap then e) same)
    (λ enough e written. shown_written witness area (then fits) (then tooLong) (then answer) area' enough (ap then e) written)
