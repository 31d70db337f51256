-- How a call shows a witness in an area that it is lent.
use Rattle.std.specs.Prelude.{ℕ, ◌≡◌, List, ◌++◌, ltb, length, drop}
use Rattle.fields.specs.Deciding.{pick}

-- where its rows fit, `fits` is answered, they stand at the front of the area and the bytes after them are kept; where they do not, rule 13 is broken, `too_long` is answered and the area is untouched
abbrev pub WitnessShown : {A : Type 0} → List ℕ → List ℕ → A → A → A → List ℕ → Type 0
WitnessShown witness area fits too_long answer area' =
    pick (ltb (length area) (length witness))
    ((answer ≡ too_long) × (area' ≡ area))
    ((answer ≡ fits) × (area' ≡ witness ++ drop (length witness) area))
