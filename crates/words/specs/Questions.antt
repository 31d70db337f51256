-- Which question a word names: the first of a program's words.
use Rattle.std.specs.Prelude.{ℕ, ◌≡◌, List, [], ◌∷◌, Option, Some, None}
use Rattle.words.specs.declared.Question as question
use Rattle.words.specs.declared.Question.TheVariants.{Fits, Curve, Chart, At, Shortest}

-- the name of a question, in ASCII: `fits`, `curve`, `chart`, `at`, `shortest`
abbrev pub name_of : question.Question → List ℕ
name_of Fits = 102 ∷ 105 ∷ 116 ∷ 115 ∷ []
name_of Curve = 99 ∷ 117 ∷ 114 ∷ 118 ∷ 101 ∷ []
name_of Chart = 99 ∷ 104 ∷ 97 ∷ 114 ∷ 116 ∷ []
name_of At = 97 ∷ 116 ∷ []
name_of Shortest = 115 ∷ 104 ∷ 111 ∷ 114 ∷ 116 ∷ 101 ∷ 115 ∷ 116 ∷ []

-- what is rightly said of a word: whose name it is, or that it is no question's
abbrev pub Names : List ℕ → Option question.Question → Type 0
Names word (Some question) = word ≡ name_of question
Names word None = (question : question.Question) → word ≡ name_of question → ⊥
