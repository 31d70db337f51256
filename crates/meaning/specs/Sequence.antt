-- A sequence of jobs: which ones a graph allows, when the last deadline falls, and how much work there is in it.
use Rattle.std.specs.Prelude.{List, [], ◌∷◌, ℕ, ◌+◌, ◌<◌}
use Rattle.meaning.specs.Graph.{Graph}

-- a job at row k and then jobs at the rows of a list: all are rows of the graph, and each may follow the one before it
abbrev pub AllowedFrom : Graph → ℕ → List ℕ → Type 0
AllowedFrom g k [] = k < g.rows
AllowedFrom g k (j ∷ rest) = (k < g.rows) × (0 < g.gap k j) × AllowedFrom g j rest

-- its end time: every gap on the way, and the deadline of the row that comes last
abbrev pub end_from : Graph → ℕ → List ℕ → ℕ
end_from g k [] = g.deadline k
end_from g k (j ∷ rest) = g.gap k j + end_from g j rest

-- its amount: the lengths of all its jobs together
abbrev pub amount_from : Graph → ℕ → List ℕ → ℕ
amount_from g k [] = g.length k
amount_from g k (j ∷ rest) = g.length k + amount_from g j rest

-- the same of a whole list of rows, of which there must be at least one
abbrev pub Allowed : Graph → List ℕ → Type 0
Allowed g [] = ⊥
Allowed g (k ∷ rest) = AllowedFrom g k rest

-- when the last deadline of a whole list falls
abbrev pub end_time : Graph → List ℕ → ℕ
end_time g [] = 0
end_time g (k ∷ rest) = end_from g k rest

-- the work in a whole list
abbrev pub amount : Graph → List ℕ → ℕ
amount g [] = 0
amount g (k ∷ rest) = amount_from g k rest
