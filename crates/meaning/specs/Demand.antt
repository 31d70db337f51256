-- Demand at an interval, its witness, and the shortest interval for an amount.
use Rattle.std.specs.Prelude.{◌≡◌, ◌⊎◌, List, [], ℕ, ◌≤◌, ◌<◌}
use Rattle.meaning.specs.Graph.{Graph}
use Rattle.meaning.specs.Sequence.{Allowed, end_time, amount}
use Rattle.meaning.specs.Extreme.{Largest, Smallest, First}

-- the longest time that is asked about, in ticks
abbrev pub longest_time : ℕ
longest_time = 65535

-- what stands for a time where there is none
abbrev pub no_time : ℕ
no_time = 4294967295

-- a sequence in time: one that ends by t
abbrev pub InTime : Graph → ℕ → List ℕ → Type 0
InTime g t w = Allowed g w × (end_time g w ≤ t)

-- demand at t: the most work of a sequence in time, 0 where there is none
abbrev pub IsDemand : Graph → ℕ → ℕ → Type 0
IsDemand g t d = Largest (InTime g t) (amount g) d

-- a sequence in time with exactly the work d
abbrev pub Attains : Graph → ℕ → ℕ → List ℕ → Type 0
Attains g t d w = InTime g t w × (amount g w ≡ d)

-- the witness at t: the first sequence in row order that attains the demand, and no row at all where the demand is 0
abbrev pub IsWitness : Graph → ℕ → List ℕ → Type 0
IsWitness g t w = (d : ℕ) × IsDemand g t d × (((d ≡ 0) × (w ≡ [])) ⊎ ((0 < d) × First (Attains g t d) w))

-- a sequence with enough work: at least b, and it ends by the longest time
abbrev pub Enough : Graph → ℕ → List ℕ → Type 0
Enough g b w = Allowed g w × (b ≤ amount g w) × (end_time g w ≤ longest_time)

-- the shortest interval for b: the least end time of a sequence with enough work, `no_time` where there is none
abbrev pub IsShortest : Graph → ℕ → ℕ → Type 0
IsShortest g b x = Smallest (Enough g b) (end_time g) no_time x
