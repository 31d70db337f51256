-- The same notions as functions that compute. No public contract cites this page: it serves the table of the proved cases and the inner contracts of the tables' code.
use Rattle.std.specs.Prelude.{Bool, cond, ◌&&◌, ◌||◌, List, [], ◌∷◌, ℕ, zero, suc, ◌+◌, ◌*◌, ◌-◌, max, min, leb, ltb, eqb, ℤ, pos, ◌-ℤ◌, get_or}
use Rattle.meaning.specs.Graph.{Graph}
use Rattle.meaning.specs.Demand.{longest_time, no_time}
use Rattle.meaning.specs.Fixed.{Task, fixed_sum}
use Rattle.meaning.specs.Verdict.{Verdict, holds, overrun}

-- the largest of f 0 up to f (n - 1), 0 where there is none
abbrev pub max_below : ℕ → (ℕ → ℕ) → ℕ
max_below zero f = 0
max_below (suc n) f = max (max_below n f) (f n)

-- the smallest of f 0 up to f (n - 1) and `none`
abbrev pub min_below : ℕ → ℕ → (ℕ → ℕ) → ℕ
min_below zero none f = none
min_below (suc n) none f = min (min_below n none f) (f n)

-- the first of `count` numbers from i on that passes a test, i + count where none does (what a test may spare is bound by `let`, here and below, so that it waits)
abbrev pub seek : ℕ → ℕ → (ℕ → Bool) → ℕ
seek zero i test = i
seek (suc count) i test = let later = seek count (suc i) test in cond (test i) i later

-- the cell of row k in a line, of lines of n cells
abbrev pub cell_at : ℕ → List ℕ → ℕ → ℕ → ℕ
cell_at n cells line k = get_or cells (line * n + k) 0

-- the cell of row k for the amount a, where the first line is for the amount 1
abbrev pub cell_for : ℕ → List ℕ → ℕ → ℕ → ℕ
cell_for n cells a k = cell_at n cells (a - 1) k

-- what going on to row j adds, with s left: `gap` has the row's gaps, and `table` the cells of shorter intervals
abbrev pub via_at : (ℕ → ℕ) → (ℕ → ℕ → ℕ) → ℕ → ℕ → ℕ
via_at gap table s j =
    let added = table (s - gap j) j in
    cond (ltb 0 (gap j) && leb (gap j) s) added 0

-- the cell by interval of a row with a length, a deadline and gaps, among n rows
unfoldable pub step_at : ℕ → ℕ → ℕ → (ℕ → ℕ) → (ℕ → ℕ → ℕ) → ℕ → ℕ
step_at n length deadline gap table s =
    let work = length + max_below n (via_at gap table s) in
    cond (leb deadline s) work 0

-- the cell of row k at s from the cells of shorter intervals
abbrev pub best_step : Graph → (ℕ → ℕ → ℕ) → ℕ → ℕ → ℕ
best_step g table s k = step_at g.rows (g.length k) (g.deadline k) (g.gap k) table s

-- the same with fuel in place of a table: right where the fuel is more than s
unfoldable pub best_within : Graph → ℕ → ℕ → ℕ → ℕ
best_within g zero s k = 0
best_within g (suc fuel) s k = best_step g (best_within g fuel) s k

-- the cell by interval
unfoldable pub best : Graph → ℕ → ℕ → ℕ
best g s k = best_within g (suc s) s k

-- a time that is not beyond the longest, else none
abbrev pub time_or_none : ℕ → ℕ
time_or_none t = cond (leb t longest_time) t no_time

-- the end time by way of row j, with the work `left` still to do: `table` has the cells of smaller amounts
abbrev pub via_least_at : (ℕ → ℕ) → (ℕ → ℕ → ℕ) → ℕ → ℕ → ℕ
via_least_at gap table left j =
    let time = time_or_none (gap j + table left j) in
    cond (ltb 0 (gap j)) time no_time

-- the cell by amount of a row with a length, a deadline and gaps, among n rows
unfoldable pub least_at : ℕ → ℕ → ℕ → (ℕ → ℕ) → (ℕ → ℕ → ℕ) → ℕ → ℕ
least_at n length deadline gap table a =
    let time = min_below n no_time (via_least_at gap table (a - length)) in
    cond (leb a length) (time_or_none deadline) time

-- the cell of row k for the amount a from the cells of smaller amounts
abbrev pub least_step : Graph → (ℕ → ℕ → ℕ) → ℕ → ℕ → ℕ
least_step g table a k = least_at g.rows (g.length k) (g.deadline k) (g.gap k) table a

-- the same with fuel in place of a table: right where the fuel is more than a
unfoldable pub least_within : Graph → ℕ → ℕ → ℕ → ℕ
least_within g zero a k = no_time
least_within g (suc fuel) a k = least_step g (least_within g fuel) a k

-- the cell by amount
unfoldable pub least : Graph → ℕ → ℕ → ℕ
least g a k = least_within g (suc a) a k

-- demand at t
unfoldable pub demand_of : Graph → ℕ → ℕ
demand_of g t = max_below g.rows (best g t)

-- the shortest interval for b
unfoldable pub shortest_of : Graph → ℕ → ℕ
shortest_of g b = min_below g.rows no_time (least g b)

-- row j goes on from row k to the work r, with s left
abbrev pub goes_on : Graph → ℕ → ℕ → ℕ → ℕ → Bool
goes_on g s k r j =
    let enough = eqb (best g (s - g.gap k j) j) (r - g.length k) in
    ltb 0 (g.gap k j) && leb (g.gap k j) s && enough

-- the rows after row k of the first sequence that has the work r by s: right where the fuel is more than s
unfoldable pub rest_within : Graph → ℕ → ℕ → ℕ → ℕ → List ℕ
rest_within g zero s k r = []
rest_within g (suc fuel) s k r =
    let more = (let j = seek g.rows 0 (goes_on g s k r) in j ∷ rest_within g fuel (s - g.gap k j) j (r - g.length k)) in
    cond (leb r (g.length k)) [] more

-- the witness at t
unfoldable pub witness_of : Graph → ℕ → List ℕ
witness_of g t =
    let some = (let k = seek g.rows 0 (λ k. eqb (best g t k) (demand_of g t)) in k ∷ rest_within g (suc t) t k (demand_of g t)) in
    cond (leb (demand_of g t) 0) [] some

-- the margin at t
unfoldable pub margin_of : Graph → List Task → ℕ → ℤ
margin_of g tasks t = pos t -ℤ pos (demand_of g t) -ℤ pos (fixed_sum tasks t)

-- an overrun at t, by demand
abbrev pub over_by_interval : Graph → List Task → ℕ → Bool
over_by_interval g tasks t = ltb t (demand_of g t + fixed_sum tasks t)

-- an overrun at t, by the shortest interval for what the fixed tasks leave and one more
abbrev pub over_by_amount : Graph → List Task → ℕ → Bool
over_by_amount g tasks t =
    let late = leb (shortest_of g (suc (t - fixed_sum tasks t))) t in
    ltb t (fixed_sum tasks t) || late

-- the verdict up to H by a test for each interval
abbrev pub verdict_by : ℕ → (ℕ → Bool) → Verdict
verdict_by H over =
    let first = overrun (seek H 1 over) in
    cond (leb (seek H 1 over) H) first holds
