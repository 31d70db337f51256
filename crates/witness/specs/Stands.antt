-- Where a witness stands while it is found, and what is written of it.
use Rattle.std.specs.Prelude.{ℕ, suc, ◌-◌, ◌≤◌, ◌<◌, Bool, List, [], ◌∷◌, ◌++◌, ◌≡◌, cond, leb, eqb, length, drop, Result, Ok, Err}
use Rattle.meaning.specs.Graph.{Graph}
use Rattle.meaning.specs.Cells.{IsBestFrom}
use Rattle.meaning.specs.Computed.{max_below, seek, cell_at, via_at, rest_within}
use Rattle.beginning.specs.Showing.{WitnessShown}
use Rattle.fields.specs.declared.refusal.Reason.{Reason}
use Rattle.fields.specs.declared.refusal.Reason.TheVariants.{ShortArea}
use Rattle.witness.specs.declared.Stand.{Stand}

-- row j leads on with s left: it adds just the work wanted
abbrev pub leads : (ℕ → ℕ) → (ℕ → ℕ → ℕ) → ℕ → ℕ → ℕ → Bool
leads gap table s want j = eqb (via_at gap table s j) want

-- the first row whose cell in the line t is the work wanted, n where there is none
abbrev pub first_with : ℕ → List ℕ → ℕ → ℕ → ℕ
first_with n cells t want = seek n 0 (λ k. eqb (cell_at n cells t k) want)

-- the start: the first row whose cell in the line t is the largest of the line, with all of t and all of that work left
unfoldable pub start_of : ℕ → List ℕ → ℕ → Stand
start_of n cells t =
    record {
      row = first_with n cells t (max_below n (cell_at n cells t));
      left = t;
      work = max_below n (cell_at n cells t);
    }

-- where it goes on from a row with a job length of its own, by the row's gaps: to the first row that leads to the rest of the work
unfoldable pub onward_of : (ℕ → ℕ) → List ℕ → ℕ → ℕ → Stand → Stand
onward_of gap cells own n stand =
    let next = seek n 0 (leads gap (cell_at n cells) stand.left (stand.work - own)) in
    record { row = next; left = stand.left - gap next; work = stand.work - own }

-- the rows from where it stands on, none where no work is left
unfoldable pub rest_of : Graph → Stand → List ℕ
rest_of g stand =
    let rest = stand.row ∷ rest_within g (suc stand.left) stand.left stand.row stand.work in
    cond (leb stand.work 0) [] rest

-- where work is left, it is the cell of the row in the line of the time that is left
pub record Stands (g : Graph) (stand : Stand) : Type 0 where
  pub row_in : 0 < stand.work → stand.row < g.rows
  pub cell : 0 < stand.work → IsBestFrom g stand.row stand.left stand.work

-- a row was passed: it is the first of those to come, and the witness stands behind it
pub record Passed (g : Graph) (old : Stand) (row : ℕ) (new : Stand) : Type 0 where
  pub row_in : row < g.rows
  pub first : rest_of g old ≡ row ∷ rest_of g new
  pub in_time : new.left ≤ old.left
  pub stands : Stands g new

-- a list and its count were written into an area, of which the rest is kept
pub record Written (list old new : List ℕ) (count : ℕ) : Type 0 where
  pub counted : count ≡ length list
  pub is : new ≡ list ++ drop (length list) old

-- a witness was shown in an area, or does not fit it
abbrev pub IsShown : List ℕ → List ℕ → Result ℕ Reason → List ℕ → Type 0
IsShown witness area = WitnessShown witness area (Ok (length witness)) (Err ShortArea)
