-- The witness is found row by row: what is still to come of it, from where it stands.
use mathlib.Core.Path.{◌≡◌, refl, sym, ap, ◌∙◌, subst}
use mathlib.Core.Logic.{⊎_elim}
use mathlib.Core.Bool.{Bool, true, false, ◌&&◌}
use mathlib.Core.List.{List, [], ◌∷◌}
use Prim.Native.Nat.{ℕ, zero, suc, ◌+◌, ◌-◌, ◌≤◌, ◌<◌}
use native.Mathlib.Omega.{arith}
use lib.Dec.{eqb, leb, ltb}
use borrow.Author.Tests.{le-leb, lt-leb, lt-ltb, eqb-true, eq-eqb, ne_eqb}
use Rattle.std.proofs.lemmas.Bool.Decides.{nat_tests}
use Rattle.meaning.specs.Graph.{Graph, Sound}
use Rattle.meaning.specs.Cells.{ByInterval, IsBestFrom}
use Rattle.meaning.specs.Computed.{max_below, seek, cell_at, best, demand_of, goes_on, rest_within, witness_of}
use Rattle.meaning.proofs.Tests.{le_or}
use Rattle.meaning.proofs.Seeking.{seek_hit, seek_le}
use Rattle.meaning.proofs.Folds.{max_at, max_same}
use Rattle.meaning.proofs.Unique.{best_unique}
use Rattle.meaning.proofs.ByInterval.{via_take, via_late, via_none}
use Rattle.meaning.proofs.Existence.{best_of}
use Rattle.meaning.proofs.Witness.{next_row}
use Rattle.tables.specs.Lines.{HasLines}
use Rattle.witness.specs.Stands.{Passed, Stands, leads, start_of, onward_of, rest_of}
use Rattle.witness.specs.declared.Stand.{Stand}
use Rattle.witness.proofs.Searches.{seek_same}

module _ (g : Graph) (fuel s k r : ℕ) where
  -- where the work left is the row's own, no row follows
  rest_none : r ≤ g.length k → rest_within g (suc fuel) s k r ≡ []
  unfolding rest_within
  rest_none l = rw (le-leb r (g.length k) l)

  -- where it is more, the first row that goes on follows
  rest_more : g.length k < r → (j : ℕ) → j ≡ seek g.rows 0 (goes_on g s k r) → rest_within g (suc fuel) s k r ≡ j ∷ rest_within g fuel (s - g.gap k j) j (r - g.length k)
  unfolding rest_within
  rest_more l j e = rw (lt-leb r (g.length k) l, e)

-- what the test of a row that goes on says
reads : (gap s have want : ℕ) → (ltb 0 gap && leb gap s && eqb have want) ≡ true → (0 < gap) × (gap ≤ s) × (have ≡ want)
reads gap s have want e = grind (arith, nat_tests)

module _ (g : Graph) (sound : Sound g) where
  -- where the work left is more than the row's own, the first row that goes on is one of the graph's, its gap fits, and its cell is the rest of the work
  module _ (s k r : ℕ) (h : k < g.rows) (cell : IsBestFrom g k s r) (l : g.length k < r) where
    on : ℕ
    on = seek g.rows 0 (goes_on g s k r)

    on_found : on < g.rows
    unfolding on
    on_found =
        let found = next_row g s k r h (λ i. best g (s - g.gap k i) i) (λ i hi p q. best_of g sound (s - g.gap k i) i hi) cell l in
        let passes : goes_on g s k r found.0 ≡ true = rw (lt-ltb 0 _ found.2, le-leb _ _ found.3, eq-eqb _ _ found.4) in
        omega (arith, found.1, seek_le g.rows 0 (goes_on g s k r) found.0 (omega arith) passes)

    on_goes : (0 < g.gap k on) × (g.gap k on ≤ s) × (best g (s - g.gap k on) on ≡ r - g.length k)
    unfolding on
    on_goes = reads _ _ _ _ (seek_hit g.rows 0 (goes_on g s k r) (omega (arith, on_found)))

    on_cell : IsBestFrom g on (s - g.gap k on) (r - g.length k)
    on_cell = rw on_goes.2 at (best_of g sound (s - g.gap k on) on on_found)

  -- fuel that is enough is as good as any other
  rest_same : (fuel more s k r : ℕ) → s < fuel → s < more → k < g.rows → IsBestFrom g k s r → rest_within g fuel s k r ≡ rest_within g more s k r
  unfolding on
  rest_same zero more s k r a b h cell = absurd (omega arith)
  rest_same (suc fuel) zero s k r a b h cell = absurd (omega arith)
  rest_same (suc fuel) (suc more) s k r a b h cell =
      ⊎_elim
      (λ own. rest_none g fuel s k r own.0 ∙ sym (rest_none g more s k r own.0))
      (λ rest.
      let l = rest.0 in
      let goes = on_goes s k r h cell l in
      let same = rest_same fuel more (s - g.gap k (on s k r h cell l)) (on s k r h cell l) (r - g.length k) (omega arith) (omega arith) (on_found s k r h cell l) (on_cell s k r h cell l) in
      rest_more g fuel s k r l _ refl ∙ ap (λ rows. on s k r h cell l ∷ rows) same ∙ sym (rest_more g more s k r l _ refl))
      (le_or r (g.length k))

-- no work left: no row is to come
pub rest_done : (g : Graph) (stand : Stand) → stand.work ≡ 0 → rest_of g stand ≡ []
unfolding rest_of
rest_done g stand e = rw (le-leb stand.work 0 (omega arith))

-- ---- as the cells have it

module _ (g : Graph) (sound : Sound g) (cells : List ℕ) (t : ℕ) (table : HasLines g.rows (ByInterval g) cells (t + 1)) where
  -- every cell of the lines is the value of its definition
  cell_is : (s k : ℕ) → s ≤ t → k < g.rows → cell_at g.rows cells s k ≡ best g s k
  cell_is s k l h = best_unique g k s _ _ (table.right s k (omega arith) h) (best_of g sound s k h)

  demand_same : max_below g.rows (cell_at g.rows cells t) ≡ demand_of g t
  unfolding demand_of
  demand_same = max_same g.rows (cell_at g.rows cells t) (best g t) (λ k h. cell_is t k (omega arith) h)

  -- the first row whose cell is the demand is the witness's first row
  first_same : seek g.rows 0 (λ k. eqb (cell_at g.rows cells t k) (max_below g.rows (cell_at g.rows cells t)))
      ≡ seek g.rows 0 (λ k. eqb (best g t k) (demand_of g t))
  first_same =
      seek_same g.rows 0 _ _
      (λ k _ h. rw (demand_same, cell_is t k (omega arith) (omega arith)))

  -- at the start all of the witness is to come
  pub start_rest : rest_of g (start_of g.rows cells t) ≡ witness_of g t
  unfolding start_of rest_of witness_of
  start_rest = rw (first_same, demand_same)

  pub start_stands : Stands g (start_of g.rows cells t)
  unfolding start_of
  start_stands =
      let most : ℕ = max_below g.rows (cell_at g.rows cells t) in
      let test : ℕ → Bool = λ k. eqb (cell_at g.rows cells t k) most in
      let k : ℕ = seek g.rows 0 test in
      let row : 0 < most → k < g.rows = λ p.
      ⊎_elim
      (λ m. omega (arith, m.1, seek_le g.rows 0 test m.0 (omega arith) (eq-eqb _ _ (sym m.2))))
      (λ z. absurd (omega arith))
      (max_at g.rows (cell_at g.rows cells t)) in
      record {
        row_in = row;
        cell = λ p.
            let e : cell_at g.rows cells t k ≡ most = eqb-true _ _ (seek_hit g.rows 0 test (omega (arith, row p))) in
            subst (λ (v : ℕ). IsBestFrom g k t v) e (table.right t k (omega arith) (row p));
      }

  -- a follower leads on in the cells exactly when it does by the definition
  leads_same : (k r j : ℕ) → g.length k < r → j < g.rows → leads (g.gap k) (cell_at g.rows cells) t (r - g.length k) j ≡ goes_on g t k r j
  leads_same k r j more h =
      ⊎_elim
      (λ p.
      ⊎_elim
      (λ q. rw (via_take (g.gap k) (cell_at g.rows cells) t j p.0 q.0, p.1, q.1, cell_is (t - g.gap k j) j (omega arith) h))
      (λ q. rw (via_late (g.gap k) (cell_at g.rows cells) t j q.0, p.1, q.1) nothing)
      (le_or (g.gap k j) t))
      (λ p. rw (via_none (g.gap k) (cell_at g.rows cells) t j (omega (arith, p.0)), p.1) nothing)
      (le_or 1 (g.gap k j))
    where
      nothing : eqb 0 (r - g.length k) ≡ false
      nothing = ne_eqb 0 (r - g.length k) (λ e. omega (arith, e))

-- a row is passed
module _ (g : Graph) (sound : Sound g) (cells : List ℕ) (stand : Stand) (table : HasLines g.rows (ByInterval g) cells (stand.left + 1)) (stands : Stands g stand) (some : 0 < stand.work) where
  -- where the work left is its own, it is the last
  pub passed_last : stand.work ≤ g.length stand.row → Passed g stand stand.row record { row = stand.row; left = stand.left; work = 0 }
  unfolding rest_of
  passed_last l = record {
    row_in = stands.row_in some;
    first = rw (lt-leb stand.work 0 some, rest_none g stand.left stand.left stand.row stand.work l);
    in_time = omega arith;
    stands = record { row_in = λ p. absurd (omega arith); cell = λ p. absurd (omega arith) };
  }

  -- where it is more, the witness goes on
  module _ (l : g.length stand.row < stand.work) where
    j : ℕ
    j = on g sound stand.left stand.row stand.work (stands.row_in some) (stands.cell some) l

    next : Stand
    next = record { row = j; left = stand.left - g.gap stand.row j; work = stand.work - g.length stand.row }

    onward_is : onward_of (g.gap stand.row) cells (g.length stand.row) g.rows stand ≡ next
    unfolding next j on onward_of
    onward_is =
        ap (λ (j : ℕ). record { row = j; left = stand.left - g.gap stand.row j; work = stand.work - g.length stand.row })
        (seek_same g.rows 0 _ _ (λ j _ h. leads_same g sound cells stand.left table stand.row stand.work j l (omega arith)))

    -- to a row of the graph
    pub passed_found : (onward_of (g.gap stand.row) cells (g.length stand.row) g.rows stand).row < g.rows
    unfolding next j
    passed_found = rw onward_is (on_found g sound stand.left stand.row stand.work (stands.row_in some) (stands.cell some) l)

    passed_next : Passed g stand stand.row next
    unfolding next j on rest_of
    passed_next =
        let row = stands.row_in some in
        let cell = stands.cell some in
        let goes = on_goes g sound stand.left stand.row stand.work row cell l in
        let found = on_found g sound stand.left stand.row stand.work row cell l in
        let best = on_cell g sound stand.left stand.row stand.work row cell l in
        record {
          row_in = row;
          first =
              rw (lt-leb stand.work 0 some, lt-leb (stand.work - g.length stand.row) 0 (omega arith))
              (ap (λ (rows : List ℕ). stand.row ∷ rows)
              (rest_more g stand.left stand.left stand.row stand.work l j refl
              ∙ ap (λ (rows : List ℕ). j ∷ rows) (rest_same g sound stand.left (suc next.left) next.left j next.work (omega (arith, goes)) (omega arith) found best)));
          in_time = omega arith;
          stands = record { row_in = λ p. found; cell = λ p. best };
        }

    pub passed_more : Passed g stand stand.row (onward_of (g.gap stand.row) cells (g.length stand.row) g.rows stand)
    passed_more = rw onward_is passed_next
