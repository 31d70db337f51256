-- A field whose rules are kept has proper values: its numbers are in range, its gaps stand in the file, and it stands above what came before.
use Prim.Native.Nat.{ℕ, ◌+◌, ◌^◌, ◌≤◌, ◌<◌}
use native.Mathlib.Omega.{arith}
use mathlib.Core.Path.{◌≡◌}
use mathlib.Core.Logic.{⊎_elim}
use mathlib.Core.Bool.{true, false}
use mathlib.Core.List.{List}
use lib.Dec.{eqb, ltb}
use lib.ListN.{length}
use borrow.Author.Tests.{leb-false, ltb-false, eqb-true, eqb-false, not-false}
use Rattle.sets.proofs.Bits.{bit_within}
use Rattle.meaning.specs.Demand.{longest_time}
use Rattle.meaning.proofs.Tests.{bool_or}
use Rattle.fields.specs.Deciding.{pick, ◌or◌}
use Rattle.fields.specs.Limits.{row_limit, mode_size}
use Rattle.sheet.specs.Proper.{Bytes, Positive, ProperMode, ProperRow, ProperTask}
use Rattle.fields.specs.Reading.{word_at, long_at, ticks_at, mode_at, row_at, task_at}
use Rattle.rules.specs.Rules.{unlike_set, no_ticks, bad_fallback, last_hangs, mode_rules, row_rules, task_rules}
use Rattle.sheet.specs.Content.{row_gap_rules}
use Rattle.fields.specs.declared.values.Mode.{Mode}
use Rattle.fields.specs.declared.values.Row.{Row}
use Rattle.fields.specs.declared.values.Tally.{Tally}
use Rattle.fields.proofs.Deciding.{Kept, neither}
use Rattle.sheet.proofs.KeptRules.{rpm_kept, ticks_kept, gaps_kept}
use Rattle.sheet.proofs.Numbered.{row_length}

-- a mode is above those before it
pub mode_rises : (tally : Tally) (mode : Mode) (size : ℕ) → Kept (mode_rules tally mode size) → tally.top.0 < mode.boundary.0
unfolding mode_rules
mode_rises tally mode size k = leb-false _ _ k.1.1.1.0

-- its fall-back is its boundary or is judged: it is no higher than the boundary, and no lower than the one before
pub fallback_kept : (bytes : List ℕ) (tally : Tally) (start size : ℕ) → let mode = mode_at bytes start size in
    Kept (mode_rules tally mode size) → (1 ≤ mode.fallback.0) × (mode.fallback.0 ≤ mode.boundary.0) × (tally.top.0 ≤ mode.fallback.0)
unfolding mode_rules bad_fallback pick
fallback_kept bytes tally start size k =
    let rises = mode_rises tally (mode_at bytes start size) size k in
    ⊎_elim
    (λ (e : eqb size mode_size ≡ true). rw e (omega arith, omega arith, omega arith))
    (λ (e : eqb size mode_size ≡ false).
    let fallback = word_at bytes (start + mode_size) in
    let judged = neither (eqb fallback 0) (ltb (word_at bytes start) fallback or ltb fallback tally.top.0) (rw e at k.1.1.0) in
    let within = neither (ltb (word_at bytes start) fallback) (ltb fallback tally.top.0) judged.1 in
    let some : fallback ≡ 0 → ⊥ = eqb-false fallback 0 judged.0 in
    rw e (omega arith, ltb-false _ _ within.0, ltb-false _ _ within.1))
    (bool_or (eqb size mode_size))

module _ (bytes : List ℕ) (fit : Bytes bytes) where
  word_most : (at : ℕ) → word_at bytes at ≤ longest_time
  word_most at = omega (arith, fit at, fit (at + 1))

  -- a set of the file has no row from `row_limit` on
  long_narrow : (at : ℕ) → long_at bytes at < 2 ^ row_limit
  long_narrow at = omega (arith, word_most at, word_most (at + 2))

  ticks_positive : (at : ℕ) → no_ticks (ticks_at bytes at) ≡ false → Positive (ticks_at bytes at)
  ticks_positive at e = (ticks_kept (ticks_at bytes at) e, word_most at)

  pub mode_proper : (tally : Tally) (start size : ℕ) → Kept (mode_rules tally (mode_at bytes start size) size) → ProperMode (mode_at bytes start size)
  unfolding mode_rules
  mode_proper tally start size k =
      let boundary = rpm_kept _ k.0 in
      let fallback = fallback_kept bytes tally start size k in
      record {
        boundary = boundary;
        length = ticks_positive _ k.1.0;
        fallback = (fallback.0, omega arith);
        fallback_most = fallback.1;
      }

  pub row_proper : (tally : Tally) (start size : ℕ) → start + size ≤ length bytes → unlike_set size (row_at bytes start).followers ≡ false → Kept (row_gap_rules bytes tally (row_at bytes start))
      → ProperRow bytes row_limit (row_at bytes start)
  unfolding row_gap_rules row_rules
  row_proper tally start size inside right k =
      record {
        speed = rpm_kept _ k.1.0;
        deadline = ticks_positive _ k.1.1.0;
        gaps_inside = omega (arith, row_length _ _ right);
        gap_least = λ i h. gaps_kept bytes _ _ _ k.1.1.1.1.1.1.0 i h;
        gap_most = λ i h. word_most _;
        followers_exist = λ j set. bit_within row_limit _ j (long_narrow (start + 4)) set;
      }

  pub task_proper : (start size : ℕ) → Kept (task_rules (task_at bytes start size)) → ProperTask (task_at bytes start size)
  unfolding task_rules
  task_proper start size k =
      record {
        length = ticks_positive _ k.0;
        period = ticks_positive _ k.1.0;
        deadline = ticks_positive _ k.1.1.0;
        jitter = leb-false _ _ k.1.1.1.0;
      }

-- a row is above those before it and not above the last mode
pub row_rises : (bytes : List ℕ) (tally : Tally) (row : Row) → Kept (row_gap_rules bytes tally row) → (tally.fastest.0 < row.speed.0) × (row.speed.0 ≤ tally.top.0)
unfolding row_gap_rules row_rules
row_rises bytes tally row k = (leb-false _ _ k.1.1.1.1.0, ltb-false _ _ k.1.1.1.1.1.0)

-- and the last mode, which is known with the first row, has no band
pub last_kept : (bytes : List ℕ) (tally : Tally) (row : Row) → Kept (row_gap_rules bytes tally row) → tally.fallback.0 ≡ tally.top.0
unfolding row_gap_rules row_rules last_hangs
last_kept bytes tally row k = eqb-true _ _ (not-false _ k.0)
