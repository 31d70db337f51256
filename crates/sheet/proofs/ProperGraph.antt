-- The graph of a proper sheet: it is sound, and every time of it is in range.
use Prim.Native.Nat.{ℕ, ◌-◌, ◌≤◌, ◌<◌}
use native.Mathlib.Omega.{arith}
use mathlib.Core.Path.{◌≡◌}
use mathlib.Core.Logic.{◌⊎◌, inl, inr, ⊎_elim}
use mathlib.Core.List.{List}
use lib.ListN.{length, take}
use lib.Seq.{get_or-take}
use Rattle.sets.specs.Sets.{member}
use Rattle.sets.proofs.Bits.{member_true}
use Rattle.sets.proofs.Counts.{below_lt}
use Rattle.meaning.specs.Demand.{longest_time}
use Rattle.meaning.specs.Graph.{Sound}
use Rattle.meaning.proofs.Tests.{bool_or}
use Rattle.fields.specs.Deciding.{pick}
use Rattle.sheet.specs.Meaning.{row_of, length_of, gap_of, graph_of}
use Rattle.sheet.specs.Proper.{Positive, ProperMode, Proper}
use Rattle.fields.specs.Values.{no_mode}
use Rattle.fields.specs.declared.values.Sheet.{Sheet}
use Rattle.modes.proofs.Among.{job_length_of}
use Rattle.sheet.proofs.Growing.{all_there}

module _ (bytes : List ℕ) (sheet : Sheet) (proper : Proper bytes sheet) where
  -- every row's speed has a mode, and so a length in range
  pub length_proper : (k : ℕ) → k < sheet.tally.rows → (1 ≤ length_of sheet k) × (length_of sheet k ≤ longest_time)
  length_proper k h =
      let count = sheet.tally.modes in
      let there : length (take count sheet.modes) ≡ count =
      all_there no_mode ProperMode sheet.modes count (λ (p : ProperMode no_mode). omega (arith, p.boundary)) proper.each_mode in
      let same = get_or-take count sheet.modes in
      job_length_of Positive (take count sheet.modes) (row_of sheet k).speed
      (λ i l. let b : i < count = omega (arith, there) in rw (same i no_mode b) (proper.each_mode i b).length)
      (count - 1)
      (omega (arith, there, proper.modes_some))
      (rw (same (count - 1) no_mode (omega (arith, proper.modes_some))) (proper.speeds_within k h))

  -- the gap to a row is 0 where it may not follow, and else no shorter than the deadline
  gap_proper : (k j : ℕ) → k < sheet.tally.rows
      → (gap_of bytes (row_of sheet k) j ≡ 0) ⊎ (((row_of sheet k).deadline.0 ≤ gap_of bytes (row_of sheet k) j) × (gap_of bytes (row_of sheet k) j ≤ longest_time))
  unfolding pick
  gap_proper k j h =
      let row = row_of sheet k in
      let good = proper.each_row k h in
      ⊎_elim
      (λ e.
      let set = member_true row.followers j e in
      let place = below_lt 64 row.followers j set (omega (arith, good.followers_exist j set, proper.rows_most)) in
      inr (rw e (good.gap_least _ place, good.gap_most _ place)))
      (λ e. inl (rw e))
      (bool_or (member row.followers j))

  pub proper_sound : Sound (graph_of bytes sheet)
  unfolding graph_of
  proper_sound =
      record {
        length_positive = λ k h. (length_proper k h).0;
        deadline_positive = λ k h. (proper.each_row k h).deadline.0;
        gap_at_least_deadline = λ k j h l some. ⊎_elim (λ e. absurd (omega arith)) (λ p. p.0) (gap_proper k j h);
      }

  pub length_most : (k : ℕ) → k < (graph_of bytes sheet).rows → (graph_of bytes sheet).length k ≤ longest_time
  unfolding graph_of
  length_most k h = (length_proper k h).1

  pub deadline_most : (k : ℕ) → k < (graph_of bytes sheet).rows → (graph_of bytes sheet).deadline k ≤ longest_time
  unfolding graph_of
  deadline_most k h = (proper.each_row k h).deadline.1

  pub gap_most : (k j : ℕ) → k < (graph_of bytes sheet).rows → (graph_of bytes sheet).gap k j ≤ longest_time
  unfolding graph_of
  gap_most k j h = ⊎_elim (λ e. omega arith) (λ p. p.1) (gap_proper k j h)
