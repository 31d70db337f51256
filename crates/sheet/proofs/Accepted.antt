-- Every accepted sheet is proper: each field keeps what holds of the sheet so far, and the end field's rules add what is said of the whole.
use Prim.Native.Nat.{ℕ, ◌+◌, ◌-◌, ◌≤◌, ◌<◌}
use native.Mathlib.Omega.{arith}
use native.Mathlib.Nat.{eq-zero-or-pos}
use mathlib.Core.Path.{◌≡◌, refl, ap}
use mathlib.Core.Logic.{⊎_elim}
use mathlib.Core.Bool.{false}
use mathlib.Core.List.{List}
use lib.ListN.{length, get_or}
use Rattle.fields.specs.Fields.{line_of, fields}
use Rattle.fields.specs.Limits.{mode_limit, row_limit, task_limit}
use Rattle.sheet.specs.Proper.{Bytes, ProperMode, ProperRow, ProperTask, Proper}
use Rattle.rules.specs.Rules.{unknown_follower}
use Rattle.fields.specs.Reading.{mode_at}
use Rattle.fields.specs.Values.{empty_sheet, no_mode, no_row, no_task}
use Rattle.sheet.specs.Judging.{refusal, judged}
use Rattle.sheet.specs.Answer.{Accepted}
use Rattle.sheet.specs.Answer.{Judged}
use Rattle.fields.specs.declared.values.Mode.{Mode}
use Rattle.fields.specs.declared.values.Sheet.{Sheet}
use Rattle.sheet.proofs.Growing.{Held, Rising, held_none, rising_none, pairs_more, last_new, held_more, rising_more}
use Rattle.sheet.proofs.Keeping.{Keeps, judged_keeps}
use Rattle.sheet.proofs.KeptRules.{order_kept, followers_kept}
use Rattle.sheet.proofs.Numbered.{common_says}
use Rattle.sheet.proofs.Walking.{field_in}
use Rattle.sheet.proofs.ProperFields.{mode_proper, row_proper, task_proper, mode_rises, fallback_kept, row_rises, last_kept}

-- a mode's fall-back is no lower than the boundary before
abbrev NoLower : Mode → Mode → Type 0
NoLower one next = one.boundary.0 ≤ next.fallback.0

-- the sheet so far
record SoFar (bytes : List ℕ) (sheet : Sheet) : Type 0 where
  label_inside : sheet.label.start + sheet.label.size ≤ length bytes
  modes : Held no_mode mode_limit ProperMode sheet.modes sheet.tally.modes
  rows : Held no_row row_limit (ProperRow bytes row_limit) sheet.rows sheet.tally.rows
  tasks : Held no_task task_limit ProperTask sheet.tasks sheet.tally.tasks
  boundaries : Rising no_mode (λ mode. mode.boundary.0) sheet.modes sheet.tally.modes sheet.tally.top.0
  speeds : Rising no_row (λ row. row.speed.0) sheet.rows sheet.tally.rows sheet.tally.fastest.0
  fallbacks : (k : ℕ) → k + 1 < sheet.tally.modes → NoLower (get_or sheet.modes k no_mode) (get_or sheet.modes (k + 1) no_mode)
  last_fallback : (k : ℕ) → k + 1 ≡ sheet.tally.modes → (get_or sheet.modes k no_mode).fallback.0 ≡ sheet.tally.fallback.0
  last_plain : 3 ≤ sheet.tally.last → sheet.tally.fallback.0 ≡ sheet.tally.top.0
  speeds_within : sheet.tally.fastest.0 ≤ sheet.tally.top.0
  rows_some : 3 ≤ sheet.tally.last → 1 ≤ sheet.tally.rows

-- the end field: a row was seen, and every follower is a row
whole : (bytes : List ℕ) (sheet : Sheet) → SoFar bytes sheet → 3 ≤ sheet.tally.last → unknown_follower sheet.rows sheet.tally.rows ≡ false → Proper bytes sheet
whole bytes sheet g seen followers =
    let some : 1 ≤ sheet.tally.rows = g.rows_some seen in
    let top : 1 ≤ sheet.tally.top.0 = omega (arith, (g.rows.each 0 some).speed, g.speeds.most 0 some) in
    let modes : 1 ≤ sheet.tally.modes = ⊎_elim (λ e. absurd (omega (arith, g.boundaries.starts e))) (λ l. l) (eq-zero-or-pos sheet.tally.modes) in
    record {
      label_inside = g.label_inside;
      modes_some = modes;
      modes_most = g.modes.most;
      rows_some = some;
      rows_most = g.rows.most;
      tasks_most = g.tasks.most;
      each_mode = g.modes.each;
      each_row = λ k h.
          let row = g.rows.each k h in
          record {
            speed = row.speed;
            deadline = row.deadline;
            gaps_inside = row.gaps_inside;
            gap_least = row.gap_least;
            gap_most = row.gap_most;
            followers_exist = λ j set. followers_kept sheet.rows sheet.tally.rows followers k h j (omega (arith, row.followers_exist j set)) set;
          };
      each_task = g.tasks.each;
      boundaries_rise = g.boundaries.rise;
      fallbacks_least = g.fallbacks;
      last_fallback = omega (arith, g.last_fallback (sheet.tally.modes - 1) (omega arith), g.last_plain seen, g.boundaries.ends (sheet.tally.modes - 1) (omega arith));
      speeds_rise = g.speeds.rise;
      speeds_within = λ k h. omega (arith, g.speeds.most k h, g.boundaries.ends (sheet.tally.modes - 1) (omega arith));
    }

module _ (bytes : List ℕ) (fit : Bytes bytes) where
  nothing_read : SoFar bytes empty_sheet
  unfolding empty_sheet
  nothing_read =
      record {
        label_inside = omega arith;
        modes = held_none no_mode mode_limit ProperMode;
        rows = held_none no_row row_limit (ProperRow bytes row_limit);
        tasks = held_none no_task task_limit ProperTask;
        boundaries = rising_none no_mode _ _;
        fallbacks = λ k h. absurd (omega arith);
        last_fallback = λ k e. absurd (omega arith);
        last_plain = λ h. absurd (omega arith);
        speeds = rising_none no_row _ _;
        speeds_within = omega arith;
        rows_some = λ h. absurd (omega arith);
      }

  abbrev Answers : Judged → Type 0
  Answers answer = answer.answer ≡ Accepted → Proper bytes answer.sheet

  sheet_keeps : Keeps bytes (λ _ sheet. SoFar bytes sheet) Answers
  unfolding refusal line_of fields
  sheet_keeps =
      record {
        none = nothing_read;
        refused = λ n place o inside e. let z : ◌≡◌ {A = ℕ} 0 1 = cc in absurd (omega arith);
        label = λ sheet at start size next e g common own.
            record {
              label_inside = omega (arith, field_in bytes at _ start size next e);
              modes = g.modes;
              rows = g.rows;
              tasks = g.tasks;
              boundaries = g.boundaries;
              fallbacks = g.fallbacks;
              last_fallback = g.last_fallback;
              last_plain = λ h. absurd (omega arith);
              speeds = g.speeds;
              speeds_within = g.speeds_within;
              rows_some = λ h. absurd (omega arith);
            };
        mode = λ sheet at start size next e g common own.
            let free : sheet.tally.modes < length sheet.modes = omega (arith, common_says _ _ _ _ _ common, g.modes.room) in
            let rises = mode_rises sheet.tally _ size own in
            let fallback = fallback_kept bytes sheet.tally start size own in
            record {
              label_inside = g.label_inside;
              modes = held_more no_mode _ _ _ free mode_limit ProperMode (mode_proper bytes fit sheet.tally start size own) g.modes;
              rows = g.rows;
              tasks = g.tasks;
              boundaries = rising_more no_mode _ _ _ free _ _ rises g.boundaries;
              fallbacks = pairs_more no_mode sheet.modes sheet.tally.modes (mode_at bytes start size) free NoLower (λ k e. omega (arith, fallback, g.boundaries.ends k e)) g.fallbacks;
              last_fallback = λ k e. ap (λ mode. mode.fallback.0) (last_new no_mode sheet.modes sheet.tally.modes (mode_at bytes start size) free k e);
              last_plain = λ h. absurd (omega arith);
              speeds = g.speeds;
              speeds_within = omega (arith, rises);
              rows_some = λ h. absurd (omega arith);
            };
        row = λ sheet at start size next e g common own.
            let says = common_says _ _ _ _ _ common in
            let free : sheet.tally.rows < length sheet.rows = omega (arith, g.rows.room) in
            let rises = row_rises _ _ _ own in
            let proper = row_proper bytes fit _ _ _ (omega (arith, field_in bytes at _ start size next e)) says.2 own in
            record {
              label_inside = g.label_inside;
              modes = g.modes;
              rows = held_more no_row _ _ _ free row_limit (ProperRow bytes row_limit) proper g.rows;
              tasks = g.tasks;
              boundaries = g.boundaries;
              fallbacks = g.fallbacks;
              last_fallback = g.last_fallback;
              last_plain = λ h. last_kept bytes _ _ own;
              speeds = rising_more no_row _ _ _ free _ _ rises.0 g.speeds;
              speeds_within = rises.1;
              rows_some = λ h. omega arith;
            };
        task = λ sheet at start size next e g common own.
            let says = common_says _ _ _ _ _ common in
            let free : sheet.tally.tasks < length sheet.tasks = omega (arith, g.tasks.room) in
            record {
              label_inside = g.label_inside;
              modes = g.modes;
              rows = g.rows;
              tasks = held_more no_task _ _ _ free task_limit ProperTask (task_proper bytes fit start size own) g.tasks;
              boundaries = g.boundaries;
              fallbacks = g.fallbacks;
              last_fallback = g.last_fallback;
              last_plain = λ h. g.last_plain (order_kept _ 4 3 says.0 refl (omega arith));
              speeds = g.speeds;
              speeds_within = g.speeds_within;
              rows_some = λ h. g.rows_some (order_kept _ 4 3 says.0 refl (omega arith));
            };
        skipped = λ sheet at start size next e g. g;
        accepted = λ sheet at start size next e g order long followers end a. whole bytes sheet g (order_kept _ 5 3 order refl (omega arith)) followers;
      }

  pub accepted_proper : (judged bytes).answer ≡ Accepted → Proper bytes (judged bytes).sheet
  accepted_proper = judged_keeps bytes (λ _ sheet. SoFar bytes sheet) Answers sheet_keeps
