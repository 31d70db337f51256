-- `job_lengths` meets its contract. The rows passed have their lengths.
use Prim.Native.Nat.{ℕ}
use lib.ListN.{get_or, take}
use mathlib.Core.List.{List}
use mathlib.Core.Path.{◌≡◌, ap, sym, ◌∙◌}
use native.Mathlib.Omega.{arith}
use Rattle.fields.specs.Reading.{rpm_at}
use Rattle.fields.specs.declared.units.Ticks.{Ticks}
use Rattle.fields.specs.declared.values.Row.{Row}
use Rattle.modes.specs.Modes.{job_length}
use Rattle.sheet.specs.Judging.{judged}
use Rattle.sheet.specs.Meaning.{modes_in}
use Rattle.sheet.specs.Outline.{Handed}
use Rattle.sheet.specs.declared.Head.{Head}
use Rattle.tables.proofs.Storing.{stored_more}
use Rattle.tables.proofs.interval.job_lengths.Goals as goal

-- the head has as many rows as the sheet
same-rows : (bytes : List ℕ) (head : Head) (places : List ℕ) → Handed bytes head places → head.tally.rows ≡ (judged bytes).sheet.tally.rows
same-rows bytes head places handed = ap (λ (h : Head). h.tally.rows) handed.same

-- no accepted sheet is without modes
pub returns-then-tally-eq0 : goal.returns-then-tally-eq0
returns-then-tally-eq0 c =
    absurd (omega (arith, ap (λ (head : Head). head.tally.modes) c.requires.same, c.requires.ready.proper.modes_some, c.if-tally-eq0.true))

pub row_at-row-requires : goal.row_at-row-requires
row_at-row-requires c = c.requires.rows.inside _ (omega (arith, same-rows _ _ _ c.requires))

pub loop-number-preserved : goal.loop-number-preserved
loop-number-preserved c =
    let h = c.args.head in
    stored_more _ _ _ _ _ c.loop-number.invariant (omega (arith, same-rows _ _ _ c.requires, c.requires.rows.most))
    (ap (λ (time : Ticks). time.0) c.job_length.ensures ∙ ap (λ (row : Row). (job_length (take h.tally.modes h.modes) row.speed).0) c.row_at-row.ensures)

pub returns : goal.returns
returns c =
    let sheet = (judged c.args.bytes.now).sheet in
    let handed = c.requires in
    let same = same-rows _ _ _ c.requires in
    record {
      ready = handed.ready;
      rows = same;
      row = λ k h. handed.rows.each k (omega (arith, same));
      inside = λ k h. handed.rows.inside k (omega (arith, same));
      length = λ k h.
          let speed = rpm_at c.args.bytes.now (get_or c.args.places.now k 0) in
          c.loop-number.invariant.right k (omega arith)
          ∙ ap (λ (head : Head). (job_length (take head.tally.modes head.modes) speed).0) handed.same
          ∙ sym (ap (λ (row : Row). (job_length (modes_in sheet) row.speed).0) (handed.rows.each k (omega (arith, same))));
    }
