-- `label` meets its contract: the judged label lies in the file, so that part of the bytes can be handed out.
use mathlib.Core.Path.{◌≡◌, ◌∙◌, refl, ap}
use Prim.Native.Nat.{ℕ, ◌+◌, ◌≤◌}
use native.Mathlib.Omega.{arith}
use native.Mathlib.Nat.{add_comm, add-sub_cancel_left}
use lib.ListN.{length, take, drop}
use Rattle.sheet.specs.Judging.{judged}
use Rattle.sheet.proofs.LabelInside.{label_inside, label_given, label_refused}
use Rattle.sheet.proofs.label.Goals as goal
use Rattle.sheet.proofs.label.Goals.{in-Ok, in-Err}

pub overflow_add-result : goal.overflow_add-result
overflow_add-result c =
    let same : c.match-outline_of.part ≡ (judged c.args.bytes.now).sheet.label = elim c.match-outline_of.branch [ in-Ok w ↦ w.part-is ∙ label_given _ _ _ w.in-Ok.ensures | in-Err w ↦ w.part-is ∙ label_refused _ _ _ w.in-Err.ensures ] in
    let within : c.match-outline_of.part.start + c.match-outline_of.part.size ≤ length c.args.bytes.now = rw same (label_inside c.args.bytes.now) in omega (arith, within)

pub slice_bounds-result-end : goal.slice_bounds-result-end
slice_bounds-result-end c =
    let same : c.match-outline_of.part ≡ (judged c.args.bytes.now).sheet.label = elim c.match-outline_of.branch [ in-Ok w ↦ w.part-is ∙ label_given _ _ _ w.in-Ok.ensures | in-Err w ↦ w.part-is ∙ label_refused _ _ _ w.in-Err.ensures ] in
    let within : c.match-outline_of.part.start + c.match-outline_of.part.size ≤ length c.args.bytes.now = rw same (label_inside c.args.bytes.now) in omega (arith, within)

pub returns : goal.returns
returns c =
    let same : c.match-outline_of.part ≡ (judged c.args.bytes.now).sheet.label = elim c.match-outline_of.branch [ in-Ok w ↦ w.part-is ∙ label_given _ _ _ w.in-Ok.ensures | in-Err w ↦ w.part-is ∙ label_refused _ _ _ w.in-Err.ensures ] in
    let bytes = c.args.bytes in
    let label = c.match-outline_of.part in (
      refl,
      rw (← same) (add_comm label.start bytes.ref_ptr.1),
      rw (← same) (ap (λ (size : ℕ). take size (drop label.start bytes.now)) (add-sub_cancel_left label.start label.size)),
    )
