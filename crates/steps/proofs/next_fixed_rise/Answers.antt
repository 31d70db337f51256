-- `next_fixed_rise` meets its contract: what it has so far is where the demand of the tasks passed rises next.
use Prim.Native.Nat.{◌-◌}
use lib.ListN.{get_or, take}
use mathlib.Core.Path.{◌≡◌, refl, sym}
use native.Mathlib.Omega.{arith}
use Rattle.meaning.specs.Fixed.{fixed_of, fixed_sum}
use Rattle.meaning.proofs.FixedTasks.{fixed_grows, fixed_sum_grows}
use Rattle.fields.specs.Values.{no_task}
use Rattle.sheet.specs.Meaning.{times_of}
use Rattle.overruns.specs.Releases.{counted_tasks}
use Rattle.overruns.proofs.ProperTasks.{sum_more, sum_all}
use Rattle.steps.proofs.Rising.{never_rises, rises_alike, sum_rises}
use Rattle.steps.proofs.next_fixed_rise.Goals as goal

pub loop-number-init : goal.loop-number-init
unfolding fixed_sum
loop-number-init c = never_rises _ _ _ c.requires.from_inside.1 (λ t. refl)

pub loop-number-preserved : goal.loop-number-preserved
loop-number-preserved c =
    let l = c.loop-number in
    let tasks = c.args.tasks.now in
    let task = times_of (get_or tasks.tasks l.number no_task) in
    rises_alike _ _ (λ t. sum_more _ _ tasks.proper l.number t c.loop-number-test.true) _ _ _
    (rw c.min-next.ensures
    (sum_rises (fixed_sum (take l.number (counted_tasks tasks.tasks tasks.count))) (fixed_of task)
    (λ t. fixed_sum_grows (t - 1) t (omega arith) _) (λ t. fixed_grows (t - 1) t (omega arith) task) _ _ _ _ l.invariant (rw c.task.ensures at c.next_due.ensures)))

pub returns : goal.returns
returns c =
    let tasks = c.args.tasks.now in
    let all : c.loop-number.number ≡ tasks.count = omega arith in
    rises_alike _ _ (λ t. sym (sum_all _ _ tasks.proper t)) _ _ _ (rw all at c.loop-number.invariant)
