-- `advance` meets its contract. The tasks passed are done, and the others still wait for the jobs that they had.
use Prim.Native.Nat.{◌+◌}
use lib.ListN.{get_or, set}
use mathlib.Core.Path.{◌≡◌, refl}
use Rattle.std.proofs.Common.{rules}
use Rattle.fields.specs.Values.{no_task}
use Rattle.fields.specs.declared.values.Task.{Task}
use Rattle.overruns.proofs.Releases.{in_place_start, in_place_now, in_place_later}
use Rattle.overruns.proofs.running.Dues.advance.Goals.{then-self-number, else-self-number}
use Rattle.overruns.proofs.running.Dues.advance.Goals as goal

pub loop-number-init : goal.loop-number-init
loop-number-init c = in_place_start _ _ _

pub loop-number-preserved : goal.loop-number-preserved
loop-number-preserved c =
    let l = c.loop-number in
    let task : Task = get_or c.args.tasks.now l.number no_task in
    elim c.if-self-number.branch [
      | then-self-number w ↦
          let a_period_later : c.if-self-number.self.next ≡ set l.self.next l.number (c.args.t + task.period.0) = rw w.self-is refl in
          let its_length_more : c.if-self-number.work ≡ l.work + task.length.0 = w.work-is in
          rw (a_period_later, its_length_more) (in_place_now _ _ _ _ _ _ l.invariant w.if-self-number.true (search rules) (search rules))
      | else-self-number w ↦ rw (w.self-is, w.work-is) (in_place_later _ _ _ _ _ _ l.invariant w.if-self-number.false)
    ]
