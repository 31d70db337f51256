-- `put_modes` meets its contract: each turn writes the mode of its number behind those before it.
use Rattle.putting.proofs.Standing.{next_room, next_standing, all_standing}
use Rattle.putting.proofs.UnbrokenColumns.{mode_there, mode_first, modes_over}
use Rattle.putting.proofs.kinds.put_modes.Goals as goal

pub bounds-modes-number-in-loop-number : goal.bounds-modes-number-in-loop-number
bounds-modes-number-in-loop-number c = (mode_there c.args.modes _ c.loop-number.invariant.unbroken c.loop-number-test.true).0

pub bounds-modes-number-in-loop-number-2 : goal.bounds-modes-number-in-loop-number-2
bounds-modes-number-in-loop-number-2 c = (mode_there c.args.modes _ c.loop-number.invariant.unbroken c.loop-number-test.true).1

pub put_mode-at-requires : goal.put_mode-at-requires
put_mode-at-requires c =
    let l = c.loop-number in
    next_room l.invariant (mode_first c.args.modes _ l.invariant.unbroken c.loop-number-test.true) l.auto.out c.requires.room

pub loop-number-preserved : goal.loop-number-preserved
loop-number-preserved c =
    let l = c.loop-number in
    let call = c.put_mode-at in
    next_standing l.invariant (mode_first c.args.modes _ l.invariant.unbroken c.loop-number-test.true) call.result call.new.out call.ensures.size call.ensures.put

pub returns : goal.returns
returns c =
    let all = all_standing c.loop-number.invariant (modes_over c.args.modes _ c.loop-number.invariant.unbroken c.loop-number-test.false) in
    record { size = all.far; put = all.put }
