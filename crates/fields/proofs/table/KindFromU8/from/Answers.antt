-- `Kind::from` says what kind of field a tag begins: each arm of the match is one line of the definition.
use Rattle.fields.proofs.Deciding.{judging}
use Rattle.fields.specs.Deciding.{pick}
use Rattle.fields.proofs.table.KindFromU8.from.Goals as goal

pub returns-in-2 : goal.returns-in-2
unfolding pick
returns-in-2 c = rw c.in-2.is

pub returns-in-3 : goal.returns-in-3
unfolding pick
returns-in-3 c = rw c.in-3.is

pub returns-in-4 : goal.returns-in-4
unfolding pick
returns-in-4 c = rw c.in-4.is

pub returns-in-5 : goal.returns-in-5
unfolding pick
returns-in-5 c = rw c.in-5.is

pub returns-in-1 : goal.returns-in-1
returns-in-1 c = search judging

pub returns-in-128-to-255 : goal.returns-in-128-to-255
returns-in-128-to-255 c = search judging depth 9

pub returns-in-0 : goal.returns-in-0
unfolding pick
returns-in-0 c = rw c.in-0.in-0-own.keys6

pub returns-in-0-2 : goal.returns-in-0-2
returns-in-0-2 c = search judging depth 9
