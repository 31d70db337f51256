-- `put_numbers` meets its contract. The numbers passed stand at the front of the output, and behind them it is as it was.
use Rattle.std.proofs.Common.{◌≡◌, ℕ, ◌+◌, ◌*◌, ◌<◌, List, [], ◌∷◌, ◌++◌, length, get_or, take, refl, add-one, arith}
use Rattle.std.proofs.Math.Seq.{take-suc, length-take-le}
use Rattle.written.specs.Written.{words}
use Rattle.written.proofs.EntryFields.{words_length, words_append}
use Rattle.putting.proofs.Behind.{put_behind}
use Rattle.putting.proofs.pieces.put_numbers.Goals as goal

-- one number more
further : (numbers : List ℕ) (at : ℕ) → at < length numbers → words (take at numbers) ++ words (get_or numbers at 0 ∷ []) ≡ words (take (at + 1) numbers)
further numbers at inside = rw (add-one, take-suc numbers at 0, words_append) refl

pub loop-at-preserved : goal.loop-at-preserved
loop-at-preserved c =
    let l = c.loop-at in
    let numbers = c.args.numbers.now in
    let done = words (take l.at numbers) in
    let inside : l.at < length numbers = omega arith in
    let far : 2 * l.at ≡ length done = omega (arith, words_length (take l.at numbers), length-take-le l.at numbers (omega arith)) in
    rw (← further numbers l.at inside) (put_behind (2 * l.at) done _ c.args.out.now l.out c.put_number.new.out far l.invariant c.put_number.ensures)
