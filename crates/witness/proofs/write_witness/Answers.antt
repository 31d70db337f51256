-- `write_witness` meets its contract. The rows passed are written, and the others are to come.
use lib.ListN.{length, length-append}
use mathlib.Core.List.{List, [], ◌∷◌, ◌++◌, append_assoc}
use mathlib.Core.Path.{sym, ap, ◌∙◌}
use Prim.Native.Nat.{ℕ}
use native.Mathlib.Omega.{arith}
use Rattle.witness.proofs.Steps.{starts, graph_few}
use Rattle.witness.proofs.Writing.{written_none, written_more}
use Rattle.witness.proofs.write_witness.Goals as goal

pub loop-row-init : goal.loop-row-init
loop-row-init c =
    let begun = starts c.args.rows.now c.args.cells.now c.args.t c.requires.has_lines _ c.start-stand.ensures in
    record { in_time = begun.0; stands = begun.1; before = []; whole = begun.2; written = written_none _ }

pub overflow_cast-area : goal.overflow_cast-area
overflow_cast-area c = omega (arith, c.in-Some.ensures.row_in, graph_few c.args.rows.now)

pub loop-row-preserved : goal.loop-row-preserved
loop-row-preserved c =
    let passed = c.in-Some.ensures in
    let way = c.loop-row.invariant in
    let row = c.in-Some.row in
    let whole = ap (λ (rest : List ℕ). way.before ++ rest) (sym passed.first) ∙ way.whole in
    record {
      in_time = omega (arith, way.in_time, passed.in_time);
      stands = passed.stands;
      before = way.before ++ row ∷ [];
      whole = append_assoc way.before (row ∷ []) _ ∙ whole;
      written = written_more _ _ _ _ way.written row (omega (arith, ap length whole, length-append {A = ℕ}, c.requires.room));
    }
