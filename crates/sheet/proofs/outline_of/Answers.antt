-- `outline_of` meets its contract. The loop walks as the definition does: what is left of the file, from where it stands and with the sheet so far, decides as the whole file does. Of that sheet it has the head, and its rows stand at the places kept.
use Prim.Native.Nat.{◌+◌, ◌-◌}
use Rattle.std.proofs.lemmas.Result.{err_from_is_err_and}
use Rattle.fields.specs.Fields.{is_end}
use Rattle.fields.specs.Values.{empty_sheet}
use Rattle.fields.proofs.Deciding.{end_kind, told}
use Rattle.sheet.proofs.Numbered.{first_kept, row_fits}
use Rattle.sheet.proofs.Outlining.{field_grown, is_row_lem, rows_from_lem, stand_none, field_stands, places_length, outlined_refused, outlined_end}
use Rattle.sheet.proofs.Walking.{field_in, walk_refused, walk_broken, walk_end, walk_on}
use Rattle.sheet.specs.Judging.{with_field, judged, walk}
use Rattle.sheet.specs.Outline.{sheet_from, places_with, RowsAt}
use lib.ListN.{length}
use mathlib.Core.Bool.{true, false}
use mathlib.Core.Path.{◌≡◌, ◌∙◌, refl, sym, ap, subst}
use native.Mathlib.Omega.{arith}
use Rattle.sheet.proofs.outline_of.Goals as goal

pub loop-field-init : goal.loop-field-init
unfolding judged
loop-field-init c =
    let l = length c.args.bytes.now in
    (l + 1, empty_sheet.rows, omega arith, omega arith, rw c.empty-head.ensures refl, rw c.empty-head.ensures (stand_none _ _), omega arith)

pub returns-in_err-field : goal.returns-in_err-field
returns-in_err-field c =
    let l = c.loop-field.invariant in
    let refused = err_from_is_err_and c.from_residual.result c.from_residual.ensures.1 in
    rw (refused.1, refused.2) (outlined_refused _ _ _ _ _ (l.4 ∙ walk_refused _ _ _ _ (omega arith) _ (sym c.in_err-field.ensures)) refl)

pub judge_field-requires : goal.judge_field-requires
judge_field-requires c =
    let field = c.in_ok-field.field in
    omega (arith, field_in c.args.bytes.now c.loop-field.at field.kind field.start field.size field.next (sym c.in_ok-field.ensures))

pub returns-in-Err : goal.returns-in-Err
returns-in-Err c =
    let l = c.loop-field.invariant in
    outlined_refused _ _ _ _ _ (l.4 ∙ walk_broken _ _ _ _ (omega arith) _ (sym c.in_ok-field.ensures) _ c.in-Err.ensures) refl

pub returns-then-eq : goal.returns-then-eq
returns-then-eq c =
    let l = c.loop-field.invariant in
    let last : is_end c.in_ok-field.field.kind ≡ true = sym (end_kind _) ∙ told _ _ _ c.eq.ensures c.if-eq.true in
    outlined_end _ _ _ _ _ _
    (l.4 ∙ walk_end _ _ _ _ (omega arith) _ (sym c.in_ok-field.ensures) (sym c.in_default.ensures) last)
    (c.outline_end.ensures l.1 (rows_from_lem _ _ _ l.5))
    l.5

pub keep_place-requires : goal.keep_place-requires
keep_place-requires c row = (row_fits _ _ _ _ _ (is_row_lem _ row) (first_kept _ _ _ _ _ (sym c.in_default.ensures))).2

pub with_field-head-requires-clause-inside : goal.with_field-head-requires-clause-inside
with_field-head-requires-clause-inside c =
    let field = c.in_ok-field.field in
    omega (arith, field_in c.args.bytes.now c.loop-field.at field.kind field.start field.size field.next (sym c.in_ok-field.ensures))

pub loop-field-smaller : goal.loop-field-smaller
loop-field-smaller c =
    let field = c.in_ok-field.field in
    omega (arith, field_in c.args.bytes.now c.loop-field.at field.kind field.start field.size field.next (sym c.in_ok-field.ensures))

pub loop-field-preserved : goal.loop-field-preserved
loop-field-preserved c =
    let o = c.loop-field in
    let l = o.invariant in
    let bytes = c.args.bytes.now in
    let field = c.in_ok-field.field in
    let here = sym c.in_ok-field.ensures in
    let none = sym c.in_default.ensures in
    let lies = field_in bytes o.at field.kind field.start field.size field.next here in
    let sheet = with_field bytes (sheet_from o.head l.1) field.kind field.start field.size in
    let not_last : is_end field.kind ≡ false = sym (end_kind _) ∙ told _ _ _ c.eq.ensures c.if-eq.false in
    let grown = field_grown bytes o.head l.1 field.kind field.start field.size c.with_field-head.result c.with_field-head.ensures in
    let rows = field_stands _ _ _ _ _ _ (omega (arith, lies)) (first_kept _ _ _ _ _ none) l.6 l.5 in (
      l.0 - 1,
      sheet.rows,
      lies.2,
      omega (arith, lies),
      l.4 ∙ walk_on _ _ _ _ (omega arith) _ here none not_last ∙ ap (walk bytes (l.0 - 1) field.next) grown,
      rw c.keep_place.ensures (subst (λ s. RowsAt bytes s (places_with field.kind o.places o.head.tally.rows field.start)) grown rows),
      ap length c.keep_place.ensures ∙ places_length field.kind o.places o.head.tally.rows field.start ∙ l.6,
    )
