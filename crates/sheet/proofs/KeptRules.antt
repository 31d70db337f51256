-- What a kept rule says of the numbers that it was tried on.
use Prim.Native.Nat.{ℕ, ◌+◌, ◌-◌, ◌*◌, ◌≤◌, ◌<◌}
use native.Mathlib.Omega.{arith}
use mathlib.Core.Path.{◌≡◌, ◌∙◌, refl, sym}
use mathlib.Core.Logic.{⊎_elim}
use mathlib.Core.Bool.{true, false, true≢false}
use mathlib.Core.List.{List}
use lib.Dec.{ltb, eqb}
use lib.ListN.{get_or}
use borrow.Author.Tests.{lt-ltb, ltb-false, eqb-false, ne_eqb}
use Rattle.std.specs.Prelude.{Option, Some, None, is_some}
use Rattle.sets.specs.Sets.{width, bit, next_in}
use Rattle.sets.proofs.Search.{next_none}
use Rattle.meaning.proofs.Tests.{lt_or}
use Rattle.fields.specs.Deciding.{pick}
use Rattle.fields.specs.Fields.{line_of}
use Rattle.fields.specs.Limits.{gap_size}
use Rattle.sheet.specs.Proper.{InRange}
use Rattle.fields.specs.Reading.{word_at}
use Rattle.rules.specs.Rules.{missing, out_of_order, bad_rpm, no_ticks, unknown_in, unknown_follower}
use Rattle.sheet.specs.Content.{gap_shorter}
use Rattle.fields.specs.Values.{no_row}
use Rattle.fields.specs.declared.units.Rpm.{Rpm}
use Rattle.fields.specs.declared.units.Ticks.{Ticks}
use Rattle.fields.specs.declared.values.Row.{Row}
use Rattle.fields.proofs.Deciding.{neither, any_false}

-- 3: no required kind was passed over
pub order_kept : (last tag k : ℕ) → out_of_order last tag ≡ false → (line_of k).required ≡ true → k < tag → k ≤ last
unfolding out_of_order missing pick
order_kept last tag k e r h = ⊎_elim (λ l. absurd (passed l)) (λ l. l) (lt_or last k)
  where
    passed : last < k → ⊥
    passed l =
        let other : eqb tag last ≡ false = ne_eqb tag last (λ (q : tag ≡ last). omega arith) in
        let rest = (neither (ltb tag last) _ e).1 in
        let none : missing last k ≡ false = any_false (missing last) 0 tag (rw other at rest) k (omega arith) (omega arith) in
        true≢false (sym r ∙ (rw (lt-ltb last k l) at none))

-- 7: a speed is in range, and a time is not 0
pub rpm_kept : (speed : Rpm) → bad_rpm speed ≡ false → InRange speed
unfolding bad_rpm
rpm_kept speed e =
    let n = neither _ _ e in
    let some : speed.0 ≡ 0 → ⊥ = eqb-false _ _ n.0 in
    (omega arith, ltb-false _ _ n.1)

pub ticks_kept : (time : Ticks) → no_ticks time ≡ false → 1 ≤ time.0
ticks_kept time e = let some : time.0 ≡ 0 → ⊥ = eqb-false _ _ e in omega arith

-- 7 and 10: no gap is shorter than the bound
pub gaps_kept : (bytes : List ℕ) (place count : ℕ) (bound : Ticks) → gap_shorter bytes place count bound ≡ false
    → (i : ℕ) → i < count → bound.0 ≤ word_at bytes (place + gap_size * i)
unfolding gap_shorter
gaps_kept bytes place count bound e i h = ltb-false _ _ (any_false _ 0 count e i (omega arith) (omega arith))

pub nothing : (next : Option ℕ) → is_some next ≡ false → next ≡ None
nothing (Some row) e = absurd (true≢false e)
nothing None e = refl

-- 9: a follower below the width of a set is one of the sheet's rows
pub followers_kept : (rows : List Row) (count : ℕ) → unknown_follower rows count ≡ false → (k : ℕ) → k < count
    → (j : ℕ) → j < width → bit (get_or rows k no_row).followers j ≡ 1 → j < count
unfolding unknown_follower unknown_in
followers_kept rows count e k h j small set =
    let followers = (get_or rows k no_row).followers in
    let none = nothing (next_in (width - count) followers count) (any_false _ 0 count e k (omega arith) (omega arith)) in
    ⊎_elim (λ l. l) (λ l. absurd (omega (arith, set, next_none (width - count) followers count none j l (omega arith)))) (lt_or j count)
