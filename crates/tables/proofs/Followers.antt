-- The followers of a row: their gaps, and a walk over them.
use mathlib.Core.Path.{◌≡◌, refl, sym, ap, ◌∙◌}
use mathlib.Core.List.{List}
use mathlib.Core.Logic.{⊎_elim}
use Prim.Native.Nat.{ℕ, suc, ◌+◌, ◌-◌, ◌*◌, ◌/◌, ◌%◌, ◌^◌, ◌≤◌, ◌<◌}
use native.Mathlib.Nat.{add-zero, zero-div, div-add-mod', mod-lt}
use native.Mathlib.Numerals.{add-one}
use native.Mathlib.Omega.{arith}
use lib.Bits.{bit_and, and_le_l}
use lib.Count.{count_trailing_zeros, ones, ones_cat}
use lib.ListN.{length}
use lib.Pow.{pow_pos, shl-shr}
use Rattle.std.proofs.lemmas.Nat.Bits.{bit_at_and}
use borrow.Author.Tests.{eq-eqb, ne_eqb}
use Rattle.sets.specs.Sets.{bit, below, fold_below}
use Rattle.sets.proofs.Bits.{bit_within, shr_zero, all_below}
use Rattle.sets.proofs.Counts.{below_mono, below_lt, below_step, ones_all, ones_below}
use Rattle.sets.proofs.Zeros.{tz_set, and_pred}
use Rattle.sets.proofs.Clearing.{Left, left_start, left_bit, left_next, left_below, left_from, left_below_next, left_done}
use Rattle.meaning.proofs.Tests.{lt_or}
use Rattle.fields.specs.Deciding.{pick}
use Rattle.fields.specs.Limits.{gap_size}
use Rattle.sheet.specs.Meaning.{gap_of}
use Rattle.sheet.specs.Proper.{ProperRow}
use Rattle.fields.specs.Reading.{word_at}
use Rattle.fields.specs.declared.values.Row.{Row}
use Rattle.fields.specs.declared.units.Ticks.{Ticks}
use Rattle.tables.specs.Followers.{gap_to, Followed}
use Rattle.tables.specs.Walk.{IsLowest, IsPast, Taken}
use Rattle.tables.specs.declared.walk.Followers.{Followers}

module _ (bytes : List ℕ) (row : Row) where
  -- the gap to a follower is the one that stands for it in the file
  pub gap_of_follower : (j : ℕ) → bit row.followers j ≡ 1 → gap_of bytes row j ≡ gap_to bytes row.followers row.gaps j
  unfolding pick
  gap_of_follower j e = rw (eq-eqb (bit row.followers j) 1 e)

  -- there is none to another row
  pub gap_of_other : (j : ℕ) → bit row.followers j ≡ 0 → gap_of bytes row j ≡ 0
  unfolding pick
  gap_of_other j e = rw (ne_eqb (bit row.followers j) 1 (λ h. omega (arith, e, h)))

module _ (bytes : List ℕ) (n : ℕ) (row : Row) (proper : ProperRow bytes n row) (fits : row.followers < 2 ^ 64) (j : ℕ) (e : bit row.followers j ≡ 1) where
  counted : below row.followers j < below row.followers 64
  counted = below_lt 64 row.followers j e (bit_within 64 row.followers j fits e)

  -- the gap to a follower is not 0
  pub gap_positive : 0 < gap_to bytes row.followers row.gaps j
  gap_positive = omega (arith, proper.deadline.0, proper.gap_least (below row.followers j) counted)

  -- and stands in the file
  pub gap_inside : row.gaps + gap_size * below row.followers j + 1 < length bytes
  gap_inside = omega (arith, proper.gaps_inside, counted)

-- While something is left of followers of whom the gaps stand in the file.
module _ (bytes : List ℕ) (n rest place : ℕ) (followed : Followed bytes n rest place) (fits : rest < 2 ^ 64) (some : rest ≡ 0 → ⊥) where
  lowest : ℕ
  lowest = count_trailing_zeros 64 rest

  lowest_in : bit rest lowest ≡ 1
  unfolding lowest
  lowest_in = tz_set 64 rest (omega (arith, some)) fits

  -- the gap to the next stands there
  pub followed_inside : place + 1 < length bytes
  followed_inside = omega (arith, followed.inside, below_lt 64 rest lowest lowest_in (bit_within 64 rest lowest fits lowest_in))

  -- with the lowest bit cleared one row less is left
  one_less : below (bit_and rest (rest - 1)) 64 + 1 ≤ below rest 64
  unfolding lowest ones
  one_less =
      let above : ℕ = rest / 2 ^ suc lowest in
      let cleared : bit_and rest (rest - 1) ≡ above * 2 ^ suc lowest + 0 = and_pred 64 rest (omega (arith, some)) fits ∙ sym (add-zero (above * 2 ^ suc lowest)) in
      omega (
        arith,
        ones_all 64 (bit_and rest (rest - 1)) (omega (arith, fits, and_le_l rest (rest - 1))),
        ap ones cleared ∙ ones_cat (suc lowest) above 0 (pow_pos (suc lowest)),
        ones_all 64 rest fits,
        ap ones (sym (div-add-mod' rest (2 ^ suc lowest))) ∙ ones_cat (suc lowest) above (rest % 2 ^ suc lowest) (mod-lt rest (pow_pos (suc lowest))),
        ones_below rest (suc lowest),
        ap (below rest) (add-one lowest),
        below_step rest lowest,
        lowest_in,
      )

  -- and the same holds of what is left
  pub followed_next : Followed bytes n (bit_and rest (rest - 1)) (place + gap_size)
  followed_next = record {
    exist = λ j e. followed.exist j (omega (arith, e, bit_at_and rest (rest - 1) j));
    inside = omega (arith, followed.inside, one_less);
  }

-- a turn takes the lowest row that is left
pub lowest_taken : {old new : Followers} {row : ℕ} {gap : Ticks} → Taken old new row gap → IsLowest old row gap
lowest_taken taken = record { some = taken.some; lowest = taken.lowest; its_gap = taken.its_gap }

-- what is lowest, and is passed, is taken
pub taken_past : {old new : Followers} {row : ℕ} {gap : Ticks} → IsLowest old row gap → IsPast old new → Taken old new row gap
taken_past next past = record {
  some = next.some;
  lowest = next.lowest;
  its_gap = next.its_gap;
  same_file = past.same_file;
  same_count = past.same_count;
  cleared = past.cleared;
  moved = past.moved;
}

-- nothing is left of a set that is shifted to nothing
shr_none : (s j : ℕ) → s / 2 ^ j * 2 ^ j ≡ 0 → s / 2 ^ j ≡ 0
shr_none s j e = sym (shl-shr (s / 2 ^ j) j) ∙ ap (λ (x : ℕ). x / 2 ^ j) e ∙ zero-div (2 ^ j)

-- a walk over followers has come from `start` to `now`, and `acc` is what f made of the rows that it gave
pub record Walked {ℓ} {A : Type ℓ} (f : ℕ → A → A) (a : A) (start now : Followers) (acc : A) : Type ℓ where
  pub fits : start.rest < 2 ^ 64
  pub left : Left f a 64 start.rest now.rest acc
  pub next_gap : now.place ≡ start.place + gap_size * below start.rest left.from
  pub same_file : now.bytes.now ≡ start.bytes.now

-- at first all of the set is left
pub walked_none {ℓ} : {A : Type ℓ} (f : ℕ → A → A) (a : A) (start : Followers) → start.rest < 2 ^ 64 → Walked f a start start a
unfolding below left_start
walked_none f a start fits = record { fits = fits; left = left_start f a 64 start.rest; next_gap = sym (add-zero start.place); same_file = refl }

-- then no row is passed
pub walked_fresh {ℓ} : {A : Type ℓ} (f : ℕ → A → A) (a : A) (start : Followers) (fits : start.rest < 2 ^ 64) → (walked_none f a start fits).left.from ≡ 0
unfolding walked_none left_start
walked_fresh f a start fits = refl

module _ {ℓ} {A : Type ℓ} {f : ℕ → A → A} {a : A} {start now : Followers} {acc : A} (walked : Walked f a start now acc) where
  -- when nothing is left all rows of the set are done
  pub walked_all : now.rest ≡ 0 → acc ≡ fold_below f a start.rest 64
  walked_all e = left_done f a 64 start.rest now.rest acc walked.left e

  -- and all of them are passed
  pub walked_past : now.rest ≡ 0 → (i : ℕ) → bit start.rest i ≡ 1 → i < walked.left.from
  walked_past e i b =
      ⊎_elim
      (λ l. l)
      (λ l. omega (arith, b, (all_below walked.left.from start.rest).0 ((shr_zero walked.left.from start.rest).0 (shr_none start.rest walked.left.from (sym walked.left.is ∙ e))) i l))
      (lt_or i walked.left.from)

  -- The lowest row that is left.
  module _ {row : ℕ} {gap : Ticks} (next : IsLowest now row gap) where
    -- it is in the set
    pub lowest_bit : bit start.rest row ≡ 1
    lowest_bit = rw next.lowest (left_bit f a 64 start.rest now.rest acc walked.fits walked.left next.some)

    -- and one of the rows
    pub lowest_row : row < start.count
    lowest_row = start.followed.exist row lowest_bit

    -- its gap is the one to the row
    pub lowest_gap : gap.0 ≡ gap_to start.bytes.now start.rest start.place row
    lowest_gap =
        let place : now.place ≡ start.place + gap_size * below start.rest row =
        omega (arith, walked.next_gap, left_below f a 64 start.rest now.rest acc walked.fits walked.left next.some, ap (below start.rest) next.lowest) in
        ap (λ (t : Ticks). t.0) next.its_gap ∙ ap (λ (bytes : List ℕ). word_at bytes now.place) walked.same_file ∙ ap (word_at start.bytes.now) place

  -- A turn.
  module _ {after : Followers} {row : ℕ} {gap : Ticks} (taken : Taken now after row gap) where
    -- its row is in the set
    pub walked_bit : bit start.rest row ≡ 1
    walked_bit = lowest_bit (lowest_taken taken)

    -- and one of the rows
    pub walked_row : row < start.count
    walked_row = start.followed.exist row walked_bit

    -- its gap is the one to the row
    pub walked_gap : gap.0 ≡ gap_to start.bytes.now start.rest start.place row
    walked_gap = lowest_gap (lowest_taken taken)

    -- with its row done the next turn begins
    pub walked_more : {other : A} → other ≡ f row acc → Walked f a start after other
    walked_more e =
        let next = left_next f a 64 start.rest now.rest acc walked.fits walked.left taken.some in
        record {
          fits = walked.fits;
          left = record {
            from = next.from;
            within = next.within;
            is = taken.cleared ∙ next.is;
            got = e ∙ ap (λ (j : ℕ). f j acc) taken.lowest ∙ next.got;
          };
          next_gap = omega (arith, taken.moved, walked.next_gap, left_below_next f a 64 start.rest now.rest acc walked.fits walked.left taken.some);
          same_file = taken.same_file ∙ walked.same_file;
        }

    -- a row of the set below the one of the turn is passed before it
    pub walked_before : (i : ℕ) → bit start.rest i ≡ 1 → i < row → i < walked.left.from
    walked_before i b l =
        let same : below start.rest row ≡ below start.rest walked.left.from = ap (below start.rest) taken.lowest ∙ left_below f a 64 start.rest now.rest acc walked.fits walked.left taken.some in
        ⊎_elim (λ h. h) (λ h. omega (arith, same, below_mono start.rest walked.left.from i h, below_lt row start.rest i b l)) (lt_or i walked.left.from)

    -- and the turn passes its own
    pub walked_behind : {other : A} (e : other ≡ f row acc) → (walked_more e).left.from ≡ suc row
    unfolding walked_more
    walked_behind e = left_from f a 64 start.rest now.rest acc walked.fits walked.left taken.some ∙ ap suc (sym taken.lowest)
