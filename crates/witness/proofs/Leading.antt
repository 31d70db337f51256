-- The search for the follower that leads on to the rest of a witness: a walk over the followers up to the first that adds just the work wanted.
use mathlib.Core.Path.{◌≡◌, refl, sym, ap, ◌∙◌}
use mathlib.Core.Logic.{⊎_elim}
use mathlib.Core.Bool.{true, false}
use mathlib.Core.List.{List}
use Prim.Native.Nat.{ℕ, ◌+◌, ◌-◌, ◌*◌, ◌^◌, ◌≤◌, ◌<◌}
use native.Mathlib.Omega.{arith}
use lib.ListN.{length}
use borrow.Author.Tests.{eqb-true, eq-eqb, ne_eqb}
use Rattle.sets.specs.Sets.{bit, below}
use Rattle.sets.proofs.Bits.{bit_or}
use Rattle.meaning.specs.Computed.{seek, cell_at, via_at}
use Rattle.meaning.proofs.Tests.{lt_or}
use Rattle.meaning.proofs.Seeking.{seek_hit}
use Rattle.meaning.proofs.ByInterval.{via_take, via_positive}
use Rattle.fields.specs.Limits.{gap_size}
use Rattle.sheet.specs.Meaning.{gap_of}
use Rattle.sheet.specs.Proper.{ProperRow}
use Rattle.fields.specs.Reading.{word_at}
use Rattle.fields.specs.declared.units.Ticks.{Ticks}
use Rattle.fields.specs.declared.values.Row.{Row}
use Rattle.tables.specs.Adding.{added_at}
use Rattle.tables.specs.Followers.{gap_to}
use Rattle.witness.specs.Stands.{leads}
use Rattle.tables.specs.Walk.{Taken}
use Rattle.tables.specs.declared.walk.Followers.{Followers}
use Rattle.tables.proofs.Followers.{gap_of_follower, gap_of_other, gap_inside, Walked, walked_none, walked_fresh, walked_past, walked_bit, walked_gap, walked_before, walked_more, walked_behind}
use Rattle.tables.proofs.Adding.{via_follower, via_other}
use Rattle.witness.proofs.Searches.{seek_is, seek_none}

-- the gap of a row that leads on fits, and its cell is the work wanted
leads_on : (n : ℕ) (gap : ℕ → ℕ) (table : ℕ → ℕ → ℕ) (s want : ℕ) → 0 < want → (j : ℕ) → j < n → j ≡ seek n 0 (leads gap table s want)
    → (0 < gap j) × (gap j ≤ s) × (table (s - gap j) j ≡ want)
leads_on n gap table s want some j h e =
    let found : seek n 0 (leads gap table s want) < 0 + n = omega arith in
    let passes : leads gap table s want j ≡ true = rw e (seek_hit n 0 (leads gap table s want) found) in
    let adds : via_at gap table s j ≡ want = eqb-true _ _ passes in
    let fits : (0 < gap j) × (gap j ≤ s) = via_positive gap table s j (omega (arith, adds)) in
    (fits.0, fits.1, sym (via_take gap table s j fits.0 fits.1) ∙ adds)

-- row i is a follower that adds just the work wanted
abbrev pub Adds : List ℕ → List ℕ → ℕ → ℕ → ℕ → ℕ → ℕ → ℕ → Type 0
Adds bytes cells n followers first s want i = (bit followers i ≡ 1) × (added_at n cells s (gap_to bytes followers first i) i ≡ want)

-- the walk over the followers has come from `start` to `now`, and none of those that it has passed adds just the work wanted
pub record Sought (cells : List ℕ) (n s want : ℕ) (start now : Followers) : Type 0 where
  pub walked : Walked {A = ℕ} (λ _ made. made) 0 start now 0
  pub none : (i : ℕ) → i < walked.left.from → Adds start.bytes.now cells n start.rest start.place s want i → ⊥

module _ (cells : List ℕ) (n s want : ℕ) (start : Followers) where
  pub sought_start : start.rest < 2 ^ 64 → Sought cells n s want start start
  sought_start fits =
      record { walked = walked_none {A = ℕ} (λ _ made. made) 0 start fits; none = λ i l. omega (arith, l, walked_fresh {A = ℕ} (λ _ made. made) 0 start fits) }

  module _ {now : Followers} (sought : Sought cells n s want start now) where
    -- a turn: the walk gives row j and the gap to it
    module _ {after : Followers} {j : ℕ} {gap : Ticks} (taken : Taken now after j gap) where
      -- no follower below it adds just the work wanted
      pub sought_before : (i : ℕ) → i < j → Adds start.bytes.now cells n start.rest start.place s want i → ⊥
      sought_before i l a = sought.none i (walked_before sought.walked taken i a.0 l) a

      module _ {added : ℕ} (adds : added ≡ added_at n cells s gap.0 j) where
        added_is : added ≡ added_at n cells s (gap_to start.bytes.now start.rest start.place j) j
        added_is = adds ∙ ap (λ (x : ℕ). added_at n cells s x j) (walked_gap sought.walked taken)

        -- it adds just the work
        pub sought_hit : added ≡ want → Adds start.bytes.now cells n start.rest start.place s want j
        sought_hit e = (walked_bit sought.walked taken, sym added_is ∙ e)

        -- where it does not, the search goes on behind it
        pub sought_next : (added ≡ want → ⊥) → Sought cells n s want start after
        sought_next other = record {
          walked = walked_more sought.walked taken refl;
          none = λ i l a.
              ⊎_elim
              (λ h. sought_before i h a)
              (λ h. let same : i ≡ j = omega (arith, l, walked_behind sought.walked taken refl) in other (added_is ∙ (rw same at a.1)))
              (lt_or i j);
        }

    -- the walk gives no more: no follower adds just the work wanted
    pub sought_end : now.rest ≡ 0 → (i : ℕ) → i < n → Adds start.bytes.now cells n start.rest start.place s want i → ⊥
    sought_end e i _ a = sought.none i (walked_past sought.walked e i a.0) a

module _ (bytes : List ℕ) (n : ℕ) (row : Row) (proper : ProperRow bytes n row) (fits : row.followers < 2 ^ 64) (cells : List ℕ) (s want : ℕ) (some : 0 < want) where
  -- a row that does not add just the work as a follower does not lead on
  not_leading : (i : ℕ) → (Adds bytes cells n row.followers row.gaps s want i → ⊥) → leads (gap_of bytes row) (cell_at n cells) s want i ≡ false
  not_leading i other =
      ⊎_elim
      (λ b. ne_eqb (via_at (gap_of bytes row) (cell_at n cells) s i) want (λ e. omega (arith, e, via_other bytes n row proper fits cells s i b)))
      (λ b. ne_eqb _ _ (λ e. other (b, sym (via_follower bytes n row proper fits cells s i b) ∙ e)))
      (bit_or row.followers i)

  -- the first follower that adds just the work is found
  pub leading_is : (j : ℕ) → Adds bytes cells n row.followers row.gaps s want j
      → ((i : ℕ) → i < j → Adds bytes cells n row.followers row.gaps s want i → ⊥) → j ≡ seek n 0 (leads (gap_of bytes row) (cell_at n cells) s want)
  leading_is j a none =
      seek_is n _ j (proper.followers_exist j a.0)
      (eq-eqb _ _ (via_follower bytes n row proper fits cells s j a.0 ∙ a.1))
      (λ i l. not_leading i (none i l))

  -- where none does, none is found
  pub leading_none : ((i : ℕ) → i < n → Adds bytes cells n row.followers row.gaps s want i → ⊥)
      → n ≡ seek n 0 (leads (gap_of bytes row) (cell_at n cells) s want)
  leading_none none = seek_none n _ (λ i l. not_leading i (none i l))

  -- what is found
  module _ (j : ℕ) (h : j < n) (e : j ≡ seek n 0 (leads (gap_of bytes row) (cell_at n cells) s want)) where
    goes : (0 < gap_of bytes row j) × (gap_of bytes row j ≤ s) × (cell_at n cells (s - gap_of bytes row j) j ≡ want)
    goes = leads_on n (gap_of bytes row) (cell_at n cells) s want some j h e

    follows : bit row.followers j ≡ 1
    follows = ⊎_elim (λ b. absurd (omega (arith, gap_of_other bytes row j b, goes.0))) (λ b. b) (bit_or row.followers j)

    -- is a follower, its gap stands in the file
    pub lead_inside : row.gaps + gap_size * below row.followers j + 1 < length bytes
    lead_inside = gap_inside bytes n row proper fits j follows

    pub lead_gap : word_at bytes (row.gaps + gap_size * below row.followers j) ≡ gap_of bytes row j
    lead_gap = sym (gap_of_follower bytes row j follows)

    -- and fits the time that is left
    pub lead_fits : gap_of bytes row j ≤ s
    lead_fits = goes.1
