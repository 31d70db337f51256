-- The gaps that the writer takes, one behind the other, are those that are told by two rows.
use Prim.Native.Nat.{ℕ, zero, suc, ◌+◌, ◌*◌, ◌<◌}
use native.Mathlib.Omega.{arith}
use native.Mathlib.Nat.{add-zero, zero-add}
use mathlib.Core.Path.{◌≡◌, refl, sym, ap, ◌∙◌}
use mathlib.Core.Bool.{true}
use mathlib.Core.List.{List, [], ◌∷◌, ◌++◌, map}
use lib.ListN.{length, get_or, get_or-append}
use lib.Seq.{get_or-take, get_or-append-add}
use Rattle.sets.specs.Sets.{member, below, width}
use Rattle.sets.proofs.Bits.{member_true}
use Rattle.sets.proofs.Counts.{below_lt}
use Rattle.fields.specs.Limits.{gap_size}
use Rattle.fields.specs.Reading.{word_at}
use Rattle.fields.specs.Values.{no_row}
use Rattle.fields.proofs.Deciding.{yes}
use Rattle.rules.specs.Rules.{follower_count}
use Rattle.sheet.specs.Judging.{judged}
use Rattle.sheet.specs.Meaning.{rows_in, row_of, gap_of, graph_of}
use Rattle.sheet.specs.Outline.{head_of}
use Rattle.written.specs.Reading.{words_at, gaps_of, all_gaps, values_in, values_of}
use Rattle.written.proofs.InColumns.{words_count}
use Rattle.fields.specs.declared.values.Row.{Row}
use Rattle.contents.specs.Contents.{row_numbered, gap_numbered}
use Rattle.contents.specs.declared.RowValues.{RowValues}
use Rattle.contents.proofs.Told.{row_told}
use Rattle.contents.proofs.SameNumbers.{graph_gap}

-- how many gaps the rows before a row have, by their follower sets
unfoldable pub gaps_before : List ℕ → ℕ → ℕ
gaps_before sets zero = 0
gaps_before [] (suc from) = 0
gaps_before (set ∷ sets) (suc from) = follower_count set + gaps_before sets from

-- the k-th of the numbers that stand one behind the other
word_at_lem : (bytes : List ℕ) (at count k : ℕ) → k < count → get_or (words_at bytes at count) k 0 ≡ word_at bytes (at + gap_size * k)
unfolding words_at
word_at_lem bytes at zero k h = absurd (omega arith)
word_at_lem bytes at (suc count) zero h = ap (word_at bytes) (sym (add-zero at))
word_at_lem bytes at (suc count) (suc k) h =
    let same : at + gap_size + gap_size * k ≡ at + gap_size * suc k = omega arith in
    word_at_lem bytes (at + gap_size) count k (omega arith) ∙ ap (word_at bytes) same

-- a row of zeros has no follower
no_followers : follower_count 0 ≡ 0
unfolding below
no_followers = refl

-- the gap of a row's k-th follower, behind all gaps of the rows before
follower_gap : (bytes : List ℕ) (rows : List Row) (from k : ℕ) → k < follower_count (get_or rows from no_row).followers
    → get_or (all_gaps bytes rows) (gaps_before (map (λ row. row.followers) rows) from + k) 0 ≡ word_at bytes ((get_or rows from no_row).gaps + gap_size * k)
unfolding all_gaps gaps_before
follower_gap bytes [] from k h = absurd (omega (arith, no_followers))
follower_gap bytes (row ∷ rows) zero k h =
    let own = words_count bytes row.gaps (follower_count row.followers) in
    ap (λ (at : ℕ). get_or (gaps_of bytes row ++ all_gaps bytes rows) at 0) (zero-add k)
    ∙ get_or-append (gaps_of bytes row) (all_gaps bytes rows) 0 k (omega (arith, own))
    ∙ word_at_lem bytes row.gaps (follower_count row.followers) k h
follower_gap bytes (row ∷ rows) (suc from) k h =
    let own = words_count bytes row.gaps (follower_count row.followers) in
    let rest = gaps_before (map (λ row. row.followers) rows) from + k in
    let place : follower_count row.followers + gaps_before (map (λ row. row.followers) rows) from + k ≡ length (gaps_of bytes row) + rest = omega (arith, own) in
    ap (λ (at : ℕ). get_or (gaps_of bytes row ++ all_gaps bytes rows) at 0) place
    ∙ get_or-append-add (gaps_of bytes row) (all_gaps bytes rows) rest 0
    ∙ follower_gap bytes rows from k h

module _ (bytes : List ℕ) (from to : ℕ) (counted : from < (judged bytes).sheet.tally.rows) (within : to < width) where
  abbrev row : Row
  row = row_of (judged bytes).sheet from

  abbrev rows : List Row
  rows = rows_in (judged bytes).sheet

  -- the row stands among those that the sheet counts
  there : get_or rows from no_row ≡ row
  there = get_or-take (judged bytes).sheet.tally.rows (judged bytes).sheet.rows from no_row counted

  -- its followers are told
  told : row.followers ≡ (row_numbered bytes from).followers
  told = ap (λ (values : RowValues). values.followers) (row_told bytes (head_of (judged bytes).sheet) refl from _ _ refl refl counted)

  -- its gap to a follower
  held : member row.followers to ≡ true
      → get_or (all_gaps bytes rows) (gaps_before (map (λ row. row.followers) rows) from + below row.followers to) 0 ≡ gap_of bytes row to
  held follows =
      let before : below row.followers to < follower_count row.followers = below_lt width row.followers to (member_true row.followers to follows) within in
      yes _ _ _ _ follows (rw there at (follower_gap bytes rows from (below row.followers to) (rw there before)))

  -- in the column, it stands behind the gaps of the rows before and those to the followers below
  pub gap_column : member (row_numbered bytes from).followers to ≡ true
      → get_or (values_of bytes).gaps (gaps_before (values_of bytes).sets from + below (row_numbered bytes from).followers to) 0 ≡ (gap_numbered bytes from to).0
  unfolding values_of values_in graph_of
  gap_column follows = rw (← told) (held (rw (← told) at follows) ∙ graph_gap bytes from counted to)
