-- The bytes of the sheets A, B, `Hangs on` and `Late release`, field by field; sheets/a.sheet, sheets/b.sheet, sheets/hangs-on.sheet and sheets/late-release.sheet are the same.
use Rattle.std.specs.Prelude.{ℕ, List, [], ◌∷◌, ◌++◌}

-- a label of one byte
abbrev label : ℕ → List ℕ
label byte = 1 ∷ 0 ∷ 1 ∷ byte ∷ []

abbrev end : List ℕ
end = 5 ∷ 0 ∷ 0 ∷ []

-- modes up to 1,000 rpm with length 5 and up to 2,000 rpm with length 3; row 0 at 1,000 rpm, deadline 6, gaps 8 to row 0 and 6 to row 1; row 1 at 2,000 rpm, deadline 3, gap 4 to itself
abbrev pub rows_of_a : List ℕ
rows_of_a =
    label 65
    ++ (2 ∷ 0 ∷ 4 ∷ 3 ∷ 232 ∷ 0 ∷ 5 ∷ [])
    ++ (2 ∷ 0 ∷ 4 ∷ 7 ∷ 208 ∷ 0 ∷ 3 ∷ [])
    ++ (3 ∷ 0 ∷ 12 ∷ 3 ∷ 232 ∷ 0 ∷ 6 ∷ 0 ∷ 0 ∷ 0 ∷ 3 ∷ 0 ∷ 8 ∷ 0 ∷ 6 ∷ [])
    ++ (3 ∷ 0 ∷ 10 ∷ 7 ∷ 208 ∷ 0 ∷ 3 ∷ 0 ∷ 0 ∷ 0 ∷ 2 ∷ 0 ∷ 4 ∷ [])

abbrev pub sheet_a : List ℕ
sheet_a = rows_of_a ++ end

-- sheet A with a fixed task of length 2, period 10, deadline 4
abbrev pub sheet_a_with_task : List ℕ
sheet_a_with_task = rows_of_a ++ (4 ∷ 0 ∷ 6 ∷ 0 ∷ 2 ∷ 0 ∷ 10 ∷ 0 ∷ 4 ∷ []) ++ end

-- one mode up to 3,000 rpm with length 4; rows at 2,000 and 3,000 rpm, both with deadline 5 and no followers
abbrev pub sheet_b : List ℕ
sheet_b =
    label 66
    ++ (2 ∷ 0 ∷ 4 ∷ 11 ∷ 184 ∷ 0 ∷ 4 ∷ [])
    ++ (3 ∷ 0 ∷ 8 ∷ 7 ∷ 208 ∷ 0 ∷ 5 ∷ 0 ∷ 0 ∷ 0 ∷ 0 ∷ [])
    ++ (3 ∷ 0 ∷ 8 ∷ 11 ∷ 184 ∷ 0 ∷ 5 ∷ 0 ∷ 0 ∷ 0 ∷ 0 ∷ [])
    ++ end

-- the label `Hangs on`; modes up to 1,000 rpm with length 3 and fall-back 800, and up to 2,000 rpm with length 5; row 0 at 800 rpm, deadline 9, gaps 10 to itself and 9 to row 1; row 1 at 1,000 rpm, deadline 8, gaps 9 to row 0 and 8 to row 2; row 2 at 1,200 rpm, deadline 6, gap 8 to row 1; a fixed task of length 5, period 20, deadline 12
abbrev pub sheet_hangs_on : List ℕ
sheet_hangs_on =
    (1 ∷ 0 ∷ 8 ∷ 72 ∷ 97 ∷ 110 ∷ 103 ∷ 115 ∷ 32 ∷ 111 ∷ 110 ∷ [])
    ++ (2 ∷ 0 ∷ 6 ∷ 3 ∷ 232 ∷ 0 ∷ 3 ∷ 3 ∷ 32 ∷ [])
    ++ (2 ∷ 0 ∷ 4 ∷ 7 ∷ 208 ∷ 0 ∷ 5 ∷ [])
    ++ (3 ∷ 0 ∷ 12 ∷ 3 ∷ 32 ∷ 0 ∷ 9 ∷ 0 ∷ 0 ∷ 0 ∷ 3 ∷ 0 ∷ 10 ∷ 0 ∷ 9 ∷ [])
    ++ (3 ∷ 0 ∷ 12 ∷ 3 ∷ 232 ∷ 0 ∷ 8 ∷ 0 ∷ 0 ∷ 0 ∷ 5 ∷ 0 ∷ 9 ∷ 0 ∷ 8 ∷ [])
    ++ (3 ∷ 0 ∷ 10 ∷ 4 ∷ 176 ∷ 0 ∷ 6 ∷ 0 ∷ 0 ∷ 0 ∷ 2 ∷ 0 ∷ 8 ∷ [])
    ++ (4 ∷ 0 ∷ 6 ∷ 0 ∷ 5 ∷ 0 ∷ 20 ∷ 0 ∷ 12 ∷ [])
    ++ end

-- the label `Late release`; modes up to 1,000 rpm with length 6 and up to 2,000 rpm with length 5; row 0 at 1,000 rpm, deadline 15, gaps 16 to itself and 15 to row 1; row 1 at 2,000 rpm, deadline 9, gaps 12 to row 0 and 10 to itself; a fixed task of length 2, period 10, deadline 10, and one of length 4, period 20, deadline 12, jitter 4
abbrev pub sheet_late_release : List ℕ
sheet_late_release =
    (1 ∷ 0 ∷ 12 ∷ 76 ∷ 97 ∷ 116 ∷ 101 ∷ 32 ∷ 114 ∷ 101 ∷ 108 ∷ 101 ∷ 97 ∷ 115 ∷ 101 ∷ [])
    ++ (2 ∷ 0 ∷ 4 ∷ 3 ∷ 232 ∷ 0 ∷ 6 ∷ [])
    ++ (2 ∷ 0 ∷ 4 ∷ 7 ∷ 208 ∷ 0 ∷ 5 ∷ [])
    ++ (3 ∷ 0 ∷ 12 ∷ 3 ∷ 232 ∷ 0 ∷ 15 ∷ 0 ∷ 0 ∷ 0 ∷ 3 ∷ 0 ∷ 16 ∷ 0 ∷ 15 ∷ [])
    ++ (3 ∷ 0 ∷ 12 ∷ 7 ∷ 208 ∷ 0 ∷ 9 ∷ 0 ∷ 0 ∷ 0 ∷ 3 ∷ 0 ∷ 12 ∷ 0 ∷ 10 ∷ [])
    ++ (4 ∷ 0 ∷ 6 ∷ 0 ∷ 2 ∷ 0 ∷ 10 ∷ 0 ∷ 10 ∷ [])
    ++ (4 ∷ 0 ∷ 8 ∷ 0 ∷ 4 ∷ 0 ∷ 20 ∷ 0 ∷ 12 ∷ 0 ∷ 4 ∷ [])
    ++ end
