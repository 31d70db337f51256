-- The entries of columns from a place on: the one that stands there and those behind it, or what stands where the columns end or part.
use Prim.Native.Nat.{ℕ, zero, suc, ◌+◌, ◌-◌, ◌≤◌, ◌<◌, min}
use native.Mathlib.Nat.{zero-min, suc-min-suc, min-zero}
use native.Mathlib.Numerals.{add-one}
use native.Mathlib.Omega.{arith}
use mathlib.Core.Path.{◌≡◌, ◌∙◌, refl, sym, ap}
use mathlib.Core.List.{List, [], ◌∷◌}
use lib.ListN.{length, get_or, take, drop, length-drop, drop_of_length-le}
use lib.Seq.{drop-cons, drop-drop}
use Rattle.rules.specs.Rules.{follower_count}
use Rattle.written.specs.Values.{Entry, ModeEntry, RowEntry, TaskEntry, CutEntry, mode_entries, row_entries, task_entries}

-- a column that reaches past a place: the number there, and those behind
pub number_there : (at : ℕ) (column : List ℕ) → at < length column → drop at column ≡ get_or column at 0 ∷ drop (at + 1) column
number_there at column more = rw (add-one, drop-cons column at 0 more) refl

-- where a number is left of a column, it reaches past the place, and where none is left, it does not
left : (at : ℕ) (column : List ℕ) → 0 < length (drop at column) → at < length column
left at column some = omega (arith, length-drop at column)

none_left : (at : ℕ) (column : List ℕ) → length (drop at column) ≤ 0 → length column ≤ at
none_left at column none = omega (arith, length-drop at column)

-- the mode at a place, and the modes from it on
abbrev pub mode_among : List ℕ → List ℕ → List ℕ → ℕ → Entry
mode_among boundaries lengths fallbacks at =
    ModeEntry (record { boundary = record { 0 = get_or boundaries at 0 }; length = record { 0 = get_or lengths at 0 }; fallback = record { 0 = get_or fallbacks at 0 } })

abbrev pub modes_from : List ℕ → List ℕ → List ℕ → ℕ → List Entry
modes_from boundaries lengths fallbacks at = mode_entries (drop at boundaries) (drop at lengths) (drop at fallbacks)

-- modes whose columns part at once: a field without content
modes_cut : (boundaries lengths fallbacks : List ℕ) → (0 < length boundaries → 0 < length lengths → 0 < length fallbacks → ⊥)
    → (length boundaries ≤ 0 → length lengths ≤ 0 → length fallbacks ≤ 0 → ⊥) → mode_entries boundaries lengths fallbacks ≡ CutEntry 2 ∷ []
unfolding mode_entries
modes_cut [] [] [] no_more some_more = absurd (some_more (omega arith) (omega arith) (omega arith))
modes_cut [] [] (fallback ∷ fallbacks) no_more some_more = refl
modes_cut [] (length ∷ lengths) fallbacks no_more some_more = refl
modes_cut (boundary ∷ boundaries) [] fallbacks no_more some_more = refl
modes_cut (boundary ∷ boundaries) (length ∷ lengths) [] no_more some_more = refl
modes_cut (boundary ∷ boundaries) (length ∷ lengths) (fallback ∷ fallbacks) no_more some_more = absurd (no_more (omega arith) (omega arith) (omega arith))

module _ (boundaries lengths fallbacks : List ℕ) (at : ℕ) where
  -- the next mode and those behind it
  pub modes_next : at < length boundaries → at < length lengths → at < length fallbacks
      → modes_from boundaries lengths fallbacks at ≡ mode_among boundaries lengths fallbacks at ∷ modes_from boundaries lengths fallbacks (at + 1)
  unfolding mode_entries
  modes_next one other last = rw (number_there at boundaries one, number_there at lengths other, number_there at fallbacks last) refl

  -- none, where all columns end
  pub modes_end : length boundaries ≤ at → length lengths ≤ at → length fallbacks ≤ at → modes_from boundaries lengths fallbacks at ≡ []
  unfolding mode_entries
  modes_end one other last = rw (drop_of_length-le boundaries {i = at} one, drop_of_length-le lengths {i = at} other, drop_of_length-le fallbacks {i = at} last) refl

  -- a field without content, where they part
  pub modes_part : (at < length boundaries → at < length lengths → at < length fallbacks → ⊥) → (length boundaries ≤ at → length lengths ≤ at → length fallbacks ≤ at → ⊥)
      → modes_from boundaries lengths fallbacks at ≡ CutEntry 2 ∷ []
  modes_part no_more some_more =
      modes_cut (drop at boundaries) (drop at lengths) (drop at fallbacks) (λ one other last. no_more (left at boundaries one) (left at lengths other) (left at fallbacks last))
      (λ one other last. some_more (none_left at boundaries one) (none_left at lengths other) (none_left at fallbacks last))

-- the fixed task at a place, and those from it on
abbrev pub task_among : List ℕ → List ℕ → List ℕ → List ℕ → ℕ → Entry
task_among lengths periods deadlines jitters at =
    TaskEntry (record {
      length = record { 0 = get_or lengths at 0 };
      period = record { 0 = get_or periods at 0 };
      deadline = record { 0 = get_or deadlines at 0 };
      jitter = record { 0 = get_or jitters at 0 };
    })

abbrev pub tasks_from : List ℕ → List ℕ → List ℕ → List ℕ → ℕ → List Entry
tasks_from lengths periods deadlines jitters at = task_entries (drop at lengths) (drop at periods) (drop at deadlines) (drop at jitters)

-- fixed tasks whose columns part at once
tasks_cut : (lengths periods deadlines jitters : List ℕ) → (0 < length lengths → 0 < length periods → 0 < length deadlines → 0 < length jitters → ⊥)
    → (length lengths ≤ 0 → length periods ≤ 0 → length deadlines ≤ 0 → length jitters ≤ 0 → ⊥) → task_entries lengths periods deadlines jitters ≡ CutEntry 4 ∷ []
unfolding task_entries
tasks_cut [] [] [] [] no_more some_more = absurd (some_more (omega arith) (omega arith) (omega arith) (omega arith))
tasks_cut [] [] [] (jitter ∷ jitters) no_more some_more = refl
tasks_cut [] [] (deadline ∷ deadlines) jitters no_more some_more = refl
tasks_cut [] (period ∷ periods) deadlines jitters no_more some_more = refl
tasks_cut (length ∷ lengths) [] deadlines jitters no_more some_more = refl
tasks_cut (length ∷ lengths) (period ∷ periods) [] jitters no_more some_more = refl
tasks_cut (length ∷ lengths) (period ∷ periods) (deadline ∷ deadlines) [] no_more some_more = refl
tasks_cut (length ∷ lengths) (period ∷ periods) (deadline ∷ deadlines) (jitter ∷ jitters) no_more some_more =
    absurd (no_more (omega arith) (omega arith) (omega arith) (omega arith))

module _ (lengths periods deadlines jitters : List ℕ) (at : ℕ) where
  pub tasks_next : at < length lengths → at < length periods → at < length deadlines → at < length jitters
      → tasks_from lengths periods deadlines jitters at ≡ task_among lengths periods deadlines jitters at ∷ tasks_from lengths periods deadlines jitters (at + 1)
  unfolding task_entries
  tasks_next one other third last =
      rw (number_there at lengths one, number_there at periods other, number_there at deadlines third, number_there at jitters last) refl

  pub tasks_end : length lengths ≤ at → length periods ≤ at → length deadlines ≤ at → length jitters ≤ at → tasks_from lengths periods deadlines jitters at ≡ []
  unfolding task_entries
  tasks_end one other third last =
      rw
      (drop_of_length-le lengths {i = at} one, drop_of_length-le periods {i = at} other, drop_of_length-le deadlines {i = at} third, drop_of_length-le jitters {i = at} last)
      refl

  pub tasks_part : (at < length lengths → at < length periods → at < length deadlines → at < length jitters → ⊥)
      → (length lengths ≤ at → length periods ≤ at → length deadlines ≤ at → length jitters ≤ at → ⊥) → tasks_from lengths periods deadlines jitters at ≡ CutEntry 4 ∷ []
  tasks_part no_more some_more =
      tasks_cut (drop at lengths) (drop at periods) (drop at deadlines) (drop at jitters)
      (λ one other third last. no_more (left at lengths one) (left at periods other) (left at deadlines third) (left at jitters last))
      (λ one other third last. some_more (none_left at lengths one) (none_left at periods other) (none_left at deadlines third) (none_left at jitters last))

-- the rows from a place of the three columns on, with the gaps from a place of theirs on
abbrev pub rows_from : List ℕ → List ℕ → List ℕ → List ℕ → ℕ → ℕ → List Entry
rows_from speeds deadlines sets gaps at from = row_entries (drop at speeds) (drop at deadlines) (drop at sets) (drop from gaps)

-- the row at a place, with the gaps between two places
abbrev pub row_between : List ℕ → List ℕ → List ℕ → List ℕ → ℕ → ℕ → ℕ → Entry
row_between speeds deadlines sets gaps at from to =
    RowEntry (record { 0 = get_or speeds at 0 }) (record { 0 = get_or deadlines at 0 }) (get_or sets at 0) (take (to - from) (drop from gaps))

-- the first n numbers of a list are those up to its end where it has no more
take_least : (n : ℕ) (l : List ℕ) → take (min n (length l)) l ≡ take n l
take_least zero l = rw (zero-min (length l)) refl
take_least (suc n) [] = rw (min-zero (suc n)) refl
take_least (suc n) (x ∷ l) = rw (suc-min-suc n (length l)) (ap (λ (rest : List ℕ). x ∷ rest) (take_least n l))

-- and the numbers behind them are none
drop_least : (n : ℕ) (l : List ℕ) → drop (min n (length l)) l ≡ drop n l
drop_least zero l = rw (zero-min (length l)) refl
drop_least (suc n) [] = rw (min-zero (suc n)) refl
drop_least (suc n) (x ∷ l) = rw (suc-min-suc n (length l)) (drop_least n l)

-- n gaps from one place to another, or as many as there are
module _ (gaps : List ℕ) (from to n : ℕ) (reach : to ≡ from + min n (length gaps - from)) where
  -- between the places stand the n gaps
  own_gaps : take (to - from) (drop from gaps) ≡ take n (drop from gaps)
  own_gaps =
      let count : to - from ≡ min n (length (drop from gaps)) = rw (length-drop from gaps) (omega arith) in
      rw count (take_least n (drop from gaps))

  -- and from the second on the others
  gaps_behind : drop to gaps ≡ drop n (drop from gaps)
  gaps_behind =
      rw reach (sym (drop-drop (min n (length gaps - from)) from gaps))
      ∙ ap (λ (k : ℕ). drop (min n k) (drop from gaps)) (sym (length-drop from gaps))
      ∙ drop_least n (drop from gaps)

-- the next row
pub rows_next : (speeds deadlines sets gaps : List ℕ) (at from to : ℕ) → at < length speeds → at < length deadlines → at < length sets
    → to ≡ from + min (follower_count (get_or sets at 0)) (length gaps - from)
    → rows_from speeds deadlines sets gaps at from ≡ row_between speeds deadlines sets gaps at from to ∷ rows_from speeds deadlines sets gaps (at + 1) to
unfolding row_entries
rows_next speeds deadlines sets gaps at from to more-speeds more-deadlines more-sets reach =
    let n = follower_count (get_or sets at 0) in
    rw (number_there at speeds more-speeds, number_there at deadlines more-deadlines, number_there at sets more-sets, own_gaps gaps from to n reach, gaps_behind gaps from to n reach) refl

-- rows whose columns part at once
rows_cut : (speeds deadlines sets gaps : List ℕ) → (0 < length speeds → 0 < length deadlines → 0 < length sets → ⊥)
    → (length speeds ≡ 0 → length deadlines ≡ 0 → length sets ≡ 0 → length gaps ≡ 0 → ⊥) → row_entries speeds deadlines sets gaps ≡ CutEntry 3 ∷ []
unfolding row_entries
rows_cut [] [] [] [] no_more some_more = absurd (some_more refl refl refl refl)
rows_cut [] [] [] (gap ∷ gaps) no_more some_more = refl
rows_cut [] [] (followers ∷ sets) gaps no_more some_more = refl
rows_cut [] (deadline ∷ deadlines) sets gaps no_more some_more = refl
rows_cut (speed ∷ speeds) [] sets gaps no_more some_more = refl
rows_cut (speed ∷ speeds) (deadline ∷ deadlines) [] gaps no_more some_more = refl
rows_cut (speed ∷ speeds) (deadline ∷ deadlines) (followers ∷ sets) gaps no_more some_more = absurd (no_more (omega arith) (omega arith) (omega arith))

module _ (speeds deadlines sets gaps : List ℕ) (at from : ℕ) where
  -- all columns end at the place
  pub rows_end : length speeds ≤ at → length deadlines ≤ at → length sets ≤ at → length gaps ≤ from → rows_from speeds deadlines sets gaps at from ≡ []
  unfolding row_entries
  rows_end no-speed no-deadline no-set no_gap =
      rw
      (drop_of_length-le speeds {i = at} no-speed, drop_of_length-le deadlines {i = at} no-deadline, drop_of_length-le sets {i = at} no-set, drop_of_length-le gaps {i = from} no_gap)
      refl

  -- one of the three ends at the place, and not all columns do
  pub rows_part : min (length speeds) (min (length deadlines) (length sets)) ≤ at
      → (length speeds ≤ at → length deadlines ≤ at → length sets ≤ at → length gaps ≤ from → ⊥) → rows_from speeds deadlines sets gaps at from ≡ CutEntry 3 ∷ []
  rows_part no_more some_more =
      rows_cut (drop at speeds) (drop at deadlines) (drop at sets) (drop from gaps)
      (λ speed deadline followers. omega (arith, length-drop at speeds, length-drop at deadlines, length-drop at sets))
      (λ no-speed no-deadline no-set no_gap. some_more (omega (arith, length-drop at speeds)) (omega (arith, length-drop at deadlines)) (omega (arith, length-drop at sets)) (omega (arith, length-drop from gaps)))
