-- A walk over followers with a number for each line of a block: each number has its own `Walked`, all with the same walk.
use Prim.Native.Nat.{ℕ, ◌^◌, ◌<◌}
use mathlib.Core.Path.{◌≡◌}
use native.Mathlib.Omega.{arith}
use mathlib.Core.List.{List}
use lib.ListN.{get_or, replicate, get_or-replicate}
use Rattle.sets.specs.Sets.{fold_below}
use Rattle.fields.specs.declared.units.Ticks.{Ticks}
use Rattle.tables.specs.Walk.{Taken}
use Rattle.tables.specs.declared.walk.Followers.{Followers}
use Rattle.tables.proofs.Followers.{Walked, walked_none, walked_all, walked_more}
use Rattle.blocks.specs.Blocks.{block_size, EachLine}

-- `f i` is what a row does to the number of line i, and `a` is what all of them begin with
pub record EachWalked (f : ℕ → ℕ → ℕ → ℕ) (a : ℕ) (start now : Followers) (block : List ℕ) : Type 0 where
  pub each : (i : ℕ) → i < block_size → Walked (f i) a start now (get_or block i 0)

-- at first all of the set is left
pub each_none : (f : ℕ → ℕ → ℕ → ℕ) (a : ℕ) (start : Followers) → start.rest < 2 ^ 64 → EachWalked f a start start (replicate block_size a)
each_none f a start fits = record { each = λ i l. rw (get_or-replicate {A = ℕ} block_size i a 0 l) (walked_none (f i) a start fits) }

module _ {f : ℕ → ℕ → ℕ → ℕ} {a : ℕ} {start now : Followers} {block : List ℕ} (walked : EachWalked f a start now block) where
  -- the first line's walk, which is every line's
  pub first_walked : Walked (f 0) a start now (get_or block 0 0)
  first_walked = walked.each 0 (omega arith)

  -- when nothing is left all rows of the set are done
  pub each_all : now.rest ≡ 0 → EachLine (λ i. fold_below (f i) a start.rest 64) block
  each_all e i l = walked_all (walked.each i l) e

  -- with a row done in each line the next turn begins
  pub each_more : {after : Followers} {row : ℕ} {gap : Ticks} → Taken now after row gap → {other : List ℕ} → EachLine (λ i. f i row (get_or block i 0)) other
      → EachWalked f a start after other
  each_more taken e = record { each = λ i l. walked_more (walked.each i l) taken (e i l) }
