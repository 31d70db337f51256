-- One pass over the intervals up to a horizon with the smallest margin so far: what holds while it goes on, and what its end says.
use mathlib.Core.Path.{◌≡◌, refl, sym, subst}
use mathlib.Core.Logic.{⊎_elim}
use mathlib.Core.List.{List}
use Prim.Native.Nat.{ℕ, ◌+◌, ◌-◌, ◌≤◌, ◌<◌}
use native.Mathlib.Nat.{eq-or-lt_of_le}
use native.Mathlib.Omega.{arith}
use borrow.Author.Tests.{ltb-false, lt-ltb, le-ltb, eq-eqb, ne_eqb}
use lib.Dec.{le→leb}
use lib.IntN.{ℤ, pos}
use lib.Signed.{◌≤ℤ◌, le_z_yes}
use Rattle.meaning.specs.Graph.{Graph, Sound}
use Rattle.meaning.specs.Cells.{ByInterval}
use Rattle.meaning.specs.Demand.{longest_time, IsDemand}
use Rattle.meaning.specs.Fixed as fixed
use Rattle.meaning.specs.Fixed.{fixed_sum}
use Rattle.meaning.specs.Verdict.{IsMargin}
use Rattle.meaning.proofs.Margins.{margin_sub, margin_unique}
use Rattle.fields.specs.Deciding.{pick}
use Rattle.fields.specs.declared.values.Task.{Task}
use Rattle.tables.specs.Lines.{HasLines, demand_in}
use Rattle.tables.specs.Testing.{over_at}
use Rattle.tables.proofs.Lines.{line_demand}
use Rattle.tables.proofs.Testing.{interval_decides}
use Rattle.overruns.specs.Releases.{counted_tasks, ProperTasks, Advanced, Waiting}
use Rattle.overruns.proofs.Sweeping.{Sweeping, sweeping_start, fixed_there, sweeping_on, sweeping_overrun, sweeping_holds}
use Rattle.explain.specs.Looking.{IsTightest, smallest_at}
use Rattle.explain.specs.Reasons.{IsSmallestMargin}
use Rattle.explain.specs.declared.looking.Tightest.TheVariants.{Margin, Overrun}

-- ---- plain numbers

-- Before the interval t: the smallest margin of those passed and the first interval that has it, where `used` says what each asks for. Before the first: one above all, and no interval.
pub record Narrowing (used : ℕ → ℕ) (horizon least at t : ℕ) : Type 0 where
  pub within : at < t
  pub inside : at ≤ horizon
  pub none : at ≡ 0 → (t ≡ 1) × (least ≡ horizon + 1)
  pub reached : 1 ≤ at → least ≡ at - used at
  pub bound : (u : ℕ) → 1 ≤ u → u < t → least ≤ u - used u
  pub earliest : (u : ℕ) → 1 ≤ u → u < at → least < u - used u

module _ (used : ℕ → ℕ) (horizon : ℕ) where
  -- before the first interval
  narrowing_start : Narrowing used horizon (horizon + 1) 0 1
  narrowing_start = record {
    within = omega arith;
    inside = omega arith;
    none = λ e. (refl, refl);
    reached = λ h. absurd (omega arith);
    bound = λ u a b. absurd (omega arith);
    earliest = λ u a b. absurd (omega arith);
  }

  module _ (least at t : ℕ) (before : Narrowing used horizon least at t) (upto : t ≤ horizon) (margin : ℕ) (is : margin ≡ t - used t) where
    -- a smaller margin comes
    narrowing_smaller : margin < least → Narrowing used horizon margin t (t + 1)
    narrowing_smaller smaller = record {
      within = omega arith;
      inside = upto;
      none = λ e. absurd (omega (arith, before.within));
      reached = λ h. is;
      bound = λ u a b. ⊎_elim
          (λ same. rw same (omega (arith, is)))
          (λ less. omega (arith, before.bound u a less))
          (eq-or-lt_of_le {n = u} {m = t} (omega arith));
      earliest = λ u a b. omega (arith, before.bound u a b);
    }

    -- none comes: the first interval always has a smaller one
    narrowing_kept : least ≤ margin → Narrowing used horizon least at (t + 1)
    narrowing_kept kept = record {
      within = omega (arith, before.within);
      inside = before.inside;
      none = λ e. absurd (omega (arith, is, (before.none e).0, (before.none e).1));
      reached = before.reached;
      bound = λ u a b. ⊎_elim
          (λ same. rw same (omega (arith, is)))
          (λ less. before.bound u a less)
          (eq-or-lt_of_le {n = u} {m = t} (omega arith));
      earliest = before.earliest;
    }

-- ---- margins

-- what is asked for at an interval: the engine's demand and fixed demand
abbrev both_at : (ℕ → ℕ) → List fixed.Task → ℕ → ℕ
both_at engine tasks u = engine u + fixed_sum tasks u

-- the largest cell of a line is the demand at its interval, for a graph of n rows
demand_there : (g : Graph) → Sound g → (n : ℕ) → g.rows ≡ n → (cells : List ℕ) (lines : ℕ) → HasLines n (ByInterval g) cells lines → (t : ℕ) → t < lines
    → IsDemand g t (demand_in n cells t)
demand_there g sound n is cells lines = rw (← is) (line_demand g sound cells lines)

-- a graph with this demand at each interval, all of whose intervals up to the horizon are met
module _ (g : Graph) (tasks : List fixed.Task) (horizon : ℕ) (engine : ℕ → ℕ) (demand : (u : ℕ) → u ≤ horizon → IsDemand g u (engine u))
    (met : (u : ℕ) → 1 ≤ u → u ≤ horizon → both_at engine tasks u ≤ u) where
  -- the margin at an interval is not below 0
  margin_at : (u : ℕ) → 1 ≤ u → u ≤ horizon → IsMargin g tasks u (pos (u - both_at engine tasks u))
  margin_at u a b = (engine u, demand u b, sym (rw (margin_sub, le-ltb u (both_at engine tasks u) (met u a b))))

  -- behind the last interval it is the smallest margin
  narrowing_smallest : (least at t : ℕ) → Narrowing (both_at engine tasks) horizon least at t → horizon < t → 1 ≤ at
      → IsSmallestMargin g tasks horizon at (pos least)
  narrowing_smallest least at t all done some = record {
    bound = λ u n a b margin.
        subst (λ (x : ℤ). pos least ≤ℤ x) (margin_unique g tasks u _ n (margin_at u a b) margin)
        (le_z_yes (le→leb _ _ (all.bound u a (omega arith))));
    reached = (some, all.inside, rw (all.reached some) (margin_at at some all.inside));
    earliest = λ u a b margin.
        let same : pos least ≡ pos (u - both_at engine tasks u) =
        margin_unique g tasks u _ _ margin (margin_at u a (omega (arith, all.inside))) in
        let equal : least ≡ u - both_at engine tasks u = cc in
        omega (arith, all.earliest u a b, equal);
  }

-- ---- the loop

-- Before the interval t: fixed demand has run along with the intervals passed, none of them is overrun, and the smallest margin is theirs.
pub record LookingOver (n : ℕ) (cells : List ℕ) (tasks : List Task) (count horizon : ℕ) (dues : List ℕ) (fixed least at t : ℕ) : Type 0 where
  pub sweeping : Sweeping (over_at n cells) tasks count dues fixed t
  pub narrowing : Narrowing (both_at (demand_in n cells) (counted_tasks tasks count)) horizon least at t

module _ (n : ℕ) (cells : List ℕ) (tasks : List Task) (count : ℕ) (proper : ProperTasks tasks count) (horizon : ℕ) (short : horizon ≤ longest_time) where
  -- before the first interval
  pub looking_start : (dues : List ℕ) → Waiting tasks count dues → LookingOver n cells tasks count horizon dues 0 (horizon + 1) 0 1
  looking_start dues waiting = record {
    sweeping = sweeping_start (over_at n cells) tasks count proper dues waiting;
    narrowing = narrowing_start (both_at (demand_in n cells) (counted_tasks tasks count)) horizon;
  }

  module _ (dues : List ℕ) (fixed least at t : ℕ) (before : LookingOver n cells tasks count horizon dues fixed least at t) where
    -- The step to the interval t, with the demand of its line.
    module _ (upto : t ≤ horizon) (new : List ℕ) (work : ℕ) (advanced : Advanced tasks count dues new t work) (engine : ℕ) (most : engine ≡ demand_in n cells t) where
      -- fixed demand there
      there : fixed + work ≡ fixed_sum (counted_tasks tasks count) t
      there = fixed_there (over_at n cells) tasks count proper horizon dues fixed t before.sweeping new work advanced

      -- what is asked for
      asked : t - (engine + (fixed + work)) ≡ t - both_at (demand_in n cells) (counted_tasks tasks count) t
      asked = omega (arith, most, there)

      -- it is not overrun
      passed : engine + (fixed + work) ≤ t → Sweeping (over_at n cells) tasks count new (fixed + work) (t + 1)
      passed fits =
          sweeping_on (over_at n cells) tasks count proper horizon dues fixed t before.sweeping new work advanced
          (le-ltb t (demand_in n cells t + (fixed + work)) (omega (arith, most)))

      -- and its margin is smaller
      pub looking_smaller : engine + (fixed + work) ≤ t → t - (engine + (fixed + work)) < least
          → LookingOver n cells tasks count horizon new (fixed + work) (t - (engine + (fixed + work))) t (t + 1)
      looking_smaller fits smaller = record {
        sweeping = passed fits;
        narrowing = narrowing_smaller _ horizon least at t before.narrowing upto _ asked smaller;
      }

      -- or it is not
      pub looking_kept : engine + (fixed + work) ≤ t → least ≤ t - (engine + (fixed + work))
          → LookingOver n cells tasks count horizon new (fixed + work) least at (t + 1)
      looking_kept fits kept = record { sweeping = passed fits; narrowing = narrowing_kept _ horizon least at t before.narrowing upto _ asked kept }

      -- or it is overrun: the verdict names it, and fixed demand is that of the tasks there
      pub looking_overrun : t < engine + (fixed + work) → IsTightest n tasks count cells horizon (Overrun t (fixed + work))
      looking_overrun over g sound is lines = (
        sweeping_overrun (over_at n cells) tasks count proper horizon dues fixed t before.sweeping new work advanced upto
            (lt-ltb t (demand_in n cells t + (fixed + work)) (omega (arith, most))) g
            (interval_decides g sound n is (counted_tasks tasks count) cells horizon short lines),
        there,
      )

    module _ (done : horizon < t) where
      -- behind the last interval, where no margin was found: there is no interval
      looking_nothing : at ≡ 0 → horizon ≡ 0
      looking_nothing none = omega (arith, (before.narrowing.none none).0)

      -- where one was: no interval is overrun, and it is the smallest
      looking_smallest : 1 ≤ at → IsTightest n tasks count cells horizon (Margin least at)
      looking_smallest some g sound is lines = (
        sweeping_holds (over_at n cells) tasks count proper horizon dues fixed t before.sweeping done g
            (interval_decides g sound n is (counted_tasks tasks count) cells horizon short lines),
        narrowing_smallest g (counted_tasks tasks count) horizon (demand_in n cells)
            (λ u h. demand_there g sound n is cells (horizon + 1) lines u (omega arith))
            (λ u a b. ltb-false u (both_at (demand_in n cells) (counted_tasks tasks count) u) (before.sweeping.met u a (omega arith)))
            least at t before.narrowing done some,
      )

      -- either way what is found is so
      pub looking_done : IsTightest n tasks count cells horizon (smallest_at least at)
      unfolding smallest_at pick
      looking_done =
          ⊎_elim
          (λ none. rw (eq-eqb at 0 (sym none)) (λ g sound is lines. looking_nothing (sym none)))
          (λ some. rw (ne_eqb at 0 (λ none. omega (arith, some, none))) (looking_smallest some))
          (eq-or-lt_of_le {n = 0} {m = at} (omega arith))
