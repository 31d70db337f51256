-- A sweep over the intervals up to a horizon: what holds while it goes on, and what its end says.
use mathlib.Core.Path.{◌≡◌, refl, sym, ap, ap₂, ◌∙◌}
use mathlib.Core.Logic.{⊎_elim}
use mathlib.Core.Bool.{Bool, true, false}
use mathlib.Core.List.{List}
use Prim.Native.Nat.{ℕ, ◌+◌, ◌^◌, ◌≤◌, ◌<◌}
use native.Mathlib.Nat.{eq-or-lt_of_le}
use native.Mathlib.Omega.{arith}
use Rattle.meaning.specs.Graph.{Graph}
use Rattle.meaning.specs.Demand.{longest_time}
use Rattle.meaning.specs.Fixed.{fixed_sum}
use Rattle.meaning.specs.Verdict.{holds, overrun, IsVerdict}
use Rattle.fields.specs.declared.values.Task.{Task}
use Rattle.tables.specs.Testing.{Decides}
use Rattle.overruns.specs.Releases.{counted_tasks, ProperTasks, Advanced, Waiting}
use Rattle.overruns.proofs.ProperTasks.{tasks_fit}
use Rattle.overruns.proofs.Releases.{Running, running_start, running_on}

-- Before the interval t: fixed demand has run along with the intervals passed, and none of them is overrun.
pub record Sweeping (over : ℕ → ℕ → Bool) (tasks : List Task) (count : ℕ) (dues : List ℕ) (fixed t : ℕ) : Type 0 where
  pub passed : ℕ
  pub next : t ≡ passed + 1
  pub running : Running tasks count dues passed fixed
  pub met : (u : ℕ) → 1 ≤ u → u < t → over u (fixed_sum (counted_tasks tasks count) u) ≡ false

module _ (over : ℕ → ℕ → Bool) (tasks : List Task) (count : ℕ) (proper : ProperTasks tasks count) where
  -- before the first interval
  pub sweeping_start : (dues : List ℕ) → Waiting tasks count dues → Sweeping over tasks count dues 0 1
  sweeping_start dues waiting = record {
    passed = 0;
    next = refl;
    running = running_start tasks count proper dues waiting;
    met = λ u a b. absurd (omega arith);
  }

  module _ (horizon : ℕ) (dues : List ℕ) (fixed t : ℕ) (before : Sweeping over tasks count dues fixed t) where
    -- The step to the interval t, which is none behind the horizon.
    module _ (new : List ℕ) (work : ℕ) (advanced : Advanced tasks count dues new t work) where
      -- fixed demand has run along to it
      running_there : Running tasks count new t (fixed + work)
      running_there = rw before.next (running_on tasks count proper dues before.passed fixed before.running new work (rw before.next at advanced))

      -- so what the code has is fixed demand
      pub fixed_there : fixed + work ≡ fixed_sum (counted_tasks tasks count) t
      fixed_there = running_there.sum_is

      -- and fits
      pub fixed_few : t ≤ longest_time → fixed + work < 2 ^ 48
      fixed_few h = omega (arith, fixed_there, tasks_fit tasks count proper t h)

      -- it is not overrun
      pub sweeping_on : over t (fixed + work) ≡ false → Sweeping over tasks count new (fixed + work) (t + 1)
      sweeping_on passed = record {
        passed = t;
        next = refl;
        running = running_there;
        met = λ u a b. ⊎_elim
            (λ same. ap₂ over same (ap (fixed_sum (counted_tasks tasks count)) same ∙ sym fixed_there) ∙ passed)
            (λ less. before.met u a less)
            (eq-or-lt_of_le {n = u} {m = t} (omega arith));
      }

      -- it is overrun: the verdict names it
      pub sweeping_overrun : t ≤ horizon → over t (fixed + work) ≡ true → (g : Graph) → Decides g (counted_tasks tasks count) horizon over
          → IsVerdict g (counted_tasks tasks count) horizon (overrun t)
      sweeping_overrun h hit g decides = (
        omega (arith, before.next),
        h,
        (decides t h).0 (ap (over t) (sym fixed_there) ∙ hit),
        λ u a b. (decides u (omega arith)).1 (before.met u a b),
      )

    -- behind the horizon: no interval is overrun
    pub sweeping_holds : horizon < t → (g : Graph) → Decides g (counted_tasks tasks count) horizon over → IsVerdict g (counted_tasks tasks count) horizon holds
    sweeping_holds h g decides u a b = (decides u b).1 (before.met u a (omega arith))
