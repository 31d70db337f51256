-- What each fixed task asks for at an interval: an array of it written from the front, and its sum.
use mathlib.Core.Path.{◌≡◌, refl, sym, ap, ap₂, ◌∙◌}
use mathlib.Core.List.{List, [], ◌∷◌, ◌++◌, sum, sum-append}
use Prim.Native.Nat.{ℕ, zero, suc, ◌+◌, ◌<◌}
use native.Mathlib.Nat.{zero-add, add_assoc}
use native.Mathlib.Numerals.{add-one}
use native.Mathlib.Omega.{arith}
use lib.ListN.{length, get_or, set, take, drop, replicate, length-map}
use lib.Seq.{length-take-le, take_all, drop-cons, append_snoc, set_at}
use Rattle.meaning.specs.Fixed.{Task, fixed_of, fixed_sum}
use Rattle.fields.specs.Limits.{task_limit}
use Rattle.sheet.specs.Meaning.{times_of}
use Rattle.fields.specs.Values.{no_task}
use Rattle.fields.specs.declared.values.Task as values
use Rattle.overruns.specs.Releases.{counted_tasks, ProperTasks}
use Rattle.overruns.proofs.ProperTasks.{tasks_count, task_of}
use Rattle.explain.specs.Reasons.{each_demand}
use Rattle.explain.specs.Calls.{no_demands, all_demands}

-- the demands of one more task
each_more : (tasks : List Task) (t i : ℕ) (default : Task) → i < length tasks
    → each_demand (take (suc i) tasks) t ≡ each_demand (take i tasks) t ++ (fixed_of (get_or tasks i default) t ∷ [])
each_more [] t i default h = absurd (omega arith)
each_more (task ∷ tasks) t zero default h = refl
each_more (task ∷ tasks) t (suc i) default h = ap (λ (rest : List ℕ). fixed_of task t ∷ rest) (each_more tasks t i default (omega arith))

-- the demands of the first i tasks, and the array as it was from there on
abbrev pub demands_up_to : List Task → ℕ → ℕ → List ℕ
demands_up_to tasks t i = each_demand (take i tasks) t ++ drop i no_demands

-- one demand more is stored behind them
demand_stored : (tasks : List Task) (t i : ℕ) (default : Task) → i < length tasks → i < task_limit
    → set (demands_up_to tasks t i) i (fixed_of (get_or tasks i default) t) ≡ demands_up_to tasks t (suc i)
demand_stored tasks t i default h few =
    let before : List ℕ = each_demand (take i tasks) t in
    let demand : ℕ = fixed_of (get_or tasks i default) t in
    let as_many : length before ≡ i = length-map (take i tasks) _ ∙ length-take-le i tasks (omega arith) in
    ap (λ (rest : List ℕ). set (before ++ rest) i demand) (drop-cons no_demands i 0 few)
    ∙ set_at before (get_or no_demands i 0) (drop (suc i) no_demands) demand i as_many
    ∙ sym (append_snoc before demand (drop (suc i) no_demands))
    ∙ ap (λ (front : List ℕ). front ++ drop (suc i) no_demands) (sym (each_more tasks t i default h))

module _ (tasks : List values.Task) (count : ℕ) (proper : ProperTasks tasks count) (t : ℕ) where
  -- the demand of the next task is stored
  pub demand_more : (demands : List ℕ) (i demand : ℕ) → i < count
      → demands ≡ demands_up_to (counted_tasks tasks count) t i → demand ≡ fixed_of (times_of (get_or tasks i no_task)) t
      → set demands i demand ≡ demands_up_to (counted_tasks tasks count) t (i + 1)
  demand_more demands i demand h so_far e =
      let next : demand ≡ fixed_of (get_or (counted_tasks tasks count) i (times_of no_task)) t =
      e ∙ ap (λ (task : Task). fixed_of task t) (sym (task_of tasks count proper i (times_of no_task) h)) in
      ap₂ (λ (list : List ℕ) (v : ℕ). set list i v) so_far next
      ∙ demand_stored (counted_tasks tasks count) t i (times_of no_task) (omega (arith, tasks_count tasks count proper)) (omega (arith, proper.most))
      ∙ ap (demands_up_to (counted_tasks tasks count) t) (sym (add-one i))

  -- behind the last task the array is what is promised
  pub demands_whole : (i : ℕ) → i ≡ count → demands_up_to (counted_tasks tasks count) t i ≡ all_demands (counted_tasks tasks count) t
  demands_whole i e =
      let all : length (counted_tasks tasks count) ≡ i = tasks_count tasks count proper ∙ sym e in
      ap₂ (λ (some : List Task) (n : ℕ). each_demand some t ++ drop n no_demands)
      (take_all i (counted_tasks tasks count) (omega (arith, all)))
      (sym (length-map (counted_tasks tasks count) _ ∙ all))

-- what the tasks ask for adds up to fixed demand
pub demands_add_up : (tasks : List Task) (t : ℕ) → sum ◌+◌ 0 (each_demand tasks t) ≡ fixed_sum tasks t
unfolding sum fixed_sum
demands_add_up [] t = refl
demands_add_up (task ∷ tasks) t = ap (λ (rest : ℕ). fixed_of task t + rest) (demands_add_up tasks t)

-- zeros add up to 0
zeros_add_up : (n most : ℕ) → sum ◌+◌ 0 (drop n (replicate most 0)) ≡ 0
unfolding sum
zeros_add_up zero zero = refl
zeros_add_up zero (suc most) = zero-add (sum ◌+◌ 0 (replicate most 0)) ∙ zeros_add_up zero most
zeros_add_up (suc n) zero = refl
zeros_add_up (suc n) (suc most) = zeros_add_up n most

-- and the whole array adds up to fixed demand too
pub all_demands_add_up : (tasks : List Task) (t : ℕ) → sum ◌+◌ 0 (all_demands tasks t) ≡ fixed_sum tasks t
all_demands_add_up tasks t =
    let each : List ℕ = each_demand tasks t in
    sum-append ◌+◌ 0 zero-add add_assoc each (drop (length each) no_demands)
    ∙ omega (arith, demands_add_up tasks t, zeros_add_up (length each) task_limit)
