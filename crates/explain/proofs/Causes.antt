-- The three causes exclude each other and are together an overrun; the excess is the margin with the other sign; and the engine alone is the cause only where a job is longer than its deadline.
use mathlib.Core.Path.{◌≡◌, refl, ◌∙◌}
use mathlib.Core.Logic.{⊎_elim}
use mathlib.Core.List.{List, [], ◌∷◌}
use Prim.Native.Nat.{ℕ, suc, ◌+◌, ◌-◌, ◌<◌}
use native.Mathlib.Omega.{arith}
use lib.IntN.{ℤ, pos, neg_ℤ, sub_ℕ}
use borrow.Author.Tests.{lt-ltb}
use Rattle.meaning.specs.Graph.{Graph, Sound}
use Rattle.meaning.specs.Sequence.{AllowedFrom, end_from, amount_from, Allowed, end_time, amount}
use Rattle.meaning.specs.Demand.{IsDemand}
use Rattle.meaning.specs.Fixed.{Task, fixed_sum}
use Rattle.meaning.specs.Verdict.{IsMargin, Overruns}
use Rattle.meaning.proofs.Sequences.{head_in}
use Rattle.meaning.proofs.Margins.{margin_sub, margin_unique, overruns_by_demand}
use Rattle.meaning.proofs.Tests.{lt_or}
use Rattle.meaning.proofs.Unique.{demand_unique}
use Rattle.explain.specs.Reasons.{Sums, IsCause, excess_of}
use Rattle.explain.specs.declared.Cause.{Cause}
use Rattle.explain.specs.declared.Cause.TheVariants.{Engine, Fixed, Together}

-- the sums of two causes never hold at once
pub sums_exclude : (a b : Cause) (t engine fixed : ℕ) → Sums a t engine fixed → Sums b t engine fixed → a ≡ b
sums_exclude Engine Engine t engine fixed p q = refl
sums_exclude Engine Fixed t engine fixed p q = absurd (omega (arith, p, q.0))
sums_exclude Engine Together t engine fixed p q = absurd (omega (arith, p, q.0))
sums_exclude Fixed Engine t engine fixed p q = absurd (omega (arith, p.0, q))
sums_exclude Fixed Fixed t engine fixed p q = refl
sums_exclude Fixed Together t engine fixed p q = absurd (omega (arith, p.1, q.1))
sums_exclude Together Engine t engine fixed p q = absurd (omega (arith, p.0, q))
sums_exclude Together Fixed t engine fixed p q = absurd (omega (arith, p.1, q.1))
sums_exclude Together Together t engine fixed p q = refl

-- where those of one hold, both demands together are more than the interval
sums_exceed : (cause : Cause) (t engine fixed : ℕ) → Sums cause t engine fixed → t < engine + fixed
sums_exceed Engine t engine fixed p = omega (arith, p)
sums_exceed Fixed t engine fixed p = omega (arith, p.1)
sums_exceed Together t engine fixed p = p.2

-- and where they are more, those of one hold
pub some_sums : (t engine fixed : ℕ) → t < engine + fixed → (cause : Cause) × Sums cause t engine fixed
some_sums t engine fixed more =
    ⊎_elim
    (λ l. (Engine, l))
    (λ few. ⊎_elim (λ l. (Fixed, (few, l))) (λ fewer. (Together, (few, fewer, more))) (lt_or t fixed))
    (lt_or t engine)

module _ (g : Graph) (tasks : List Task) (t : ℕ) where
  -- there is one cause
  cause_unique : (a b : Cause) → IsCause g tasks t a → IsCause g tasks t b → a ≡ b
  cause_unique a b (engine, demand, sums) (engine', demand', sums') =
      let same : engine' ≡ engine = demand_unique g t engine' engine demand' demand in
      sums_exclude a b t engine (fixed_sum tasks t) sums (rw same at sums')

  -- a cause is found only where the interval is overrun
  pub cause_overruns : (cause : Cause) → IsCause g tasks t cause → Overruns g tasks t
  cause_overruns cause (engine, demand, sums) = (overruns_by_demand g tasks t engine demand).1 (sums_exceed cause t engine (fixed_sum tasks t) sums)

  -- where it is overrun, exactly one cause is found
  pub overrun_has_one_cause : Overruns g tasks t → (cause : Cause) × IsCause g tasks t cause × ((other : Cause) → IsCause g tasks t other → other ≡ cause)
  overrun_has_one_cause over =
      let engine : ℕ = over.1.0 in
      let demand : IsDemand g t engine = over.1.1 in
      let found = some_sums t engine (fixed_sum tasks t) ((overruns_by_demand g tasks t engine demand).0 over) in
      let is : IsCause g tasks t found.0 = (engine, demand, found.1) in
      (found.0, is, λ other q. cause_unique other found.0 q is)

  -- the excess is the margin with the other sign
  pub excess_is_margin : (engine : ℕ) (m : ℤ) → IsDemand g t engine → t < engine + fixed_sum tasks t → IsMargin g tasks t m
      → m ≡ neg_ℤ (pos (excess_of t engine (fixed_sum tasks t)))
  excess_is_margin engine m demand more margin =
      margin_unique g tasks t m _ margin (engine, demand, refl) ∙ margin_sub t engine (fixed_sum tasks t) ∙ below t (engine + fixed_sum tasks t) more
    where
      below : (t sum : ℕ) → t < sum → sub_ℕ t sum ≡ neg_ℤ (pos (sum - t))
      below t sum l =
          let some : sum - t ≡ suc (sum - suc t) = omega arith in
          rw (lt-ltb t sum l, some) refl

-- a row whose job is longer than its deadline
abbrev pub LongJob : Graph → Type 0
LongJob g = (k : ℕ) × (k < g.rows) × (g.deadline k < g.length k)

module _ (g : Graph) (sound : Sound g) where
  -- a sequence with more work than time has one: gaps are no shorter than deadlines, so jobs that fit one by one fit in a row
  long_job_in : (k : ℕ) (rest : List ℕ) → AllowedFrom g k rest → end_from g k rest < amount_from g k rest → LongJob g
  long_job_in k [] allowed more = (k, allowed, more)
  long_job_in k (j ∷ rest) (inside, follows, allowed) more =
      ⊎_elim
      (λ long. (k, inside, long))
      (λ fits. long_job_in j rest allowed (omega (arith, sound.gap_at_least_deadline k j inside (head_in g j rest allowed) follows)))
      (lt_or (g.deadline k) (g.length k))

  long_job_of : (w : List ℕ) → Allowed g w → end_time g w < amount g w → LongJob g
  long_job_of [] allowed more = absurd allowed
  long_job_of (k ∷ rest) allowed more = long_job_in k rest allowed more

  -- so the engine alone is the cause only where some row's job is longer than its deadline
  pub engine_alone_long_job : (tasks : List Task) (t : ℕ) → IsCause g tasks t Engine → LongJob g
  engine_alone_long_job tasks t (engine, demand, more) =
      ⊎_elim
      (λ attained. long_job_of attained.0 attained.1.0 (omega (arith, attained.1.1, attained.2, more)))
      (λ none. absurd (omega (arith, none.0, more)))
      demand.reached
