-- The calls leave no choice: two answers that a call's contract allows for the same arguments are equal, for a reader both its bytes and its place, and so are the readers that two steps leave.
use mathlib.Core.Path.{◌≡◌, refl, ◌∙◌, sym}
use seplogic.Ra.Ura.{Ura}
use base.Logic.{SProp}
use prog.Memory.{Memory}
use prog.Routine.{Routine}
use types.Logic.{Logic}
use contract.Lifetimes.{Lfts}
use contract.Monad.{Fun, fact}
use denote.Triple.Clauses.{Ended, Clauses, AtExit}
use denote.Triple.Entry.{Args, Res}
use Rattle.std.specs.Prelude.{Result}
use Rattle.fields.specs.declared.reader.Field.{Field}
use Rattle.fields.specs.declared.refusal.Refusal.{Refusal}
use Rattle.fieldreader.specs.declared.Reader.{Reader}
use Rattle.fieldreader.specs.contracts.Reader.new as new
use Rattle.fieldreader.specs.contracts.Reader.step as step

module _ (T : Ended) where
  -- a function's contract, in every model of the logic
  abbrev Contracts : Type 2
  Contracts = (M : Type 1) (𝓤 : Ura M) (𝓛 : Logic 𝓤) → (Memory → SProp 𝓤) → (Routine → Fun 𝓤) → Clauses 𝓤 T

  -- a fact of lifetimes, arguments, result and what a call leaves in its arguments
  abbrev Facts : Type 1
  Facts = (κs : Lfts T.signature.lifetimes) → Args T.signature κs → Res T.signature κs → AtExit T κs → Type 0

  -- the contract ensures that fact and nothing else
  abbrev Ensures : Contracts → Facts → Type 2
  Ensures contract allows =
      (M : Type 1) (𝓤 : Ura M) (𝓛 : Logic 𝓤) (mem : Memory → SProp 𝓤) (run : Routine → Fun 𝓤) (κs : Lfts T.signature.lifetimes) (args : Args T.signature κs)
      (ghost : (contract M 𝓤 𝓛 mem run κs args).ghost) (x : Res T.signature κs) (exit : AtExit T κs)
      → (contract M 𝓤 𝓛 mem run κs args).ensures ghost x exit ≡ fact 𝓤 (allows κs args x exit)

  -- what a caller has after two calls that the contract allows is the same: `has` is what it has by a result and what is left in the arguments
  pub record Determined {A : Type 0} (contract : Contracts) (has : (κs : Lfts T.signature.lifetimes) → Res T.signature κs → AtExit T κs → A) : Type 2 where
    pub allows : Facts
    pub ensures_that : Ensures contract allows
    pub one : (κs : Lfts T.signature.lifetimes) (args : Args T.signature κs) (x y : Res T.signature κs) (s t : AtExit T κs) → allows κs args x s → allows κs args y t → has κs x s ≡ has κs y t

-- of a new reader, its bytes and its place
pub new_one : Determined new.ended (λ M 𝓤 𝓛. new.clauses 𝓛) (λ κs x s. x)
new_one =
    record {
      allows = _;
      ensures_that = λ M 𝓤 𝓛 mem run κs args ghost x exit. refl;
      one = λ κs args x y s t p q i. record { bytes = (p.0 ∙ sym q.0) i; at = (p.1 ∙ sym q.1) i };
    }

-- of a step, the answer and the reader that it leaves
abbrev AfterStep : Type 0
AfterStep = Result Field Refusal × Reader

pub step_one : Determined step.ended {A = AfterStep} (λ M 𝓤 𝓛. step.clauses 𝓛) (λ κs x s. (x, s.0.now))
step_one =
    record {
      allows = _;
      ensures_that = λ M 𝓤 𝓛 mem run κs args ghost x exit. refl;
      one = λ κs args x y s t p q i. ((p.0 ∙ sym q.0) i, (p.1 ∙ sym q.1) i);
    }
