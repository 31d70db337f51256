-- What it means that a call's contract leaves no choice, and that those of the calls on sets leave none.
use Prim.Native.Nat.{ℕ}
use mathlib.Core.Path.{◌≡◌, ◌∙◌, sym}
use mathlib.Core.List.{List}
use contract.Lifetimes.{Lfts}
use denote.Triple.Clauses.{AtExit}
use borrow.Fn.Kinds.{ParamKind, ResultKind, Dens, Out, res_t, ended_of}
use Rattle.sets.proofs.size.Kinds as size
use Rattle.sets.proofs.size.Reads as size-reads
use Rattle.sets.proofs.below_row.Kinds as Below-row
use Rattle.sets.proofs.below_row.Reads as below-row-reads
use Rattle.sets.proofs.next_from.Kinds as next-from
use Rattle.sets.proofs.next_from.Reads as next-from-reads

-- two results that a contract allows for the same arguments have the same value: `tells` is what the contract's `ensures` tells a caller
abbrev pub Determines : {A : Type 0} (n : ℕ) (ps : List (ParamKind n)) (r : ResultKind n) → Out n ps r → ((κs : Lfts n) → (res_t r κs).Denot → A) → Type 0
Determines n ps r tells value =
    (κs : Lfts n) (args : Dens κs ps) (x y : (res_t r κs).Denot) (s t : AtExit (ended_of n ps r) κs)
    → tells κs args x s → tells κs args y t → value κs x ≡ value κs y

-- so does every contract that says which value it is
pub one_value : {A : Type 0} (n : ℕ) (ps : List (ParamKind n)) (r : ResultKind n) (value : (κs : Lfts n) → (res_t r κs).Denot → A) (f : (κs : Lfts n) → Dens κs ps → A)
    → Determines n ps r (λ κs args x s. value κs x ≡ f κs args) value
one_value n ps r value f κs args x y s t p q = p ∙ sym q

pub size_one : Determines 0 size.ps size.r size-reads.Learnt (λ κs x. x)
size_one κs args x y s t p q = p.0 ∙ sym q.0

pub below_row_one : Determines 0 Below-row.ps Below-row.r below-row-reads.Learnt (λ κs x. x)
below_row_one κs args x y s t p q = p.0 ∙ sym q.0

pub next_from_one : Determines 0 next-from.ps next-from.r next-from-reads.Learnt (λ κs x. x)
next_from_one = one_value 0 next-from.ps next-from.r (λ κs x. x) _
