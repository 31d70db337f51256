-- How a chain of tests is decided, one test after the other (`search judging`), and what the first broken rule says.
use Prim.Native.Nat.{ℕ, zero, suc, ◌+◌, ◌<◌, ◌≤◌}
use native.Mathlib.Nat.{eq-or-lt_of_le}
use native.Mathlib.Omega.{arith}
use mathlib.Core.Path.{◌≡◌, ◌∙◌, refl, sym, ap}
use mathlib.Core.Logic.{⊎_elim}
use mathlib.Core.List.{List, [], ◌∷◌, ◌++◌}
use mathlib.Core.Bool.{Bool, true, false, ◌&&◌, true≢false}
use lib.Dec.{T, ltb, leb, leb→le}
use mir.Facts.{and_yes, yes_and}
use borrow.Author.Tests.{lt-ltb, le-ltb, le-leb, lt-leb, eq-eqb, ne_eqb, ltb-true, ltb-false}
use Rattle.std.specs.Prelude.{Result, Ok, Err, is_ok}
use Rattle.std.proofs.Common.{Ordering, Less, Equal, Greater}
use Rattle.std.specs.Ordering.{MatchOrdering, nat_cmp, is_lt as before, is_le as upto}
use Rattle.std.specs.Cmp.{ranks}
use denote.Enum.Bare.{sameb}
use Rattle.fields.specs.contracts.table.Kind.{the_type}
use Rattle.fields.specs.declared.table.Kind.{Kind}
use Rattle.fields.specs.declared.table.Kind.TheVariants.{RefusedTag, LabelField, ModeField, RowField, TaskField, EndField, SkippedField}
use Rattle.fields.specs.Fields.{is_refused, is_end}
use Rattle.fields.specs.Deciding.{Rule, ◌when◌, pick, judged_by, first_broken, any_from}
use Rattle.fields.specs.Refusals.{rule_number}
use Rattle.fields.specs.declared.refusal.Reason.{Reason}

pub yes : {A : Type 0} (b : Bool) (x y z : A) → b ≡ true → z ≡ x → z ≡ pick b x y
unfolding pick
yes b x y z e h = rw e h

pub no : {A : Type 0} (b : Bool) (x y z : A) → b ≡ false → z ≡ y → z ≡ pick b x y
unfolding pick
no b x y z e h = rw e h

-- what follows from either of two promises follows from the one that a test has chosen
pub pick_case : (test : Bool) (T E C : Type 0) → (test ≡ true → T → C) → (test ≡ false → E → C) → pick test T E → C
unfolding pick
pick_case true T E C yes-case no-case promise = yes-case refl promise
pick_case false T E C yes-case no-case promise = no-case refl promise

-- two promises chosen by the same test are both the one or both the other
pub pick_alike : (test : Bool) (T U E F C : Type 0) → (T → U → C) → (E → F → C) → pick test T E → pick test U F → C
unfolding pick
pick_alike true T U E F C yes_both no_both a b = yes_both a b
pick_alike false T U E F C yes_both no_both a b = no_both a b

-- a call that answered a test's value
pub told : (r b v : Bool) → r ≡ b → r ≡ v → b ≡ v
told r b v p q = sym p ∙ q

-- a test's value, answered
pub is_lt : (a b : ℕ) → a < b → true ≡ ltb a b
is_lt a b h = sym (lt-ltb a b h)

pub is_not_lt : (a b : ℕ) → b ≤ a → false ≡ ltb a b
is_not_lt a b h = sym (le-ltb a b h)

-- a call that answered a test's value, as a fact about the numbers
pub told_lt : (r : Bool) (a b : ℕ) → r ≡ ltb a b → r ≡ true → a < b
told_lt r a b p q = ltb-true a b (told r (ltb a b) true p q)

pub told_le : (r : Bool) (a b : ℕ) → r ≡ ltb a b → r ≡ false → b ≤ a
told_le r a b p q = ltb-false a b (told r (ltb a b) false p q)

-- a rule whose test a call answered: it was not broken, and the next rules decide
pub kept : {A : Type 0} (b : Bool) (x y z : A) (r : Bool) → r ≡ b → r ≡ false → z ≡ y → z ≡ pick b x y
kept b x y z r p q h = no b x y z (told r b false p q) h

-- what the derived comparisons of speeds and times answer, in the words of the definitions
pub below_ltb : (a b : ℕ) → before (nat_cmp a b) ≡ ltb a b
below_ltb a b = go (nat_cmp a b) (ranks a b)
  where
    go : (o : Ordering) → MatchOrdering o (a < b) (a ≡ b) (b < a) → before o ≡ ltb a b
    go Less h = sym (lt-ltb a b h)
    go Equal h = sym (le-ltb a b (omega arith))
    go Greater h = sym (le-ltb a b (omega arith))

pub upto_leb : (a b : ℕ) → upto (nat_cmp a b) ≡ leb a b
upto_leb a b = go (nat_cmp a b) (ranks a b)
  where
    go : (o : Ordering) → MatchOrdering o (a < b) (a ≡ b) (b < a) → upto o ≡ leb a b
    go Less h = sym (le-leb a b (omega arith))
    go Equal h = sym (le-leb a b (omega arith))
    go Greater h = sym (lt-leb a b h)

pub answers_lt : (r : Bool) (a b : ℕ) → r ≡ before (nat_cmp a b) → r ≡ ltb a b
answers_lt r a b p = p ∙ below_ltb a b

pub answers_le : (r : Bool) (a b : ℕ) → r ≡ upto (nat_cmp a b) → r ≡ leb a b
answers_le r a b p = p ∙ upto_leb a b

pub told_before : (r : Bool) (a b : ℕ) (v : Bool) → r ≡ before (nat_cmp a b) → r ≡ v → ltb a b ≡ v
told_before r a b v p q = told r (ltb a b) v (answers_lt r a b p) q

pub told_upto : (r : Bool) (a b : ℕ) (v : Bool) → r ≡ upto (nat_cmp a b) → r ≡ v → leb a b ≡ v
told_upto r a b v p q = told r (leb a b) v (answers_le r a b p) q

-- and what `==` answers of a kind
pub refused_kind : (kind : Kind) → sameb the_type kind RefusedTag ≡ is_refused kind
refused_kind RefusedTag = refl
refused_kind LabelField = refl
refused_kind ModeField = refl
refused_kind RowField = refl
refused_kind TaskField = refl
refused_kind EndField = refl
refused_kind SkippedField = refl

pub told_refused : (r : Bool) (kind other : Kind) (v : Bool) → kind ≡ other → r ≡ sameb the_type kind RefusedTag → r ≡ v → is_refused other ≡ v
told_refused r kind other v e p q = ap is_refused (sym e) ∙ sym (refused_kind kind) ∙ told r (sameb the_type kind RefusedTag) v p q

pub end_kind : (kind : Kind) → sameb the_type kind EndField ≡ is_end kind
end_kind RefusedTag = refl
end_kind LabelField = refl
end_kind ModeField = refl
end_kind RowField = refl
end_kind TaskField = refl
end_kind EndField = refl
end_kind SkippedField = refl

pub ruleset judging = (no, yes, told, told_before, told_upto, answers_lt, answers_le, is_lt, is_not_lt, lt-ltb, le-ltb, le-leb, lt-leb, eq-eqb, ne_eqb)

-- neither of two tests held
pub neither : (a b : Bool) → pick a true b ≡ false → (a ≡ false) × (b ≡ false)
unfolding pick
neither true b e = absurd (true≢false e)
neither false b e = (refl, e)

-- where none of them passes, each fails
pub any_false : (f : ℕ → Bool) (k n : ℕ) → any_from f k n ≡ false → (i : ℕ) → k ≤ i → i < k + n → f i ≡ false
unfolding any_from
any_false f k zero e i l h = absurd (omega arith)
any_false f k (suc n) e i l h =
    let both = neither (f k) (any_from f (suc k) n) e in
    ⊎_elim (λ here. rw (← here) both.0) (λ later. any_false f (suc k) n both.1 i later (omega arith)) (eq-or-lt_of_le l)

-- the last rule that a file can break
abbrev pub last_rule : ℕ
last_rule = 10

-- a reason for which a file is refused
abbrev pub OfFile : Reason → Type 0
OfFile reason = (1 ≤ rule_number reason) × (rule_number reason ≤ last_rule)

-- every rule has such a reason: a test that antt computes on a written list
abbrev pub of_file : List Rule → Bool
of_file [] = true
of_file (reason when b ∷ rules) = leb 1 (rule_number reason) && leb (rule_number reason) last_rule && of_file rules

pub first_of_file : (reason : Reason) (b : Bool) (rules : List Rule) → T (of_file (reason when b ∷ rules)) → OfFile reason × T (of_file rules)
first_of_file reason b rules t =
    let all = and_yes (leb 1 (rule_number reason) && leb (rule_number reason) last_rule) (of_file rules) t in
    let own = and_yes (leb 1 (rule_number reason)) (leb (rule_number reason) last_rule) all.0 in
    ((leb→le 1 (rule_number reason) own.0, leb→le (rule_number reason) last_rule own.1), all.1)

-- no rule of the list is broken
abbrev pub Kept : List Rule → Type 0
Kept [] = Unit {0}
Kept (reason when b ∷ rules) = (b ≡ false) × Kept rules

-- a reason is never the answer that no rule is broken, and no two of them are one answer
pub no_reason : {C : Type 0} (reason : Reason) → ◌≡◌ {A = Result (Unit {0}) Reason} (Err reason) (Ok tt) → C
no_reason reason e = absurd (true≢false (sym (ap is_ok e)))

abbrev reason_in : Reason → Result (Unit {0}) Reason → Reason
reason_in other (Ok t) = other
reason_in other (Err reason) = reason

pub same_reason : (a b : Reason) → ◌≡◌ {A = Result (Unit {0}) Reason} (Err a) (Err b) → a ≡ b
same_reason a b e = ap (reason_in a) e

pub all_kept : (rules : List Rule) → first_broken rules ≡ Ok tt → Kept rules
unfolding pick first_broken
all_kept [] e = tt
all_kept (reason when true ∷ rules) e = no_reason reason e
all_kept (reason when false ∷ rules) e = (refl, all_kept rules e)

-- rules that stand one after the other: the first that is broken, and where none of the first is broken those behind them decide
pub stop : (first rest : List Rule) (reason : Reason) → Err reason ≡ first_broken first → Err reason ≡ first_broken (first ++ rest)
unfolding pick first_broken
stop [] rest reason e = no_reason reason e
stop (other when true ∷ first) rest reason e = e
stop (other when false ∷ first) rest reason e = stop first rest reason e

pub pass : (first rest : List Rule) (r : Result (Unit {0}) Reason) → Ok tt ≡ first_broken first → r ≡ first_broken rest → r ≡ first_broken (first ++ rest)
unfolding pick first_broken
pass [] rest r z e = e
pass (reason when true ∷ first) rest r z e = no_reason reason (sym z)
pass (reason when false ∷ first) rest r z e = pass first rest r z e

pub both_kept : (first rest : List Rule) → Kept (first ++ rest) → Kept first × Kept rest
both_kept [] rest k = (tt, k)
both_kept (reason when b ∷ first) rest k =
    let both = both_kept first rest k.1 in
    ((k.0, both.0), both.1)

pub both_of_file : (first rest : List Rule) → T (of_file first) → T (of_file rest) → T (of_file (first ++ rest))
both_of_file [] rest t u = u
both_of_file (reason when b ∷ first) rest t u =
    let all = and_yes (leb 1 (rule_number reason) && leb (rule_number reason) last_rule) (of_file first) t in
    yes_and (leb 1 (rule_number reason) && leb (rule_number reason) last_rule) (of_file (first ++ rest)) all.0 (both_of_file first rest all.1 u)

-- what the first broken rule decides, and what none decides
module _ {A : Type 0} (refuse : Reason → A) (ok : A) where
  pub by_broken : (rules : List Rule) (reason : Reason) → Err reason ≡ first_broken rules → judged_by refuse rules ok ≡ refuse reason
  unfolding pick first_broken
  by_broken [] reason e = no_reason reason e
  by_broken (other when true ∷ rules) reason e = ap refuse (sym (same_reason reason other e))
  by_broken (other when false ∷ rules) reason e = by_broken rules reason e

  pub by_none : (rules : List Rule) → first_broken rules ≡ Ok tt → judged_by refuse rules ok ≡ ok
  unfolding pick first_broken
  by_none [] e = refl
  by_none (reason when true ∷ rules) e = no_reason reason e
  by_none (reason when false ∷ rules) e = by_none rules e
