-- Every case of the table holds: one test is computed for all of them, and one law says what that means for each.
use Prim.Native.Nat.{ℕ, zero, suc, ◌+◌}
use native.Mathlib.Omega.{arith}
use mathlib.Core.Path.{◌≡◌, refl, sym, ap, ◌∙◌, subst}
use mathlib.Core.Bool.{Bool, true, false, ◌&&◌}
use mathlib.Core.List.{List, [], ◌∷◌}
use lib.Dec.{T, leb, ltb, eqb, leb→le, eqb→eq, ltb→lt}
use lib.IntN.{ℤ, pos, negsuc}
use Rattle.sets.specs.Sets.{below, next_in}
use Rattle.meaning.specs.Graph.{Sound}
use Rattle.meaning.specs.Demand.{longest_time, no_time, IsDemand, IsWitness, IsShortest}
use Rattle.meaning.specs.Fixed.{fixed_of, fixed_sum}
use Rattle.meaning.specs.Verdict.{IsMargin}
use Rattle.meaning.specs.Computed.{step_at, best_within, best, least_at, least_within, least, demand_of, shortest_of, rest_within, witness_of, margin_of}
use Rattle.meaning.proofs.Existence.{demand_of_lem, shortest_of_lem, witness_of_lem, margin_of_lem}
use Rattle.std.specs.Prelude.{Result}
use Rattle.fields.specs.declared.refusal.Refusal.{Refusal}
use Rattle.fields.specs.Deciding.{pick, any_from, first_broken}
use Rattle.fields.specs.Fields.{line_of, fields}
use Rattle.fields.specs.Reading.{field_at}
use Rattle.fields.specs.Values.{empty_sheet}
use Rattle.modes.specs.Modes.{first_length, length_in, job_length}
use Rattle.rules.specs.Rules.{missing, out_of_order, wrong_length, unlike_set, full, bad_byte, bad_text, bad_rpm, bad_fallback, last_hangs, unknown_in, unknown_follower, common_rules, text_rules, mode_rules, row_rules, task_rules}
use Rattle.sheet.specs.Content.{gap_shorter, row_gap_rules}
use Rattle.sheet.specs.Judging.{refusal, head_rules, own_rules, with_field, end_judged, on_field, walk, judged}
use Rattle.sheet.specs.Meaning.{graph_of, each_task, tasks_of}
use Rattle.sheet.specs.Proper.{Bytes}
use Rattle.sheet.specs.Answer.{Answer, Accepted, Refused}
use Rattle.sheet.proofs.Accepted.{accepted_proper}
use Rattle.sheet.proofs.ProperGraph.{proper_sound}
use Rattle.desk.specs.Answers.{shortest_numbers}
use Rattle.beginning.specs.Beginning.{graph, tasks}
use Rattle.desk.proofs.Agreement.{calls_agree}
use Rattle.proved_cases.specs.Cases.{Case, demand, witness, shortest, refused, margin, Accepts, Holds, All, cases}

-- ---- the test

abbrev is_accepted : Answer → Bool
is_accepted Accepted = true
is_accepted (Refused reason place) = false

abbrev all_bytes : List ℕ → Bool
all_bytes [] = true
all_bytes (b ∷ bytes) = ltb b 256 && all_bytes bytes

abbrev accepts : List ℕ → Bool
accepts bytes = is_accepted (judged bytes).answer && all_bytes bytes

abbrev same_rows : List ℕ → List ℕ → Bool
same_rows [] [] = true
same_rows [] (b ∷ v) = false
same_rows (a ∷ w) [] = false
same_rows (a ∷ w) (b ∷ v) = eqb a b && same_rows w v

abbrev same_signed : ℤ → ℤ → Bool
same_signed (pos m) (pos n) = eqb m n
same_signed (pos m) (negsuc n) = false
same_signed (negsuc m) (pos n) = false
same_signed (negsuc m) (negsuc n) = eqb m n

-- the value of a case, computed, is the one in the table
abbrev right : Case → Bool
right (demand bytes t d) = accepts bytes && eqb (demand_of (graph bytes) t) d
right (witness bytes t d rows) = accepts bytes && (eqb (demand_of (graph bytes) t) d && same_rows (witness_of (graph bytes) t) rows)
right (shortest bytes b time) = accepts bytes && eqb (shortest_of (graph bytes) b) time
right (refused bytes b number) = accepts bytes && (eqb number 14 && ((leb 1 b && leb b (longest_time + 1)) && eqb (shortest_of (graph bytes) b) no_time))
right (margin bytes t m) = accepts bytes && same_signed (margin_of (graph bytes) (tasks bytes) t) m

abbrev every : List Case → Bool
every [] = true
every (c ∷ table) = right c && every table

-- ---- the law

both : (a b : Bool) → T (a && b) → T a × T b
both true b t = (tt, t)
both false b t = absurd t

same_rows_lem : (w v : List ℕ) → T (same_rows w v) → w ≡ v
same_rows_lem [] [] t = refl
same_rows_lem [] (b ∷ v) t = absurd t
same_rows_lem (a ∷ w) [] t = absurd t
same_rows_lem (a ∷ w) (b ∷ v) t =
    let parts = both (eqb a b) (same_rows w v) t in
    let first : a ≡ b = eqb→eq a b parts.0 in
    let rest : w ≡ v = same_rows_lem w v parts.1 in
    cc

same_signed_lem : (m n : ℤ) → T (same_signed m n) → m ≡ n
same_signed_lem (pos m) (pos n) t = ap pos (eqb→eq m n t)
same_signed_lem (pos m) (negsuc n) t = absurd t
same_signed_lem (negsuc m) (pos n) t = absurd t
same_signed_lem (negsuc m) (negsuc n) t = ap negsuc (eqb→eq m n t)

all_bytes_lem : (bytes : List ℕ) → T (all_bytes bytes) → Bytes bytes
all_bytes_lem [] t i = omega arith
all_bytes_lem (b ∷ bytes) t zero = ltb→lt b 256 (both (ltb b 256) (all_bytes bytes) t).0
all_bytes_lem (b ∷ bytes) t (suc i) = all_bytes_lem bytes (both (ltb b 256) (all_bytes bytes) t).1 i

is_accepted_lem : (answer : Answer) → T (is_accepted answer) → answer ≡ Accepted
is_accepted_lem Accepted t = refl
is_accepted_lem (Refused reason place) t = absurd t

-- the judge accepts the sheet, so its graph is sound
module _ (bytes : List ℕ) (t : T (accepts bytes)) where
  accepted : Accepts bytes
  accepted = is_accepted_lem (judged bytes).answer (both (is_accepted (judged bytes).answer) (all_bytes bytes) t).0

  sound : Sound (graph bytes)
  sound =
      proper_sound bytes (judged bytes).sheet
      (accepted_proper bytes (all_bytes_lem bytes (both (is_accepted (judged bytes).answer) (all_bytes bytes) t).1) accepted)

law : (c : Case) → T (right c) → Holds c
law (demand bytes t d) h =
    let parts = both (accepts bytes) _ h in (
      accepted bytes parts.0,
      subst (IsDemand (graph bytes) t) (eqb→eq _ d parts.1) (demand_of_lem (graph bytes) (sound bytes parts.0) t),
    )
law (witness bytes t d rows) h =
    let parts = both (accepts bytes) _ h in
    let values = both (eqb (demand_of (graph bytes) t) d) _ parts.1 in (
      accepted bytes parts.0,
      subst (IsDemand (graph bytes) t) (eqb→eq _ d values.0) (demand_of_lem (graph bytes) (sound bytes parts.0) t),
      subst (IsWitness (graph bytes) t) (same_rows_lem _ rows values.1) (witness_of_lem (graph bytes) (sound bytes parts.0) t),
    )
law (shortest bytes b time) h =
    let parts = both (accepts bytes) _ h in (
      accepted bytes parts.0,
      subst (IsShortest (graph bytes) b) (eqb→eq _ time parts.1) (shortest_of_lem (graph bytes) (sound bytes parts.0) b),
    )
law (refused bytes b number) h =
    let parts = both (accepts bytes) _ h in
    let values = both (eqb number 14) _ parts.1 in
    let asked = both (leb 1 b && leb b (longest_time + 1)) _ values.1 in
    let range = both (leb 1 b) _ asked.0 in
    let none : IsShortest (graph bytes) b no_time = subst (IsShortest (graph bytes) b) (eqb→eq _ no_time asked.1) (shortest_of_lem (graph bytes) (sound bytes parts.0) b) in (
      accepted bytes parts.0,
      λ answer call.
          ap (λ (one : Result ℕ Refusal). (shortest_numbers one).number)
          (((calls_agree bytes (accepted bytes parts.0)).no_interval b answer (leb→le 1 b range.0) (leb→le b _ range.1) call).1
          (λ w enough. omega (arith, none.bound w enough, enough.2)))
          ∙ sym (eqb→eq number 14 values.0),
    )
law (margin bytes t m) h =
    let parts = both (accepts bytes) _ h in (
      accepted bytes parts.0,
      subst (IsMargin (graph bytes) (tasks bytes) t) (same_signed_lem _ m parts.1) (margin_of_lem (graph bytes) (sound bytes parts.0) (tasks bytes) t),
    )

all : (table : List Case) → T (every table) → All table
all [] t = tt
all (c ∷ table) t =
    let parts = both (right c) (every table) t in
    (law c parts.0, all table parts.1)

pub cases_hold : All cases
unfolding cases step_at best_within best least_at least_within least demand_of shortest_of rest_within witness_of margin_of fixed_of fixed_sum pick any_from first_broken line_of fields field_at empty_sheet first_length length_in job_length missing out_of_order wrong_length unlike_set full bad_byte bad_text bad_rpm bad_fallback last_hangs gap_shorter unknown_in unknown_follower common_rules text_rules mode_rules row_rules row_gap_rules task_rules refusal head_rules own_rules with_field end_judged on_field walk judged graph_of each_task tasks_of below next_in
cases_hold = all cases tt
