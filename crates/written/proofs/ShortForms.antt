-- A file's short form, field by field: it is the file itself where an accepted file skips none and takes the shorter form, and else it has fewer bytes.
use Prim.Native.Nat.{ℕ, zero, suc, ◌+◌, ◌-◌, ◌≤◌, ◌<◌}
use native.Mathlib.Numerals.{add-one}
use native.Mathlib.Omega.{arith}
use mathlib.Core.Path.{◌≡◌, ◌∙◌, refl, sym, ap}
use mathlib.Core.Logic.{◌⊎◌, inl, inr, ⊎_elim}
use mathlib.Core.List.{List, [], ◌++◌, append_assoc, append-nil}
use mathlib.Core.Bool.{Bool, true, false, not, true≢false}
use lib.Dec.{eqb}
use lib.ListN.{length, take, drop, length-append, length-take}
use lib.Seq.{take-add, take_all}
use borrow.Author.Tests.{eqb-true, not-false}
use Rattle.std.specs.Prelude.{Result, Ok, Err}
use Rattle.fields.specs.Deciding.{pick, ◌or◌}
use Rattle.fields.specs.Fields.{is_end}
use Rattle.fields.specs.Limits.{mode_size, fallback_size, task_size, jitter_size}
use Rattle.fields.specs.Reading.{word_at, field_at}
use Rattle.fields.specs.declared.table.Kind.{Kind}
use Rattle.fields.specs.declared.table.Kind.TheVariants.{RefusedTag, LabelField, ModeField, RowField, TaskField, EndField, SkippedField}
use Rattle.fields.specs.declared.reader.Field.{Field}
use Rattle.fields.specs.declared.refusal.Refusal.{Refusal}
use Rattle.fields.proofs.Deciding.{neither}
use Rattle.sheet.specs.Judging.{refusal, judged}
use Rattle.sheet.specs.Answer.{Accepted, Judged}
use Rattle.sheet.proofs.Keeping.{Keeps, judged_keeps}
use Rattle.sheet.proofs.Walking.{found, field_in}
use Rattle.written.specs.ShortForm.{is_skipped, has_shorter, shorter_field, short_field, short_step, short_from, short_form, one_step, one_from, has_skipped, takes_shorter}

module _ {A : Type 0} (refused : A) (on : ℕ → Kind → ℕ → ℕ → ℕ → A → A) where
  -- what is said of the field at a place, where `go` says it of the fields behind
  abbrev pub stepped : ℕ → (ℕ → A) → Result Field Refusal → A
  stepped at go (Err refusal) = refused
  stepped at go (Ok field) = on at field.kind field.start field.size field.next (go field.next)

  module _ (bytes : List ℕ) (from : ℕ → ℕ → A) (steps : (n at : ℕ) → from (suc n) at ≡ stepped at (from n) (field_at bytes at)) where
    one_field : (n m at : ℕ) (step : Result Field Refusal) → field_at bytes at ≡ step → ((next : ℕ) → at < next → next ≤ length bytes → from n next ≡ from m next)
        → stepped at (from n) step ≡ stepped at (from m) step
    one_field n m at (Err refusal) e same = refl
    one_field n m at (Ok field) e same =
        let lies = field_in bytes at field.kind field.start field.size field.next e in
        ap (on at field.kind field.start field.size field.next) (same field.next (omega arith) lies.2)

    -- a field has three bytes at least, so nothing is cut short by the number of fields
    never_short : (n m at : ℕ) → at ≤ length bytes → length bytes < n + at → length bytes < m + at → from n at ≡ from m at
    never_short zero m at inside enough other = absurd (omega arith)
    never_short (suc n) zero at inside enough other = absurd (omega arith)
    never_short (suc n) (suc m) at inside enough other =
        steps n at ∙ one_field n m at (field_at bytes at) refl (λ next later lies. never_short n m next lies (omega arith) (omega arith)) ∙ sym (steps m at)

    -- with as many fields as the file can have
    pub field_next : (at start size next : ℕ) (kind : Kind) → field_at bytes at ≡ found kind start size next
        → from (suc (length bytes)) at ≡ on at kind start size next (from (suc (length bytes)) next)
    field_next at start size next kind e =
        let lies = field_in bytes at kind start size next e in
        steps (length bytes) at ∙ ap (stepped at (from (length bytes))) e
        ∙ ap (on at kind start size next) (never_short (length bytes) (suc (length bytes)) next lies.2 (omega arith) (omega arith))

-- a test that is said not to hold
not_true : (test : Bool) → not test ≡ true → test ≡ false
not_true true e = absurd (true≢false (sym e))
not_true false e = refl

-- what a test on a field asks
abbrev Test : Type 0
Test = Kind → ℕ → ℕ → Bool

module _ (bytes : List ℕ) where
  -- the short form from a place on, and whether one of the fields from there on passes a test
  abbrev pub short_after : ℕ → List ℕ
  short_after at = short_from bytes (suc (length bytes)) at

  abbrev one_after : Test → ℕ → Bool
  one_after test at = one_from bytes test (suc (length bytes)) at

  -- what one field adds to either
  abbrev short_on : ℕ → Kind → ℕ → ℕ → ℕ → List ℕ → List ℕ
  short_on at kind start size next rest = short_field bytes at kind start size next ++ pick (is_end kind) [] rest

  abbrev one_on : Test → ℕ → Kind → ℕ → ℕ → ℕ → Bool → Bool
  one_on test at kind start size next rest = test kind start size or pick (is_end kind) false rest

  short_stepped : (at : ℕ) (go : ℕ → List ℕ) (step : Result Field Refusal) → short_step bytes at go step ≡ stepped [] short_on at go step
  unfolding short_step
  short_stepped at go (Err refusal) = refl
  short_stepped at go (Ok field) = refl

  one_stepped : (test : Test) (at : ℕ) (go : ℕ → Bool) (step : Result Field Refusal) → one_step test go step ≡ stepped false (one_on test) at go step
  unfolding one_step
  one_stepped test at go (Err refusal) = refl
  one_stepped test at go (Ok field) = refl

  -- from the start on it is the whole file
  pub short_all : short_form bytes ≡ short_after 0
  unfolding short_form
  short_all = ap (λ (n : ℕ). short_from bytes n 0) (add-one (length bytes))

  one_all : (test : Test) → one_from bytes test (length bytes + 1) 0 ≡ one_after test 0
  one_all test = ap (λ (n : ℕ). one_from bytes test n 0) (add-one (length bytes))

  module _ (at start size next : ℕ) (kind : Kind) (here : field_at bytes at ≡ found kind start size next) where
    pub short_field_lem : short_after at ≡ short_field bytes at kind start size next ++ pick (is_end kind) [] (short_after next)
    unfolding short_from
    short_field_lem = field_next [] short_on bytes (short_from bytes) (λ n place. short_stepped place (short_from bytes n) (field_at bytes place)) at start size next kind here

    one_field_more : (test : Test) → one_after test at ≡ test kind start size or pick (is_end kind) false (one_after test next)
    unfolding one_from
    one_field_more test = field_next false (one_on test) bytes (one_from bytes test) (λ n place. one_stepped test place (one_from bytes test n) (field_at bytes place)) at start size next kind here

  -- the two tests on a field that is not kept as it is
  abbrev skipping : Test
  skipping kind start size = is_skipped kind

  abbrev shortening : Test
  shortening = has_shorter bytes

module _ (bytes : List ℕ) (none-skipped : has_skipped bytes ≡ false) (shorter : takes_shorter bytes ≡ true) where
  -- at a place where a field starts: none behind it is skipped or has a shorter form, and before it all is kept
  record AllKept (at : ℕ) : Type 0 where
    skips : one_after bytes (skipping bytes) at ≡ false
    shortens : one_after bytes (shortening bytes) at ≡ false
    kept : short_form bytes ≡ take at bytes ++ short_after bytes at

  abbrev Answers : Judged → Type 0
  Answers answer = answer.answer ≡ Accepted → short_form bytes ≡ bytes

  module _ (at start size next : ℕ) (kind : Kind) (here : field_at bytes at ≡ found kind start size next) (so_far : AllKept at) where
    unskipped : (is_skipped kind ≡ false) × (pick (is_end kind) false (one_after bytes (skipping bytes) next) ≡ false)
    unskipped = neither _ _ (sym (one_field_more bytes at start size next kind here (skipping bytes)) ∙ so_far.skips)

    unshortened : (has_shorter bytes kind start size ≡ false) × (pick (is_end kind) false (one_after bytes (shortening bytes) next) ≡ false)
    unshortened = neither _ _ (sym (one_field_more bytes at start size next kind here (shortening bytes)) ∙ so_far.shortens)

    -- the field is kept, and what is kept behind it follows
    field_kept : short_form bytes ≡ take next bytes ++ pick (is_end kind) [] (short_after bytes next)
    unfolding pick
    field_kept =
        let behind = pick (is_end kind) [] (short_after bytes next) in
        let own : short_field bytes at kind start size next ≡ take (next - at) (drop at bytes) = rw (unskipped.0, unshortened.0) refl in
        let far : at + (next - at) ≡ next = omega (arith, field_in bytes at kind start size next here) in
        let both : take at bytes ++ take (next - at) (drop at bytes) ≡ take next bytes = sym (take-add at (next - at) bytes) ∙ ap (λ (n : ℕ). take n bytes) far in
        so_far.kept ∙ ap (λ (l : List ℕ). take at bytes ++ l) (short_field_lem bytes at start size next kind here ∙ ap (λ (l : List ℕ). l ++ behind) own)
        ∙ sym (append_assoc (take at bytes) (take (next - at) (drop at bytes)) behind)
        ∙ ap (λ (l : List ℕ). l ++ behind) both

    -- every field but the end field leaves it so for the next
    goes_on : is_end kind ≡ false → AllKept next
    unfolding pick
    goes_on on = record { skips = rw on at unskipped.1; shortens = rw on at unshortened.1; kept = rw on at field_kept }

  nothing_read : AllKept 0
  unfolding has_skipped takes_shorter
  nothing_read =
      record {
        skips = sym (one_all bytes (skipping bytes)) ∙ none-skipped;
        shortens = sym (one_all bytes (shortening bytes)) ∙ not_true _ shorter;
        kept = short_all bytes;
      }

  keeps_all : Keeps bytes (λ at _. AllKept at) Answers
  unfolding refusal pick
  keeps_all =
      record {
        none = nothing_read;
        refused = λ reason place o inside e. let z : ◌≡◌ {A = ℕ} 0 1 = cc in absurd (omega arith);
        label = λ sheet at start size next e p common own. goes_on at start size next _ e p refl;
        mode = λ sheet at start size next e p common own. goes_on at start size next _ e p refl;
        row = λ sheet at start size next e p common own. goes_on at start size next _ e p refl;
        task = λ sheet at start size next e p common own. goes_on at start size next _ e p refl;
        skipped = λ sheet at start size next e p. goes_on at start size next _ e p refl;
        accepted = λ sheet at start size next e p order long followers end a.
            field_kept at start size next _ e p ∙ append-nil _ ∙ take_all next bytes (omega arith);
      }

  -- an accepted file that skips nothing and takes the shorter form is its short form
  pub short_itself : (judged bytes).answer ≡ Accepted → short_form bytes ≡ bytes
  short_itself = judged_keeps bytes (λ at _. AllKept at) Answers keeps_all

-- what a chosen test and either of two tests say
chosen : (a b : Bool) → pick a b false ≡ true → a ≡ true
unfolding pick
chosen true b e = refl
chosen false b e = absurd (true≢false (sym e))

either : (a b : Bool) → pick a true b ≡ true → (a ≡ true) ⊎ (b ≡ true)
unfolding pick
either true b e = inl refl
either false b e = inr e

-- only a field with its last number has a shorter form
pub longer_size : (size long : ℕ) (same : Bool) → pick (eqb size long) same false ≡ true → size ≡ long
longer_size size long same e = eqb-true _ _ (chosen (eqb size long) same e)

-- a part has no more bytes than are taken
taken_most : (n : ℕ) (l : List ℕ) → length (take n l) ≤ n
taken_most n l = simp length-take (omega arith)

-- the shorter form has fewer bytes than the field
shorter_long : (bytes : List ℕ) (kind : Kind) (start size : ℕ) → has_shorter bytes kind start size ≡ true → length (shorter_field bytes kind start) < 3 + size
shorter_long bytes RefusedTag start size e = absurd (true≢false (sym e))
shorter_long bytes LabelField start size e = absurd (true≢false (sym e))
shorter_long bytes ModeField start size e =
    omega (arith, longer_size size (mode_size + fallback_size) (eqb (word_at bytes (start + mode_size)) (word_at bytes start)) e, taken_most mode_size (drop start bytes))
shorter_long bytes RowField start size e = absurd (true≢false (sym e))
shorter_long bytes TaskField start size e =
    omega (arith, longer_size size (task_size + jitter_size) (eqb (word_at bytes (start + task_size)) 0) e, taken_most task_size (drop start bytes))
shorter_long bytes EndField start size e = absurd (true≢false (sym e))
shorter_long bytes SkippedField start size e = absurd (true≢false (sym e))

module _ (bytes : List ℕ) where
  -- a field that is not kept as it is
  abbrev changed : Test
  changed kind start size = is_skipped kind or has_shorter bytes kind start size

  -- a field in its short form has no more bytes than the field, and fewer where it is changed
  module _ (at start size next : ℕ) (kind : Kind) (here : field_at bytes at ≡ found kind start size next) where
    field_long : (skips has : Bool) → has_shorter bytes kind start size ≡ has
        → let own = pick skips [] (pick has (shorter_field bytes kind start) (take (next - at) (drop at bytes))) in
        (length own + at ≤ next) × ((skips or has) ≡ true → length own + at < next)
    unfolding pick
    field_long true has e = (omega (arith, field_in bytes at kind start size next here), λ _. omega (arith, field_in bytes at kind start size next here))
    field_long false true e =
        let fewer = shorter_long bytes kind start size e in
        (omega (arith, fewer, field_in bytes at kind start size next here), λ _. omega (arith, fewer, field_in bytes at kind start size next here))
    field_long false false e =
        (omega (arith, taken_most (next - at) (drop at bytes), field_in bytes at kind start size next here), λ none. absurd (true≢false (sym none)))

  module _ (test : Test) (changes : (kind : Kind) (start size : ℕ) → test kind start size ≡ true → changed kind start size ≡ true) where
    -- so much is left from a place on
    abbrev Fits : ℕ → List ℕ → Bool → Type 0
    Fits at short one = (length short + at ≤ length bytes) × (one ≡ true → length short + at < length bytes)

    behind : (end : Bool) (next : ℕ) (short : List ℕ) (one : Bool) → next ≤ length bytes → Fits next short one → Fits next (pick end [] short) (pick end false one)
    unfolding pick
    behind true next short one inside fits = (omega arith, λ none. absurd (true≢false (sym none)))
    behind false next short one inside fits = fits

    one_step_lem : (n at : ℕ) → at ≤ length bytes → ((next : ℕ) → next ≤ length bytes → Fits next (short_from bytes n next) (one_from bytes test n next))
        → (step : Result Field Refusal) → field_at bytes at ≡ step → Fits at (short_step bytes at (short_from bytes n) step) (one_step test (one_from bytes test n) step)
    unfolding short_step one_step
    one_step_lem n at inside rest (Err refusal) e = (omega arith, λ none. absurd (true≢false (sym none)))
    one_step_lem n at inside rest (Ok field) e =
        let kind = field.kind in
        let start = field.start in
        let size = field.size in
        let next = field.next in
        let lies = field_in bytes at kind start size next e in
        let own = field_long at start size next kind e (is_skipped kind) (has_shorter bytes kind start size) refl in
        let more = behind (is_end kind) next (short_from bytes n next) (one_from bytes test n next) lies.2 (rest next lies.2) in
        let both = length-append (short_field bytes at kind start size next) (pick (is_end kind) [] (short_from bytes n next)) in (
          omega (arith, own.0, more.0, both),
          λ one.
              ⊎_elim (λ here. omega (arith, own.1 (changes kind start size here), more.0, both)) (λ later. omega (arith, own.0, more.1 later, both))
              (either (test kind start size) _ one),
        )

    fits_from : (n at : ℕ) → at ≤ length bytes → Fits at (short_from bytes n at) (one_from bytes test n at)
    unfolding short_from one_from
    fits_from zero at inside = (omega arith, λ none. absurd (true≢false (sym none)))
    fits_from (suc n) at inside = one_step_lem n at inside (fits_from n) (field_at bytes at) refl

    -- where one field is changed, the short form has fewer bytes than the file
    fewer : one_from bytes test (length bytes + 1) 0 ≡ true → length (short_form bytes) < length bytes
    unfolding short_form
    fewer one = omega (arith, (fits_from (length bytes + 1) 0 (omega arith)).1 one)

  -- a file that skips a field, or does not take the shorter form, is longer than its short form
  pub fewer_skipped : has_skipped bytes ≡ true → length (short_form bytes) < length bytes
  unfolding has_skipped pick
  fewer_skipped skips = fewer (λ kind start size. is_skipped kind) (λ kind start size e. rw e refl) skips

  pub fewer_shorter : takes_shorter bytes ≡ false → length (short_form bytes) < length bytes
  unfolding takes_shorter pick
  fewer_shorter longer = fewer (has_shorter bytes) (λ kind start size e. second (is_skipped kind) _ e) (not-false _ longer)
    where
      second : (a b : Bool) → b ≡ true → pick a true b ≡ true
      second true b e = refl
      second false b e = e
