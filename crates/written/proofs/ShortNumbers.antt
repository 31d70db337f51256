-- The shorter forms of a mode and of a fixed task: how many bytes and numbers they have, by whether the fall-back is the boundary and the jitter is 0.
use Prim.Native.Nat.{◌+◌, ◌*◌, ◌/◌}
use mathlib.Core.Path.{◌≡◌, refl}
use mathlib.Core.Logic.{⊎_elim}
use mathlib.Core.Bool.{Bool, true, false}
use mathlib.Core.List.{[], ◌∷◌}
use lib.Dec.{eqb}
use lib.ListN.{length, take}
use Rattle.meaning.proofs.Tests.{bool_or}
use Rattle.fields.specs.Deciding.{pick}
use Rattle.fields.specs.Fields.{line_of, fields}
use Rattle.fields.specs.Limits.{mode_size, fallback_size, task_size, jitter_size}
use Rattle.fields.specs.Values.{short_size, short_task_size}
use Rattle.rules.specs.Rules.{wrong_length}
use Rattle.fields.specs.declared.values.Mode.{Mode}
use Rattle.fields.specs.declared.values.Task.{Task}
use Rattle.written.specs.Values.{ModeEntry, TaskEntry}
use Rattle.written.specs.Written.{words, mode_numbers, task_numbers, content_of}

-- what holds whatever a test says
pub either_way : (test : Bool) (F : Type 0) → (test ≡ true → F) → (test ≡ false → F) → F
either_way test F same other = ⊎_elim same other (bool_or test)

module _ (mode : Mode) where
  -- its content has so many bytes
  pub mode_long : length (content_of (ModeEntry mode)) ≡ short_size mode
  unfolding content_of mode_numbers words short_size pick
  mode_long = either_way (eqb mode.fallback.0 mode.boundary.0) _ (λ same. rw same refl) (λ other. rw other refl)

  -- with a band it has the bytes of the fall-back more
  pub band_size : short_size mode ≡ mode_size + fallback_size * pick (eqb mode.fallback.0 mode.boundary.0) 0 1
  unfolding short_size pick
  band_size = either_way (eqb mode.fallback.0 mode.boundary.0) _ (λ same. rw same refl) (λ other. rw other refl)

  -- which rule 5 allows
  pub short_right : wrong_length 2 (short_size mode) ≡ false
  unfolding wrong_length line_of fields short_size pick
  short_right = either_way (eqb mode.fallback.0 mode.boundary.0) _ (λ same. rw same refl) (λ other. rw other refl)

  -- its numbers are as many of these three
  pub numbers_taken : take (short_size mode / 2) (mode.boundary.0 ∷ mode.length.0 ∷ mode.fallback.0 ∷ []) ≡ mode_numbers mode
  unfolding short_size mode_numbers pick
  numbers_taken = either_way (eqb mode.fallback.0 mode.boundary.0) _ (λ same. rw same refl) (λ other. rw other refl)

-- and so of a fixed task, with a jitter or without
module _ (task : Task) where
  pub task_long : length (content_of (TaskEntry task)) ≡ short_task_size task
  unfolding content_of task_numbers words short_task_size pick
  task_long = either_way (eqb task.jitter.0 0) _ (λ none. rw none refl) (λ some. rw some refl)

  pub jitter_size_lem : short_task_size task ≡ task_size + jitter_size * pick (eqb task.jitter.0 0) 0 1
  unfolding short_task_size pick
  jitter_size_lem = either_way (eqb task.jitter.0 0) _ (λ none. rw none refl) (λ some. rw some refl)

  pub task_short_right : wrong_length 4 (short_task_size task) ≡ false
  unfolding wrong_length line_of fields short_task_size pick
  task_short_right = either_way (eqb task.jitter.0 0) _ (λ none. rw none refl) (λ some. rw some refl)

  pub task_numbers_taken : take (short_task_size task / 2) (task.length.0 ∷ task.period.0 ∷ task.deadline.0 ∷ task.jitter.0 ∷ []) ≡ task_numbers task
  unfolding short_task_size task_numbers pick
  task_numbers_taken = either_way (eqb task.jitter.0 0) _ (λ none. rw none refl) (λ some. rw some refl)
