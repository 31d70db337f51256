-- What it means that `explain` and a verdict say the same.
use Rattle.std.specs.Prelude.{ℕ, ◌⊎◌, ◌≡◌, Option, Some, None, Result, Ok, Err}
use Rattle.fields.specs.declared.refusal.Reason.TheVariants.{ShortArea}
use Rattle.fields.specs.declared.refusal.Refusal.{Refusal}
use Rattle.explain.specs.declared.Explained.{Explained}
use Rattle.explain.specs.declared.Explained.TheVariants.{Holds, NoInterval, Fails}

-- the verdict holds, names the same interval, or refuses alike; refusal 13, which no verdict has, is given where the verdict fails
abbrev pub SameVerdict : Result Explained Refusal → Result (Option ℕ) Refusal → Type 0
SameVerdict (Ok (Holds margin interval)) verdict = verdict ≡ Ok None
SameVerdict (Ok NoInterval) verdict = verdict ≡ Ok None
SameVerdict (Ok (Fails told)) verdict = verdict ≡ Ok (Some told.interval)
SameVerdict (Err refusal) verdict =
    (verdict ≡ Err refusal) ⊎ ((refusal ≡ record { reason = ShortArea; place = 0 }) × ((interval : ℕ) × (verdict ≡ Ok (Some interval))))
