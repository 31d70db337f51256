-- What the call `write` promises: its answer, and every byte of the output.
use Rattle.std.specs.Prelude.{ℕ, ◌≡◌, List, [], ◌∷◌, ◌++◌, ltb, length, drop, Result, Ok}
use Rattle.fields.specs.Deciding.{Rule, ◌when◌}
use Rattle.fields.specs.Refusals.{refused}
use Rattle.fields.specs.declared.refusal.Reason.{Reason}
use Rattle.fields.specs.declared.refusal.Reason.TheVariants.{ShortOutput}
use Rattle.fields.specs.declared.refusal.Refusal.{Refusal}
use Rattle.sheet.specs.Judging.{judged}
use Rattle.beginning.specs.Beginning.{Begins}
use Rattle.written.specs.Values.{Values}
use Rattle.written.specs.Written.{written}

-- the rule of the call: rule 15 where the output is shorter than the sheet
abbrev pub write_rules : Values → List ℕ → List Rule
write_rules values output = ShortOutput when (ltb (length output) (length (written values))) ∷ []

-- a refusal has place 0, and writes nothing
abbrev pub WriteRefuses : List ℕ → Result ℕ Refusal → List ℕ → Reason → ℕ → Type 0
WriteRefuses output answer output' reason place = (answer ≡ refused reason 0) × (output' ≡ output)

-- the sheet stands at the front of the output, and behind it what was there; the answer is its size
abbrev pub WriteGives : Values → List ℕ → Result ℕ Refusal → List ℕ → Type 0
WriteGives values output answer output' =
    (answer ≡ Ok (length (written values))) × (output' ≡ written values ++ drop (length (written values)) output)

-- refused as a reader refuses what would be written, else by rule 15, else written
abbrev pub WriteCall : Values → List ℕ → Result ℕ Refusal → List ℕ → Type 0
WriteCall values output answer output' =
    Begins (judged (written values)).answer (write_rules values output)
    (WriteRefuses output answer output')
    (WriteGives values output answer output')
