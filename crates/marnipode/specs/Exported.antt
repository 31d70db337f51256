-- What each exported call promises: the numbers of an answer that the call's own promise allows, with the cells and bytes that it then leaves.
use Rattle.std.specs.Prelude.{ℕ, ◌≡◌, List, ℤ, Option, Result}
use Rattle.fields.specs.declared.refusal.Refusal.{Refusal}
use Rattle.desk.specs.Calls.{DemandCall, MarginCall, ShortestCall, VerdictByIntervalCall, VerdictByAmountCall}
use Rattle.desk.specs.declared.Attained.{Attained}
use Rattle.explain.specs.Calls.{ExplainCall}
use Rattle.explain.specs.declared.Explained.{Explained}
use Rattle.numbers.specs.Flat.{flat_demand, flat_margin, flat_shortest, flat_verdict}
use Rattle.numbers.specs.declared.DemandForC.{DemandForC}
use Rattle.numbers.specs.declared.MarginForC.{MarginForC}
use Rattle.numbers.specs.declared.ShortestForC.{ShortestForC}
use Rattle.numbers.specs.declared.VerdictForC.{VerdictForC}
use Rattle.explain_numbers.specs.Flat.{flat_explained}
use Rattle.explain_numbers.specs.declared.ExplainForC.{ExplainForC}
use Rattle.written.specs.Values.{Values}
use Rattle.writer.specs.Calls.{WriteCall}
use Rattle.writer_numbers.specs.Flat.{flat_written}
use Rattle.writer_numbers.specs.declared.WriteForC.{WriteForC}

-- an answer of a type A that is allowed and has these numbers
abbrev pub Numbers : {A N : Type 0} → (A → Type 0) → (A → N) → N → Type 0
Numbers {A} Allowed flat numbers = (answer : A) × Allowed answer × (numbers ≡ flat answer)

abbrev pub DemandExport : List ℕ → ℕ → List ℕ → List ℕ → DemandForC → List ℕ → List ℕ → Type 0
DemandExport bytes t cells area numbers cells' area' =
    Numbers (λ (answer : Result Attained Refusal). DemandCall bytes t cells area answer cells' area') flat_demand numbers

abbrev pub MarginExport : List ℕ → ℕ → List ℕ → MarginForC → List ℕ → Type 0
MarginExport bytes t cells numbers cells' = Numbers (λ (answer : Result ℤ Refusal). MarginCall bytes t cells answer cells') flat_margin numbers

abbrev pub ShortestExport : List ℕ → ℕ → List ℕ → ShortestForC → List ℕ → Type 0
ShortestExport bytes b cells numbers cells' = Numbers (λ (answer : Result ℕ Refusal). ShortestCall bytes b cells answer cells') flat_shortest numbers

abbrev pub VerdictByIntervalExport : List ℕ → ℕ → List ℕ → VerdictForC → List ℕ → Type 0
VerdictByIntervalExport bytes horizon cells numbers cells' =
    Numbers (λ (answer : Result (Option ℕ) Refusal). VerdictByIntervalCall bytes horizon cells answer cells') flat_verdict numbers

abbrev pub VerdictByAmountExport : List ℕ → ℕ → List ℕ → VerdictForC → List ℕ → Type 0
VerdictByAmountExport bytes horizon cells numbers cells' =
    Numbers (λ (answer : Result (Option ℕ) Refusal). VerdictByAmountCall bytes horizon cells answer cells') flat_verdict numbers

abbrev pub ExplainExport : List ℕ → ℕ → List ℕ → List ℕ → ExplainForC → List ℕ → List ℕ → Type 0
ExplainExport bytes horizon cells area numbers cells' area' =
    Numbers (λ (explained : Result Explained Refusal). ExplainCall bytes horizon cells area explained cells' area') flat_explained numbers

abbrev pub WriteExport : Values → List ℕ → WriteForC → List ℕ → Type 0
WriteExport values output numbers output' = Numbers (λ (answer : Result ℕ Refusal). WriteCall values output answer output') flat_written numbers
