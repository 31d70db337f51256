-- The exported calls leave no choice either: two structs of numbers that a call's contract allows are equal, and so are the cells and bytes left with them.
use Prim.Native.Nat.{ℕ}
use mathlib.Core.Path.{◌≡◌, sym, ap, ◌∙◌}
use mathlib.Core.List.{List}
use Rattle.fields.proofs.Determined.{Determines, one_value}
use Rattle.desk.specs.Calls.{MarginCall, ShortestCall, VerdictByIntervalCall, VerdictByAmountCall}
use Rattle.desk.proofs.Determined.{demand_determined, margin_determined, shortest_determined, verdict_by_interval_determined, verdict_by_amount_determined}
use Rattle.explain.proofs.Determined.{explain_determined}
use Rattle.numbers.specs.Flat.{flat_demand, flat_margin, flat_shortest, flat_verdict}
use Rattle.explain_numbers.specs.Flat.{flat_explained}
use Rattle.marnipode.specs.Exported.{Numbers, DemandExport, MarginExport, ShortestExport, VerdictByIntervalExport, VerdictByAmountExport, ExplainExport, WriteExport}
use Rattle.numbers.specs.declared.DemandForC.{DemandForC}
use Rattle.numbers.specs.declared.MarginForC.{MarginForC}
use Rattle.numbers.specs.declared.ShortestForC.{ShortestForC}
use Rattle.numbers.specs.declared.VerdictForC.{VerdictForC}
use Rattle.explain_numbers.specs.declared.ExplainForC.{ExplainForC}
use Rattle.written.specs.Values.{Values}
use Rattle.writer.specs.Calls.{WriteCall}
use Rattle.writer.proofs.Determined.{write_determined}
use Rattle.writer_numbers.specs.Flat.{flat_written}
use Rattle.writer_numbers.specs.declared.WriteForC.{WriteForC}
use Rattle.marnipode.proofs.marnipode_judge.Kinds as judge
use Rattle.marnipode.proofs.marnipode_judge.Reads as judge-reads
use Rattle.marnipode.proofs.marnipode_label.Kinds as label
use Rattle.marnipode.proofs.marnipode_label.Reads as label-reads
use Rattle.marnipode.proofs.marnipode_field_at.Kinds as field_at
use Rattle.marnipode.proofs.marnipode_field_at.Reads as field-at-reads
use Rattle.marnipode.proofs.marnipode_mode.Kinds as mode
use Rattle.marnipode.proofs.marnipode_mode.Reads as mode-reads
use Rattle.marnipode.proofs.marnipode_row.Kinds as row
use Rattle.marnipode.proofs.marnipode_row.Reads as row_reads
use Rattle.marnipode.proofs.marnipode_gap.Kinds as gap
use Rattle.marnipode.proofs.marnipode_gap.Reads as gap-reads
use Rattle.marnipode.proofs.marnipode_task.Kinds as task
use Rattle.marnipode.proofs.marnipode_task.Reads as task-reads

-- the exports that are lent nothing: the contract says which struct it is
pub judge_export_one : Determines 1 judge.ps judge.r judge-reads.Learnt (λ κs x. x)
judge_export_one = one_value 1 judge.ps judge.r (λ κs x. x) _

pub label_export_one : Determines 1 label.ps label.r label-reads.Learnt (λ κs x. x)
label_export_one = one_value 1 label.ps label.r (λ κs x. x) _

pub field_at_export_one : Determines 1 field_at.ps field_at.r field-at-reads.Learnt (λ κs x. x)
field_at_export_one = one_value 1 field_at.ps field_at.r (λ κs x. x) _

pub mode_export_one : Determines 1 mode.ps mode.r mode-reads.Learnt (λ κs x. x)
mode_export_one = one_value 1 mode.ps mode.r (λ κs x. x) _

pub row_export_one : Determines 1 row.ps row.r row_reads.Learnt (λ κs x. x)
row_export_one = one_value 1 row.ps row.r (λ κs x. x) _

pub gap_export_one : Determines 1 gap.ps gap.r gap-reads.Learnt (λ κs x. x)
gap_export_one = one_value 1 gap.ps gap.r (λ κs x. x) _

pub task_export_one : Determines 1 task.ps task.r task-reads.Learnt (λ κs x. x)
task_export_one = one_value 1 task.ps task.r (λ κs x. x) _

-- one answer has one struct of numbers
same_numbers : {A N : Type 0} (flat : A → N) (x y : A) (n m : N) → x ≡ y → n ≡ flat x → m ≡ flat y → n ≡ m
same_numbers flat x y n m same e f = e ∙ ap flat same ∙ sym f

-- so what determines an answer and the cells left with it determines its numbers and the cells
export_determined : {A N : Type 0} (Call : A → List ℕ → Type 0)
    → ((x y : A) (left right : List ℕ) → Call x left → Call y right → (x ≡ y) × (left ≡ right))
    → (flat : A → N) (n m : N) (left right : List ℕ) → Numbers (λ answer. Call answer left) flat n → Numbers (λ answer. Call answer right) flat m
    → (n ≡ m) × (left ≡ right)
export_determined Call one flat n m left right (x, p, e) (y, q, f) =
    let same = one x y left right p q in
    (same_numbers flat x y n m same.0 e f, same.1)

module _ (bytes : List ℕ) (number : ℕ) (cells : List ℕ) where
  pub demand_export_determined : (area : List ℕ) (n m : DemandForC) (cells₁ cells₂ area₁ area₂ : List ℕ)
      → DemandExport bytes number cells area n cells₁ area₁ → DemandExport bytes number cells area m cells₂ area₂
      → (n ≡ m) × (cells₁ ≡ cells₂) × (area₁ ≡ area₂)
  demand_export_determined area n m cells₁ cells₂ area₁ area₂ (x, p, e) (y, q, f) =
      let same = demand_determined bytes number cells area x y cells₁ cells₂ area₁ area₂ p q in
      (same_numbers flat_demand x y n m same.0 e f, same.1, same.2)

  pub margin_export_determined : (n m : MarginForC) (left right : List ℕ)
      → MarginExport bytes number cells n left → MarginExport bytes number cells m right → (n ≡ m) × (left ≡ right)
  margin_export_determined = export_determined (MarginCall bytes number cells) (margin_determined bytes number cells) flat_margin

  pub shortest_export_determined : (n m : ShortestForC) (left right : List ℕ)
      → ShortestExport bytes number cells n left → ShortestExport bytes number cells m right → (n ≡ m) × (left ≡ right)
  shortest_export_determined = export_determined (ShortestCall bytes number cells) (shortest_determined bytes number cells) flat_shortest

  pub verdict_by_interval_export_determined : (n m : VerdictForC) (left right : List ℕ)
      → VerdictByIntervalExport bytes number cells n left → VerdictByIntervalExport bytes number cells m right → (n ≡ m) × (left ≡ right)
  verdict_by_interval_export_determined =
      export_determined (VerdictByIntervalCall bytes number cells) (verdict_by_interval_determined bytes number cells) flat_verdict

  pub verdict_by_amount_export_determined : (n m : VerdictForC) (left right : List ℕ)
      → VerdictByAmountExport bytes number cells n left → VerdictByAmountExport bytes number cells m right → (n ≡ m) × (left ≡ right)
  verdict_by_amount_export_determined =
      export_determined (VerdictByAmountCall bytes number cells) (verdict_by_amount_determined bytes number cells) flat_verdict

  pub explain_export_determined : (area : List ℕ) (n m : ExplainForC) (cells₁ cells₂ area₁ area₂ : List ℕ)
      → ExplainExport bytes number cells area n cells₁ area₁ → ExplainExport bytes number cells area m cells₂ area₂
      → (n ≡ m) × (cells₁ ≡ cells₂) × (area₁ ≡ area₂)
  explain_export_determined area n m cells₁ cells₂ area₁ area₂ (x, p, e) (y, q, f) =
      let same = explain_determined bytes number cells area x y cells₁ cells₂ area₁ area₂ p q in
      (same_numbers flat_explained x y n m same.0 e f, same.1, same.2)

-- and so is what was written, with every byte of the output
pub write_export_determined : (values : Values) (output : List ℕ) (n m : WriteForC) (left right : List ℕ)
    → WriteExport values output n left → WriteExport values output m right → (n ≡ m) × (left ≡ right)
write_export_determined values output = export_determined (WriteCall values output) (write_determined values output) flat_written
