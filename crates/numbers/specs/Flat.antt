-- Each answer of the library as the struct that C is given: its numbers in the struct's fields.
use Rattle.std.specs.Prelude.{ℕ, ℤ, Option, Result, Ok, Err}
use Rattle.sheet.specs.Answer.{Judged, number_of, place_of}
use Rattle.sheet.specs.declared.Head.{Head}
use Rattle.fields.specs.Fields.{tag_of}
use Rattle.fields.specs.Refusals.{rule_number}
use Rattle.fields.specs.declared.reader.Field.{Field}
use Rattle.fields.specs.declared.refusal.Refusal.{Refusal}
use Rattle.desk.specs.Answers.{demand_numbers, margin_numbers, shortest_numbers, verdict_numbers}
use Rattle.desk.specs.declared.Attained.{Attained}
use Rattle.numbers.specs.declared.JudgeForC.{JudgeForC}
use Rattle.numbers.specs.declared.LabelForC.{LabelForC}
use Rattle.numbers.specs.declared.FieldForC.{FieldForC}
use Rattle.numbers.specs.declared.DemandForC.{DemandForC}
use Rattle.numbers.specs.declared.MarginForC.{MarginForC}
use Rattle.numbers.specs.declared.ShortestForC.{ShortestForC}
use Rattle.numbers.specs.declared.VerdictForC.{VerdictForC}

-- how a sheet was judged, and how many modes, rows and fixed tasks it has
abbrev pub flat_judged : Judged → JudgeForC
flat_judged judged =
    let tally = judged.sheet.tally in
    record {
      number = number_of judged.answer;
      place = place_of judged.answer;
      modes = tally.modes;
      rows = tally.rows;
      tasks = tally.tasks;
    }

-- the same of a sheet in outline
abbrev pub flat_outline : Result Head Refusal → JudgeForC
flat_outline (Ok head) = record { number = 0; place = 0; modes = head.tally.modes; rows = head.tally.rows; tasks = head.tally.tasks }
flat_outline (Err refusal) = record { number = rule_number refusal.reason; place = refusal.place; modes = 0; rows = 0; tasks = 0 }

-- where the label stands
abbrev pub flat_label : Judged → LabelForC
flat_label judged = record { start = judged.sheet.label.start; size = judged.sheet.label.size }

abbrev pub flat_heading : Result Head Refusal → LabelForC
flat_heading (Ok head) = record { start = head.label.start; size = head.label.size }
flat_heading (Err refusal) = record { start = 0; size = 0 }

-- a step of the field reader; the kind of a field is its tag where it is known, the first of the skipped tags where it is skipped
abbrev pub flat_step : Result Field Refusal → FieldForC
flat_step (Ok field) = record { number = 0; place = 0; kind = tag_of field.kind; start = field.start; size = field.size; next = field.next }
flat_step (Err refusal) = record { number = rule_number refusal.reason; place = refusal.place; kind = 0; start = 0; size = 0; next = 0 }

-- the answers of the calls
abbrev pub flat_demand : Result Attained Refusal → DemandForC
flat_demand answer =
    let n = demand_numbers answer in
    record { number = n.number; place = n.place; amount = n.amount; count = n.count }

abbrev pub flat_margin : Result ℤ Refusal → MarginForC
flat_margin answer =
    let n = margin_numbers answer in
    record { number = n.number; place = n.place; margin = n.margin }

abbrev pub flat_shortest : Result ℕ Refusal → ShortestForC
flat_shortest answer =
    let n = shortest_numbers answer in
    record { number = n.number; place = n.place; time = n.time }

abbrev pub flat_verdict : Result (Option ℕ) Refusal → VerdictForC
flat_verdict answer =
    let n = verdict_numbers answer in
    record { number = n.number; place = n.place; overrun = n.overrun }
