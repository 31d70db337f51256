-- A step of the field reader: where the reader stands after it.
use Rattle.std.specs.Prelude.{ℕ, Result, Ok, Err}
use Rattle.fields.specs.Reading.{field_at}
use Rattle.fields.specs.declared.reader.Field.{Field}
use Rattle.fields.specs.declared.refusal.Refusal.{Refusal}
use Rattle.fieldreader.specs.declared.Reader.{Reader}

-- a reader moves only on a field: then to the next one, else it stays at its place
abbrev pub after_field : ℕ → Result Field Refusal → ℕ
after_field at (Ok field) = field.next
after_field at (Err refusal) = at

-- a reader after a step: it holds the same bytes, and has moved if a field stood at its place
abbrev pub stepped : Reader → Reader
stepped reader = record { bytes = reader.bytes; at = after_field reader.at (field_at reader.bytes.now reader.at) }
