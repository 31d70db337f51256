-- The reader's step leaves no choice; what that means is passed on to the crates above.
use Rattle.fields.proofs.reader.field_at.Kinds as field_at
use Rattle.fields.proofs.reader.field_at.Reads as field-at-reads
pub use Rattle.sets.proofs.Determined.{Determines, one_value}

pub field_at_one : Determines 1 field_at.ps field_at.r field-at-reads.Learnt (λ κs x. x)
field_at_one = one_value 1 field_at.ps field_at.r (λ κs x. x) _
