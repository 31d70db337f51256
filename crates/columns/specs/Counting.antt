-- What judging a stretch of entries comes to.
use Rattle.std.specs.Prelude.{List, Result, Ok, Err}
use Rattle.fields.specs.Deciding.{judged_by}
use Rattle.fields.specs.declared.refusal.Reason.{Reason}
use Rattle.fields.specs.declared.values.Tally.{Tally}
use Rattle.written.specs.Judging.{entries_rules, count_entries}
use Rattle.written.specs.Values.{Entry}

-- the reason of the first rule that the entries break, and where they break none the tally behind them
abbrev pub counted : Tally → List Entry → Result Tally Reason
counted tally entries = judged_by Err (entries_rules tally entries) (Ok (count_entries tally entries))
