-- The rules 3 and 5 to 10 on the tally and on values: a test for each, and the order in which a field's rules are tried.
use Rattle.std.specs.Prelude.{ℕ, ◌+◌, ◌-◌, ◌*◌, ◌%◌, List, [], ◌∷◌, Bool, true, false, not, get_or, ltb, leb, eqb, is_some}
use Rattle.sets.specs.Sets.{width, below, next_in}
use Rattle.fields.specs.Deciding.{Rule, ◌when◌, ◌or◌, pick, any_from}
use Rattle.fields.specs.Fields.{line_of}
use Rattle.fields.specs.Limits.{rpm_limit, mode_size, head_size, gap_size}
use Rattle.fields.specs.Values.{no_row}
use Rattle.fields.specs.declared.refusal.Reason.TheVariants.{OutOfOrder, WrongLength, TooMany, BadValue, NotRising, ShortGap}
use Rattle.fields.specs.declared.units.Rpm.{Rpm}
use Rattle.fields.specs.declared.units.Ticks.{Ticks}
use Rattle.fields.specs.declared.values.Mode.{Mode}
use Rattle.fields.specs.declared.values.Row.{Row}
use Rattle.fields.specs.declared.values.Task.{Task}
use Rattle.fields.specs.declared.values.Tally.{Tally}

-- a required kind whose tag is above the last known one: no field of it has come
unfoldable pub missing : ℕ → ℕ → Bool
missing last tag = pick (ltb last tag) (line_of tag).required false

-- rule 3: a tag below the last known one, a second field of a kind that stands once, or a required kind passed over
unfoldable pub out_of_order : ℕ → ℕ → Bool
out_of_order last tag =
    pick (ltb tag last) true
    (pick (eqb tag last) (leb (line_of tag).most 1)
    (any_from (missing last) 0 tag))

-- rule 5: a length that the tag's line does not allow
unfoldable pub wrong_length : ℕ → ℕ → Bool
wrong_length tag size =
    ltb size (line_of tag).shortest or ltb (line_of tag).longest size or pick (line_of tag).numbers (not (eqb (size % 2) 0)) false

-- how many rows are in a follower set
abbrev pub follower_count : ℕ → ℕ
follower_count followers = below followers width

-- rule 5: a row's length that is not its head and one gap for each row of its follower set
unfoldable pub unlike_set : ℕ → ℕ → Bool
unlike_set size followers = not (eqb size (head_size + gap_size * follower_count followers))

-- rule 6: as many of the kind as a sheet may have
unfoldable pub full : ℕ → ℕ → Bool
full tag count = leb (line_of tag).most count

-- rule 7: a byte of a label outside 0x20 to 0x7E
unfoldable pub bad_byte : ℕ → Bool
bad_byte byte = ltb byte 0x20 or ltb 0x7E byte

-- rule 7: a label with a byte outside 0x20 to 0x7E
unfoldable pub bad_text : List ℕ → ℕ → ℕ → Bool
bad_text bytes start size = any_from (λ at. bad_byte (get_or bytes at 0)) start size

-- rule 7: a speed of 0 or above the highest
unfoldable pub bad_rpm : Rpm → Bool
bad_rpm speed = eqb speed.0 0 or ltb rpm_limit speed.0

-- rule 7: a length, deadline or period of 0
abbrev pub no_ticks : Ticks → Bool
no_ticks time = eqb time.0 0

-- rule 9 of one set: it has a row at or after the number of rows
unfoldable pub unknown_in : ℕ → ℕ → Bool
unknown_in followers rows = is_some (next_in (width - rows) followers rows)

-- rule 9: one of the rows names a row that does not exist
unfoldable pub unknown_follower : List Row → ℕ → Bool
unknown_follower rows count = any_from (λ k. unknown_in (get_or rows k no_row).followers count) 0 count

-- the first rules of every known field: its place in the order, its length, its count, where it is known whether it is a row whose length is unlike its set
unfoldable pub common_rules : ℕ → ℕ → ℕ → Bool → ℕ → List Rule
common_rules tag last size unlike count =
    OutOfOrder when (out_of_order last tag)
    ∷ WrongLength when (wrong_length tag size)
    ∷ WrongLength when unlike
    ∷ TooMany when (full tag count)
    ∷ []

-- the rule of a label's bytes
unfoldable pub text_rules : List ℕ → ℕ → ℕ → List Rule
text_rules bytes start size = BadValue when (bad_text bytes start size) ∷ []

-- rule 7: a fall-back of 0, above its own boundary or below the boundary before; a mode's field of so many bytes is not judged by it where it has none
unfoldable pub bad_fallback : Tally → Mode → ℕ → Bool
bad_fallback tally mode size =
    pick (eqb size mode_size) false
    (eqb mode.fallback.0 0 or ltb mode.boundary.0 mode.fallback.0 or ltb mode.fallback.0 tally.top.0)

-- rule 7, at a row: the last mode, above which there is none, has a fall-back unlike its boundary
unfoldable pub last_hangs : Tally → Bool
last_hangs tally = not (eqb tally.fallback.0 tally.top.0)

-- the rules of the numbers of a mode whose field has so many bytes; rule 8: a boundary that is not above the one before
unfoldable pub mode_rules : Tally → Mode → ℕ → List Rule
mode_rules tally mode size =
    BadValue when (bad_rpm mode.boundary)
    ∷ BadValue when (no_ticks mode.length)
    ∷ BadValue when (bad_fallback tally mode size)
    ∷ NotRising when (leb mode.boundary.0 tally.top.0)
    ∷ []

-- the rules of a row's numbers, where it is known whether a gap is zero and whether one is below the deadline
-- rule 8: a speed that is not above the one before, or is above the last boundary; rule 10: a gap below the deadline
unfoldable pub row_rules : Tally → Row → Bool → Bool → List Rule
row_rules tally row zero_gap short_gap =
    BadValue when (last_hangs tally)
    ∷ BadValue when (bad_rpm row.speed)
    ∷ BadValue when (no_ticks row.deadline)
    ∷ BadValue when zero_gap
    ∷ NotRising when (leb row.speed.0 tally.fastest.0)
    ∷ NotRising when (ltb tally.top.0 row.speed.0)
    ∷ ShortGap when short_gap
    ∷ []

-- the rules of a fixed task's numbers; the last, a jitter at or above the deadline, is broken by a deadline of 0 too, which has a rule of its own as in a row
unfoldable pub task_rules : Task → List Rule
task_rules task =
    BadValue when (no_ticks task.length)
    ∷ BadValue when (no_ticks task.period)
    ∷ BadValue when (no_ticks task.deadline)
    ∷ BadValue when (leb task.deadline.0 task.jitter.0)
    ∷ []
