-- Which refusals are printed where a call was lent room enough, and what enough is.
use Rattle.std.specs.Prelude.{ℕ, ◌+◌, ◌≤◌, ◌≡◌, ◌⊎◌, Bool, true, false, List, ltb}
use Rattle.meaning.specs.Demand.{longest_time}
use Rattle.sheet.specs.Judging.{judged}
use Rattle.sheet.specs.Answer.{Accepted, Refused}
use Rattle.fields.specs.declared.refusal.Reason.TheVariants.{OutOfRange}
use Rattle.fields.specs.declared.refusal.Refusal.{Refusal}
use Rattle.beginning.specs.Beginning.{room_for, bad_amount}

-- rule 11 of an interval or a horizon: it is at most the longest time
abbrev pub bad_interval : ℕ → Bool
bad_interval t = ltb longest_time t

-- a number of cells is enough for an interval or a horizon, or for an amount; one that is out of range asks for none
abbrev pub RoomToInterval : List ℕ → ℕ → ℕ → Type 0
RoomToInterval bytes t cells = bad_interval t ≡ false → room_for bytes (t + 1) ≤ cells

abbrev pub RoomToAmount : List ℕ → ℕ → ℕ → Type 0
RoomToAmount bytes b cells = bad_amount b ≡ false → room_for bytes b ≤ cells

-- a refusal that more room would not spare: the sheet's own at its place, or 11 at 0 where the number asked with is out of range
abbrev pub RefusedBy : List ℕ → Bool → Refusal → Type 0
RefusedBy bytes out_of_range refusal =
    ((judged bytes).answer ≡ Refused refusal.reason refusal.place)
    ⊎ (((judged bytes).answer ≡ Accepted) × (out_of_range ≡ true) × (refusal ≡ record { reason = OutOfRange; place = 0 }))
