-- The limits of a sheet. The code has them as constants of its type `Sheet`.
use Rattle.std.specs.Prelude.{ℕ}

-- the most modes, rows and fixed tasks
abbrev pub mode_limit : ℕ
mode_limit = 8

abbrev pub row_limit : ℕ
row_limit = 32

abbrev pub task_limit : ℕ
task_limit = 16

-- the highest speed
abbrev pub rpm_limit : ℕ
rpm_limit = 20000

-- the longest label
abbrev pub label_limit : ℕ
label_limit = 32

-- the bytes of a mode before its fall-back, and of the fall-back
abbrev pub mode_size : ℕ
mode_size = 4

abbrev pub fallback_size : ℕ
fallback_size = 2

-- the bytes of a fixed task before its jitter, and of the jitter
abbrev pub task_size : ℕ
task_size = 6

abbrev pub jitter_size : ℕ
jitter_size = 2

-- the bytes of a row before its gaps, and of each gap
abbrev pub head_size : ℕ
head_size = 8

abbrev pub gap_size : ℕ
gap_size = 2
