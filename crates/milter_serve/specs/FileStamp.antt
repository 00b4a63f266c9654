-- Which stamps of files are trusted.
use Rattle.std.specs.Prelude.{ℕ, ◌+◌, ◌≤◌}
use Rattle.milter_serve.specs.declared.file_stamp.FileStamp.{FileStamp}
use Rattle.milter_serve.specs.declared.file_stamp.TheConstants.{CLOCK_GRAIN}

-- its times are older than this second by the grain of a clock
abbrev pub IsOld : ℕ → FileStamp → Type 0
IsOld second stamp =
    (stamp.written.seconds + CLOCK_GRAIN ≤ second) × (stamp.changed.seconds + CLOCK_GRAIN ≤ second)
