-- A filter that lets all mail go on.
use Rattle.std.specs.Prelude.{[]}
use Rattle.milter_wire.specs.declared.verdict.Verdict.TheVariants.{Continue}
use Rattle.milter_protocol.specs.Behavior.{Behavior}

-- version 6 without a bit, and to all Continue without edits
abbrev pub pass : Behavior
pass =
    record {
      wants = record { version = 6; actions = record { 0 = 0 }; protocol = record { 0 = 0 } };
      lists = [];
      decide = λ stage seen. record { edits = []; verdict = Continue };
    }
