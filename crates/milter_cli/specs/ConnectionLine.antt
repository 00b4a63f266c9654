-- The line of a connection that was served.
use Rattle.std.specs.Prelude.{ℕ, List, [], ◌∷◌, ◌++◌, codes, decimal}
use Rattle.milter_protocol.specs.FilterFault.{filter_fault_number}
use Rattle.milter_filter.specs.declared.turn.Served.{Served}
use Rattle.milter_filter.specs.declared.turn.Served.TheVariants.{Quit, Ended, Failed, ReadFault, WriteFault}
use Rattle.milter_filter.specs.declared.turn.Served.TheVariants.{TurnLimit}

-- the line of a connection, without its end
abbrev pub report_text : ℕ → Served → List ℕ
report_text number Quit = codes "connection " ++ decimal number ++ codes " quit"
report_text number (Ended bytes) = codes "connection " ++ decimal number ++ codes " ended " ++ decimal bytes
report_text number (Failed fault) =
    codes "connection " ++ decimal number ++ codes " failed " ++ decimal (filter_fault_number fault)
report_text number ReadFault = codes "connection " ++ decimal number ++ codes " read fault"
report_text number WriteFault = codes "connection " ++ decimal number ++ codes " write fault"
report_text number TurnLimit = codes "connection " ++ decimal number ++ codes " turn limit"

abbrev pub report_line : ℕ → Served → List ℕ
report_line number end = report_text number end ++ 10 ∷ []
