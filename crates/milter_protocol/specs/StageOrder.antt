-- The order in which the stages of a connection and of its messages come.
use Rattle.std.specs.Prelude.{ℕ, nat_le, nat_lt, Bool, true, false, if◌then◌else◌}
use Rattle.milter_wire.specs.declared.stage.Stage.{Stage}
use Rattle.milter_wire.specs.declared.stage.Stage.TheVariants.{Connect, Helo, Mail, Rcpt, DataCmd, Header, Eoh, Body, Eob}

-- the place of a stage among the nine, counted from 1
abbrev pub rank_of : Stage → ℕ
rank_of Connect = 1
rank_of Helo = 2
rank_of Mail = 3
rank_of Rcpt = 4
rank_of DataCmd = 5
rank_of Header = 6
rank_of Eoh = 7
rank_of Body = 8
rank_of Eob = 9

-- a client may greet again, and a message may have several recipients, header fields and chunks of its body
abbrev pub may_repeat : Stage → Bool
may_repeat Helo = true
may_repeat Rcpt = true
may_repeat Header = true
may_repeat Body = true
may_repeat other = false

-- whether a stage may come after the stage of this rank; 0 stands for none
abbrev pub may_follow : ℕ → Stage → Bool
may_follow last stage = if may_repeat stage then nat_le last (rank_of stage) else nat_lt last (rank_of stage)
