use Rattle.milter_wire.specs.Command as commands
use Rattle.milter_wire.specs.Frames.{command_frame}
use Rattle.milter_wire.proofs.CommandGrammar.{command_again, command_known}
use Rattle.milter_wire.proofs.FrameLaws.{command-known, bytes-in_all, value-read, value-decoded, frames-divide, frames-divided}
use Rattle.milter_wire.proofs.laws.command_frames.Goals as goal

pub returns-clause-read_back : goal.returns-clause-read_back
returns-clause-read_back c = λ v fits. command_again v fits.fields

pub returns-clause-frame : goal.returns-clause-frame
returns-clause-frame c = λ v fits. value-read _ _ _ v (command_known v) (command_again v fits.fields)

pub returns-clause-divides : goal.returns-clause-divides
returns-clause-divides c = frames-divided command_frame commands.Fits (λ v fits. fits.payload)

pub returns-clause-computed : goal.returns-clause-computed
returns-clause-computed c = frames-divide command_frame commands.Fits (λ v fits. fits.payload)

pub returns-clause-bytes : goal.returns-clause-bytes
returns-clause-bytes c = bytes-in_all commands.encoding

pub returns-clause-decoded : goal.returns-clause-decoded
returns-clause-decoded c = λ f r some d. value-decoded f.code _ _ r (λ v. command-known f.code f.payload v) some d
