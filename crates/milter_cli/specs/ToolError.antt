-- How the program ends where it did not do what it was asked.
use Rattle.std.specs.Prelude.{◌≡◌, ℕ, List, [], ◌∷◌, ◌++◌, Option, Some, Result, Ok, Err, IfErr, codes}
use Rattle.std.specs.Prelude.{decimal, option_map}
use Rattle.std.specs.declared.io.ErrorKind.{ErrorKind as IoKind}
use Rattle.std.specs.declared.io.ErrorKind.TheVariants as io
use Rattle.clap.specs.declared.error.Error.{Error}
use Rattle.clap.specs.declared.error.kind.ErrorKind.{ErrorKind}
use Rattle.clap.specs.declared.error.kind.ErrorKind.TheVariants.{DisplayHelp, DisplayVersion, OutOfMemory}
use Rattle.milter_cli.specs.AnswerRun.{answer_error_text}
use Rattle.milter_cli.specs.FileRun.{file_error_text}
use Rattle.milter_capture.specs.FaultText.{capture_fault_text}
use Rattle.milter_text.specs.declared.text_fault.TextFault.{TextFault}
use Rattle.milter_text.specs.declared.text_fault.TextFault.TheVariants as texts
use Rattle.milter_trace.specs.FaultText.{fault_text}
use Rattle.milter_cli.specs.declared.tool_error.ToolError.{ToolError}
use Rattle.milter_cli.specs.declared.tool_error.ToolError.TheVariants.{Usage, Trace, Capture, File, Answer}
use Rattle.milter_cli.specs.declared.tool_error.ToolError.TheVariants.{Connect, Differs, Findings, Listen, Record, Write, NoMemory}
use Rattle.milter_command_line.specs.UsageError.{usage_lines}
use Rattle.milter_service.specs.declared.service_error.ServiceError.{ServiceError}
use Rattle.milter_service.specs.declared.service_error.ServiceError.TheVariants as services
use Rattle.milter_command_line.specs.declared.usage_error.UsageError.TheVariants.{CommandLine, NotUtf8}

-- a wrong use of the program, or a fault
abbrev pub error_status : ToolError → ℕ
error_status (Usage error) = 2
error_status (Trace fault) = 1
error_status (Capture fault) = 1
error_status (File error) = 1
error_status (Answer error) = 1
error_status Listen = 1
error_status Connect = 1
error_status Record = 1
error_status (Differs line) = 1
error_status Findings = 1
error_status Write = 1
error_status NoMemory = 1

abbrev pub status_of : Result Unit ToolError → ℕ
status_of (Ok done) = 0
status_of (Err error) = error_status error

abbrev pub line : List ℕ → List ℕ
line text = text ++ 10 ∷ []

-- what standard error gets
abbrev pub error_lines : ToolError → Option (List ℕ)
error_lines (Usage error) = usage_lines error
error_lines (Trace fault) = option_map line (fault_text fault)
error_lines (Capture fault) = option_map line (capture_fault_text fault)
error_lines (File error) = Some (line (file_error_text error))
error_lines (Answer error) = Some (line (answer_error_text error))
error_lines Listen = Some (line (codes "cannot listen"))
error_lines Connect = Some (line (codes "cannot connect"))
error_lines Record = Some (line (codes "cannot record"))
error_lines (Differs number) = Some (line (codes "differs at line " ++ decimal number))
error_lines Findings = Some []
error_lines Write = Some (line (codes "write fault"))
error_lines NoMemory = Some (line (codes "out of memory"))

-- arguments are not read where memory is refused, or where one isn't UTF-8
abbrev pub argument_error : IoKind → ToolError
argument_error io.OutOfMemory = NoMemory
argument_error _ = Usage NotUtf8

-- a socket isn't bound where memory is refused, or where the system fails
abbrev pub listen_error : IoKind → ToolError
listen_error io.OutOfMemory = NoMemory
listen_error _ = Listen

-- a service ends where the system doesn't wait for sockets, where a line is not written, or where memory is refused
abbrev pub service_error : ServiceError → ToolError
service_error services.Wait = Listen
service_error services.Write = Write
service_error services.NoMemory = NoMemory

-- the lines of connections, or the reports of a session, that were not all written
abbrev pub output_error : TextFault → ToolError
output_error texts.Write = Write
output_error texts.NoMemory = NoMemory

-- help and the version go to standard output
abbrev pub IsShown : ErrorKind → Type 0
IsShown DisplayHelp = Unit {0}
IsShown DisplayVersion = Unit {0}
IsShown _ = ⊥

-- how a command line ends that has no request
abbrev pub EndsBy : ErrorKind → Error → Result Unit ToolError → Type 0
EndsBy DisplayHelp error result = IfErr result (λ e. e ≡ Write)
EndsBy DisplayVersion error result = IfErr result (λ e. e ≡ Write)
EndsBy OutOfMemory error result = result ≡ Err NoMemory
EndsBy _ error result = result ≡ Err (Usage (CommandLine error))
