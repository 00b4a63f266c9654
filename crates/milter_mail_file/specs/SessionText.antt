-- The canonical text of a session as a session file: each text in its canonical form, the macros stage by stage, and
-- each body as one text.
use Rattle.std.specs.Prelude.{ℕ, List, [], ◌∷◌, ◌++◌, codes, decimal}
use Rattle.std.specs.List.{flat_map}
use Rattle.milter_fields.specs.declared.client.Client.{Client}
use Rattle.milter_fields.specs.declared.client.Origin.{Origin}
use Rattle.milter_fields.specs.declared.client.Origin.TheVariants.{Unknown, Unix, Inet, Inet6}
use Rattle.milter_fields.specs.declared.pair.Pair.{Pair}
use Rattle.milter_wire.specs.declared.macro_stage.MacroStage.{MacroStage}
use Rattle.milter_wire.specs.MacroStages.{macro_stage_name, macro_stages}
use Rattle.milter_mail.specs.Macros.{Macros}
use Rattle.milter_mail.specs.HeldText.{line_of, message_lines, text_of}
use Rattle.milter_message.specs.MailObject.{MailObject}
use Rattle.milter_mail.specs.MailSession.{MailSession}
use Rattle.milter_mail.specs.ByMacroStage.{at_stage}

-- the keyword and the family, the host, the port and the address
abbrev pub endpoint_line : List ℕ → List ℕ → ℕ → List ℕ → List ℕ
endpoint_line start host port address = start ++ (text_of host ++ 32 ∷ line_of (decimal port) (address ∷ []))

abbrev pub origin_line : List ℕ → Origin → List ℕ
origin_line host Unknown = line_of (codes "client U") (host ∷ [])
origin_line host (Unix port address) = endpoint_line (codes "client L") host port address
origin_line host (Inet port address) = endpoint_line (codes "client 4") host port address
origin_line host (Inet6 port address) = endpoint_line (codes "client 6") host port address

abbrev pub client_line : Client → List ℕ
client_line client = origin_line client.host client.origin

abbrev pub macro_line : List ℕ → Pair → List ℕ
macro_line stage pair = line_of (codes "macro " ++ stage) (pair.name ∷ pair.value ∷ [])

-- a line for each macro of a stage
abbrev pub macro_lines : Macros → MacroStage → List ℕ
macro_lines macros stage = flat_map (macro_line (macro_stage_name stage)) (at_stage macros stage)

-- those of each stage, in the order of a session
abbrev pub all_macro_lines : Macros → List ℕ
all_macro_lines macros = flat_map (macro_lines macros) macro_stages

-- the lines before the messages
unfoldable pub opening_text : MailSession → List ℕ
opening_text s = client_line s.client ++ (line_of (codes "helo") (s.helo ∷ []) ++ all_macro_lines s.macros)

abbrev pub message_text : MailObject → List ℕ
message_text m = codes "message\n" ++ message_lines m

unfoldable pub session_text : MailSession → List ℕ
session_text s = opening_text s ++ flat_map message_text s.messages
