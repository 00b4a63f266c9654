-- The form of a session file: the lines that it has in order, and the session that they are parsed as. A line is a list
-- of its bytes here.
use Rattle.std.specs.Prelude.{◌≡◌, ℕ, List, [], ◌∷◌, ◌++◌, codes, Option, None, Some, if◌then◌else◌}
use Rattle.std.specs.List.{AllZip, concat, filter_map}
use Rattle.milter_fields.specs.declared.pair.Pair.{Pair}
use Rattle.milter_mail.specs.Macros.{Macros}
use Rattle.milter_text.specs.declared.word.Word.{Word}
use Rattle.milter_text.specs.Lines.{contents}
use Rattle.milter_message.specs.MailObject.{MailObject}
use Rattle.milter_mail.specs.MailSession.{IsSession, MailSession}
use Rattle.milter_mail_file.specs.declared.session_macros.MacroLine.{MacroLine}
use Rattle.milter_wire.specs.declared.macro_stage.MacroStage.{MacroStage}
use Rattle.milter_mail_file.specs.LineValues.{client_of, end_line, header_of, helo_of, macro_of, message_line, path_of}
use Rattle.milter_mail_file.specs.LineValues.{chunk_of}
use Rattle.milter_mail.specs.ByMacroStage.{by_stage, is_stage}
use Rattle.milter_text.specs.Words.{HasWords}

-- the line is in words, and their value is this one
pub record LineHasValue {X : Type 0} (value_of : List Word → Option X) (line : List ℕ) (x : X) : Type 0 where
  pub words : List Word
  pub has_words : HasWords line words
  pub value : value_of words ≡ Some x

-- each of the lines has its value, in order
abbrev pub AllHaveValues : {X : Type 0} → (List Word → Option X) → List (List ℕ) → List X → Type 0
AllHaveValues value_of lines values = AllZip (LineHasValue value_of) lines values

-- ---- macros

-- the macro of a line, if it is one of the stage
abbrev pub of_stage : MacroStage → MacroLine → Option Pair
of_stage stage line = if is_stage line.stage stage then Some line.pair else None

-- the macros of each stage, in the order of their lines
abbrev pub macros_of_lines : List MacroLine → Macros
macros_of_lines lines = by_stage (λ stage. filter_map (of_stage stage) lines)

-- ---- messages and sessions

-- the lines of a message: `message`, the sender, the recipients, the header fields, the body in any number of texts,
-- `end`
pub record ParsesAsMessage (lines : List (List ℕ)) (m : MailObject) : Type 0 where
  pub first : List ℕ
  pub sender : List ℕ
  pub recipients : List (List ℕ)
  pub headers : List (List ℕ)
  pub texts : List (List ℕ)
  pub last : List ℕ
  pub in_order : lines ≡ first ∷ sender ∷ (recipients ++ (headers ++ (texts ++ last ∷ [])))
  pub chunks : List (List ℕ)
  pub first_is : HasWords first message_line
  pub sender_is : LineHasValue (path_of (codes "sender")) sender m.sender
  pub recipients_are : AllHaveValues (path_of (codes "recipient")) recipients m.recipients
  pub headers_are : AllHaveValues header_of headers m.headers
  pub texts_are : AllHaveValues chunk_of texts chunks
  pub body_is : m.body ≡ concat chunks
  pub last_is : HasWords last end_line

-- the lines of messages, one message after the other
abbrev pub ParsesAsMessageList : List (List ℕ) → List MailObject → Type 0
ParsesAsMessageList lines [] = lines ≡ []
ParsesAsMessageList lines (m ∷ messages) =
    (prefix : List (List ℕ)) × (rest : List (List ℕ)) × (lines ≡ prefix ++ rest) × ParsesAsMessage prefix m
    × ParsesAsMessageList rest messages

-- the lines of a session: the client, its greeting, any number of macros, and the messages
pub record ParsesAsSession (lines : List (List ℕ)) (s : MailSession) : Type 0 where
  pub client : List ℕ
  pub helo : List ℕ
  pub macros : List (List ℕ)
  pub messages : List (List ℕ)
  pub in_order : lines ≡ client ∷ helo ∷ (macros ++ messages)
  pub macro_lines : List MacroLine
  pub client_is : LineHasValue client_of client s.client
  pub helo_is : LineHasValue helo_of helo s.helo
  pub macros_have_values : AllHaveValues macro_of macros macro_lines
  pub macros_are : s.macros ≡ macros_of_lines macro_lines
  pub messages_are : ParsesAsMessageList messages s.messages

-- the lines of the file that are not skipped are parsed as the session, and that is one
pub record IsSessionFile (bytes : List ℕ) (s : MailSession) : Type 0 where
  pub parses : ParsesAsSession (contents bytes) s
  pub whole : IsSession s
