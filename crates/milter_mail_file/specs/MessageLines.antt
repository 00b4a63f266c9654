-- How far the lines of a message have been read.
use Rattle.std.specs.Prelude.{◌≡◌, ℕ, List, ◌∷◌, ◌++◌, codes}
use Rattle.std.specs.List.{concat}
use Rattle.milter_message.specs.MailObject.{MailObject}
use Rattle.milter_text.specs.Words.{HasWords}
use Rattle.milter_mail_file.specs.LineValues.{header_of, message_line, path_of, chunk_of}
use Rattle.milter_mail_file.specs.SessionFile.{AllHaveValues, LineHasValue, ParsesAsMessage}

-- the first of the lines are parsed as the message, and the rest follows them
pub record BeginWithMessage (lines : List (List ℕ)) (m : MailObject) (rest : List (List ℕ)) : Type 0 where
  pub prefix : List (List ℕ)
  pub in_order : lines ≡ prefix ++ rest
  pub parses : ParsesAsMessage prefix m

-- the first of the lines are those of the message but for its last one, and the rest follows them
pub record BeginWithParts (lines : List (List ℕ)) (m : MailObject) (rest : List (List ℕ)) : Type 0 where
  pub first : List ℕ
  pub sender : List ℕ
  pub recipients : List (List ℕ)
  pub headers : List (List ℕ)
  pub texts : List (List ℕ)
  pub in_order : lines ≡ first ∷ sender ∷ (recipients ++ (headers ++ (texts ++ rest)))
  pub chunks : List (List ℕ)
  pub first_is : HasWords first message_line
  pub sender_is : LineHasValue (path_of (codes "sender")) sender m.sender
  pub recipients_are : AllHaveValues (path_of (codes "recipient")) recipients m.recipients
  pub headers_are : AllHaveValues header_of headers m.headers
  pub texts_are : AllHaveValues chunk_of texts chunks
  pub body_is : m.body ≡ concat chunks
