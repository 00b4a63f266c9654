-- How a held message is written: a line for each part of it, which is a keyword and then texts in quotes.
use Rattle.std.specs.Prelude.{ℕ, List, [], ◌∷◌, ◌++◌, codes, Option, None, Some}
use Rattle.std.specs.List.{flat_map}
use Rattle.milter_fields.specs.declared.header.Header.{Header}
use Rattle.milter_fields.specs.declared.path.Path.{Path}
use Rattle.milter_message.specs.declared.message.Held.{Held}
use Rattle.milter_message.specs.MailObject.{MailObject}
use Rattle.milter_text.specs.QuotedText.{quoted}

-- a text in quotes, after a blank
abbrev pub text_of : List ℕ → List ℕ
text_of text = 32 ∷ quoted text

abbrev pub texts_of : List (List ℕ) → List ℕ
texts_of texts = flat_map text_of texts

-- the keyword, the texts, and LF
unfoldable pub line_of : List ℕ → List (List ℕ) → List ℕ
line_of keyword texts = keyword ++ texts_of texts ++ 10 ∷ []

-- a line with the reason, where there is one
abbrev pub reason_line : Option (List ℕ) → List ℕ
reason_line None = []
reason_line (Some reason) = line_of (codes "quarantine") (reason ∷ [])

-- the address, and then each parameter
abbrev pub path_line : List ℕ → Path → List ℕ
path_line keyword path = line_of keyword (path.address ∷ path.params)

abbrev pub header_line : Header → List ℕ
header_line header = line_of (codes "header") (header.name ∷ header.value ∷ [])

-- the lines of the sender and the recipients
abbrev pub envelope_lines : MailObject → List ℕ
envelope_lines message =
    path_line (codes "sender") message.sender ++ flat_map (path_line (codes "recipient")) message.recipients

-- the lines of the header fields and the body, and the last line
abbrev pub content_lines : MailObject → List ℕ
content_lines message =
    flat_map header_line message.headers ++ (line_of (codes "body") (message.body ∷ []) ++ line_of (codes "end") [])

-- the sender, the recipients, the header fields, the body and the end, a line each
abbrev pub message_lines : MailObject → List ℕ
message_lines message = envelope_lines message ++ content_lines message

-- the quarantine, and the lines of the message
unfoldable pub held_text : Held → List ℕ
held_text held = reason_line held.quarantine ++ message_lines held.message
