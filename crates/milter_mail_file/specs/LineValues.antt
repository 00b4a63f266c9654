-- The value of each line of a session file, by its words. A keyword, the family of a client and the stage of a macro
-- are plain words, a TEXT is a quoted one, and a NUMBER is a plain word of digits.
use Rattle.std.specs.Prelude.{ℕ, Bool, not, nat_le, nat_lt, ◌==◌, ◌&&◌, List, [], ◌∷◌, length, codes, Option}
use Rattle.std.specs.Prelude.{None, Some, if◌then◌else◌}
use Rattle.std.specs.List.{list_all}
use Rattle.std.specs.Option.{option_map}
use Rattle.std.specs.Str.Parse.{digits_value}
use Rattle.milter_fields.specs.declared.client.Client.{Client}
use Rattle.milter_fields.specs.declared.client.Origin.{Origin}
use Rattle.milter_fields.specs.declared.client.Origin.TheVariants.{Unknown, Unix, Inet, Inet6}
use Rattle.milter_fields.specs.declared.header.Header.{Header}
use Rattle.milter_fields.specs.declared.path.Path.{Path}
use Rattle.milter_wire.specs.declared.macro_stage.MacroStage.{MacroStage}
use Rattle.milter_wire.specs.MacroStages.{macro_stage_named}
use Rattle.milter_text.specs.declared.word.Word.{Word}
use Rattle.milter_text.specs.WordValues.{is_keyword, is_number, keyword, text_of, texts_of}
use Rattle.milter_mail_file.specs.declared.session_macros.MacroLine.{MacroLine}

-- ---- the connection

-- a number that a port has room for
abbrev pub is_port : Word → Bool
is_port word = is_number word && nat_le (digits_value 10 word.text) 65535

-- `client U TEXT`, or `client F TEXT NUMBER TEXT` with the family `L`, `4` or `6`
abbrev pub origin_of : Word → ℕ → List ℕ → Option Origin
origin_of family port address =
    if is_keyword (codes "L") family then Some (Unix port address)
    else if is_keyword (codes "4") family then Some (Inet port address)
    else if is_keyword (codes "6") family then Some (Inet6 port address)
    else None

abbrev pub client_at : List ℕ → Option Origin → Option Client
client_at host origin = option_map (λ o. record { host = host; origin = o }) origin

abbrev pub client_of : List Word → Option Client
client_of (first ∷ family ∷ host ∷ []) =
    if is_keyword (codes "client") first && (is_keyword (codes "U") family && host.quoted) then
    Some (record { host = host.text; origin = Unknown })
    else None
client_of (first ∷ family ∷ host ∷ port ∷ address ∷ []) =
    if is_keyword (codes "client") first && (host.quoted && (is_port port && address.quoted)) then
    client_at host.text (origin_of family (digits_value 10 port.text) address.text)
    else None
client_of _ = None

-- `helo TEXT`
abbrev pub helo_of : List Word → Option (List ℕ)
helo_of (first ∷ name ∷ []) = if is_keyword (codes "helo") first then text_of name else None
helo_of _ = None

-- ---- macros

-- a stage that has macros, by its word
abbrev pub stage_of : Word → Option MacroStage
stage_of word = if word.quoted then None else macro_stage_named word.text

abbrev pub macro_with : List ℕ → List ℕ → MacroStage → MacroLine
macro_with name value stage = record { stage = stage; pair = record { name = name; value = value } }

-- `macro STAGE TEXT TEXT`
abbrev pub macro_of : List Word → Option MacroLine
macro_of (first ∷ stage ∷ name ∷ value ∷ []) =
    if is_keyword (codes "macro") first && (name.quoted && value.quoted) then
    option_map (macro_with name.text value.text) (stage_of stage)
    else None
macro_of _ = None

-- ---- messages

-- `message` and `end`
abbrev pub message_line : List Word
message_line = keyword (codes "message") ∷ []

abbrev pub end_line : List Word
end_line = keyword (codes "end") ∷ []

-- `sender TEXT [TEXT ..]` and `recipient TEXT [TEXT ..]`
abbrev pub path_with : Option (List (List ℕ)) → Option Path
path_with None = None
path_with (Some []) = None
path_with (Some (address ∷ params)) = Some (record { address = address; params = params })

abbrev pub path_of : List ℕ → List Word → Option Path
path_of text [] = None
path_of text (first ∷ words) = if is_keyword text first then path_with (texts_of words) else None

-- a header name that a session file may have: visible ASCII characters, at least one, and no colon
abbrev pub is_name : List ℕ → Bool
is_name name = nat_lt 0 (length name) && list_all (λ byte. nat_le 33 byte && (nat_le byte 126 && not (byte == 58))) name

-- a header field, if its name may be in a session file
abbrev pub if_named : Option Header → Option Header
if_named None = None
if_named (Some header) = if is_name header.name then Some header else None

-- `header TEXT TEXT`
abbrev pub header_of : List Word → Option Header
header_of (first ∷ name ∷ value ∷ []) =
    if is_keyword (codes "header") first && (name.quoted && (value.quoted && is_name name.text)) then
    Some (record { name = name.text; value = value.text })
    else None
header_of _ = None

-- `body TEXT`
abbrev pub chunk_of : List Word → Option (List ℕ)
chunk_of (first ∷ text ∷ []) = if is_keyword (codes "body") first then text_of text else None
chunk_of _ = None
