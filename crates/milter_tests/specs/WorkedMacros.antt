-- Macros at connect, symbol lists, and the packets that are sent of them.
use Rattle.std.specs.Prelude.{ℕ, List, [], ◌∷◌, codes}
use Rattle.std.specs.List.{flat_map}
use Rattle.milter_fields.specs.declared.header.Header.{Header}
use Rattle.milter_fields.specs.declared.pair.Pair.{Pair}
use Rattle.milter_wire.specs.declared.symbol_lists.SymList.{SymList}
use Rattle.milter_wire.specs.Command.{encoding}
use Rattle.milter_message.specs.MailObject.{MailObject}
use Rattle.milter_mail.specs.MailSession.{MailSession}
use Rattle.milter_mail.specs.Plan.{opening}
use Rattle.milter_tests.specs.WorkedMessage.{at, client, field, helo, macros_with, options}

-- the macros k and j
abbrev pub two_pairs : List Pair
two_pairs = record { name = codes "k"; value = codes "v" } ∷ record { name = codes "j"; value = codes "mx" } ∷ []

-- another value of j
abbrev pub other_j : Pair
other_j = record { name = codes "j"; value = codes "x" }

abbrev pub session : List Pair → MailSession
session pairs = record { client = client; helo = helo; macros = macros_with pairs; messages = [] }

-- a symbol list
abbrev pub list : ℕ → List ℕ → SymList
list stage names = record { stage = stage; names = names }

-- the bytes that are sent of the connection where its greeting isn't sent (NOHELO), with these symbol lists
abbrev pub opened : List SymList → List Pair → List ℕ
opened lists pairs = flat_map encoding (opening (record { options = options 6 2; lists = lists }) (session pairs))

-- the packet of the client: 0000000c43682e6578616d706c650055
abbrev pub client_packet : List ℕ
client_packet =
    0 ∷ 0 ∷ 0 ∷ 12 ∷ 67 ∷ 104 ∷ 46 ∷ 101 ∷ 120 ∷ 97 ∷ 109 ∷ 112 ∷ 108 ∷ 101 ∷ 0 ∷ 85 ∷ []

-- before it both macros in the session's order, j alone, and both in the order of a list:
-- 0000000b44436b0076006a006d7800, 0000000744436a006d7800, 0000000b44436a006d78006b007600
abbrev pub both_packets : List ℕ
both_packets =
    0 ∷ 0 ∷ 0 ∷ 11 ∷ 68 ∷ 67 ∷ 107 ∷ 0 ∷ 118 ∷ 0 ∷ 106 ∷ 0 ∷ 109 ∷ 120 ∷ 0 ∷ client_packet

abbrev pub one_packets : List ℕ
one_packets = 0 ∷ 0 ∷ 0 ∷ 7 ∷ 68 ∷ 67 ∷ 106 ∷ 0 ∷ 109 ∷ 120 ∷ 0 ∷ client_packet

abbrev pub listed_packets : List ℕ
listed_packets =
    0 ∷ 0 ∷ 0 ∷ 11 ∷ 68 ∷ 67 ∷ 106 ∷ 0 ∷ 109 ∷ 120 ∷ 0 ∷ 107 ∷ 0 ∷ 118 ∷ 0 ∷ client_packet

-- a header field whose value begins with a blank, and its packets: 0000000c4c5375626a65637400686900 without it, and
-- 0000000d4c5375626a6563740020686900 with it
abbrev pub blank_field : Header
blank_field = field (codes "Subject") (codes " hi")

abbrev pub field_packet : List ℕ
field_packet =
    0 ∷ 0 ∷ 0 ∷ 12 ∷ 76 ∷ 83 ∷ 117 ∷ 98 ∷ 106 ∷ 101 ∷ 99 ∷ 116 ∷ 0 ∷ 104 ∷ 105 ∷ 0 ∷ []

abbrev pub blank_field_packet : List ℕ
blank_field_packet =
    0 ∷ 0 ∷ 0 ∷ 13 ∷ 76 ∷ 83 ∷ 117 ∷ 98 ∷ 106 ∷ 101 ∷ 99 ∷ 116 ∷ 0 ∷ 32 ∷ 104 ∷ 105 ∷ 0 ∷ []

-- a header field whose value begins with a TAB, and its packet: 0000000d4c5375626a6563740009686900
abbrev pub tab_field : Header
tab_field = field (codes "Subject") (9 ∷ codes "hi")

abbrev pub tab_field_packet : List ℕ
tab_field_packet =
    0 ∷ 0 ∷ 0 ∷ 13 ∷ 76 ∷ 83 ∷ 117 ∷ 98 ∷ 106 ∷ 101 ∷ 99 ∷ 116 ∷ 0 ∷ 9 ∷ 104 ∷ 105 ∷ 0 ∷ []

-- a message with this header field
abbrev pub message_with : Header → MailObject
message_with header = record { sender = at (codes "a@x"); recipients = []; headers = header ∷ []; body = [] }
