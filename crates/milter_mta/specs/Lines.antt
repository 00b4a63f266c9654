-- What a mail server's end sends, packet by packet, where each is answered as these lines have it.
use Rattle.std.specs.Prelude.{◌≡◌, ℕ, List, [], ◌∷◌, length, Option, None}
use Rattle.std.specs.List.{flat_map}
use Rattle.milter_wire.specs.declared.negotiation.Negotiated.{Negotiated}
use Rattle.milter_wire.specs.declared.command.Command.TheVariants as commands
use Rattle.milter_wire.specs.Command as sent_to
use Rattle.milter_wire.specs.Reply as replied
use Rattle.milter_wire.specs.declared.options.Options.{Options}
use Rattle.milter_protocol.specs.declared.answer.Answer.{Answer}
use Rattle.milter_protocol.specs.Exchanges.{Exchange}
use Rattle.milter_protocol.specs.Replies.{options_reply, replies_of_answer}
use Rattle.milter_mta.specs.Mta.{Mta}
use Rattle.milter_mta.specs.Replies.{After, received}
use Rattle.milter_mta.specs.Output.{advanced, pending, sent}

-- ---- lines

-- a packet that a mail server sends, and the bytes that the filter sends after it
pub record Line : Type 0 where
  pub out : List ℕ
  pub back : List ℕ

abbrev pub answer_bytes : Option Answer → List ℕ
answer_bytes answer = flat_map replied.encoding (replies_of_answer answer)

abbrev pub line_of : Exchange → Line
line_of exchange = record { out = sent_to.encoding exchange.command; back = answer_bytes exchange.answer }

abbrev pub offer_line : Options → Negotiated → Line
offer_line offer negotiated =
    record { out = sent_to.encoding (commands.Options offer); back = replied.encoding (options_reply negotiated) }

abbrev pub abort_line : Line
abort_line = record { out = sent_to.encoding commands.Abort; back = [] }

abbrev pub quit_line : Line
quit_line = record { out = sent_to.encoding commands.Quit; back = [] }

-- ---- a mail server's end by lines

-- the packet that is sent next
abbrev pub next_packet : Mta → List ℕ
next_packet m = pending (advanced m)

-- that packet was made, and sent whole
abbrev pub sent_whole : Mta → Mta
sent_whole m = sent (length (next_packet m)) (advanced m)

-- and these bytes came after it
abbrev pub after_line : List ℕ → Mta → After
after_line back m = received (sent_whole m) back

-- it sends the packet of each line, takes what comes after that without a loss, and has come to `new` then
abbrev pub Plays : Mta → List Line → Mta → Type 0
Plays m [] new = m ≡ new
Plays m (line ∷ lines) new =
    (next_packet m ≡ line.out)
    × ((after_line line.back m).loss ≡ None)
    × Plays (after_line line.back m).mta lines new
