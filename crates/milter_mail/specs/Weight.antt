-- How many bytes the packets of one message are, with those of the connection that it comes on.
use Rattle.std.specs.Prelude.{ℕ, List, [], ◌++◌}
use Rattle.milter_wire.specs.declared.negotiation.Negotiated.{Negotiated}
use Rattle.milter_fields.specs.declared.client.Client.{Client}
use Rattle.milter_wire.specs.declared.options.TheConstants.Protocol.{HDR_LEADSPC}
use Rattle.milter_wire.specs.Command.{bytes_of}
use Rattle.milter_mail.specs.Macros.{Macros}
use Rattle.milter_message.specs.MailObject.{MailObject}
use Rattle.milter_mail.specs.Steps.{message_steps, opening_steps}

-- version 6 with no bit but that for leading spaces, and no symbol list: all is sent, with whole values of header
-- fields and all macros
abbrev pub all_is_sent : Negotiated
all_is_sent =
    record {
      options = record { version = 6; actions = record { 0 = 0 }; protocol = HDR_LEADSPC };
      lists = [];
    }

abbrev pub weight : Client → List ℕ → Macros → MailObject → ℕ
weight client helo macros message =
    bytes_of (opening_steps all_is_sent macros client helo ++ message_steps all_is_sent macros message)
