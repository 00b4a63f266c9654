use Rattle.std.proofs.Common.{All, is_ok, subst, sym}
use Rattle.milter_wire.specs.declared.command.Command.TheVariants as commands
use Rattle.milter_wire.specs.Command.{Fits}
use Rattle.milter_message.specs.LeadingSpace.{FieldFits}
use Rattle.milter_c_objects.proofs.Fitting.{all-pushed}
use Rattle.milter_c_objects.proofs.parts.push_header.Goals as goal

pub message_of-requires : goal.message_of-requires
message_of-requires c =
    record {
      sender = subst (λ sender. Fits (commands.Mail sender)) (sym c.in_ok-parts.ensures.sender) c.in_ok-parts.ensures.whole.sender;
      recipients =
          subst (All (λ recipient. Fits (commands.Rcpt recipient))) (sym c.in_ok-parts.ensures.recipients)
          c.in_ok-parts.ensures.whole.recipients;
      headers =
          all-pushed FieldFits (is_ok c.push-added.result) c.in_ok-parts.parts.headers.items c.push-added.new.self.items c.args.header
          c.push-added.ensures.items
          (subst (All FieldFits) (sym c.in_ok-parts.ensures.headers) c.in_ok-parts.ensures.whole.headers) c.requires;
    }
