-- What many policies are proved to keep to the rules by: their options without symbol lists, and Continue.
use Rattle.std.specs.Prelude.{◌≤◌, [], length, refl}
use Rattle.std.proofs.Common.{arith}
use Rattle.std.proofs.lemmas.List.Elements.{All-nil}
use Rattle.milter_fields.specs.declared.number.TheConstants.{PAYLOAD_MAX}
use Rattle.milter_fields.specs.Number.{number}
use Rattle.milter_wire.specs.declared.options.Options.{Options}
use Rattle.milter_wire.specs.OptionsPayload.{OptionsFit, SymListFits, options_with_lists}
use Rattle.milter_wire.specs.declared.reply.Reply.TheVariants as replies
use Rattle.milter_wire.specs.declared.stage.Stage.{Stage}
use Rattle.milter_wire.specs.declared.verdict.Verdict.TheVariants.{Continue}
use Rattle.milter_wire.specs.Reply.{Fits}
use Rattle.milter_message.specs.declared.edit.Edit.{Edit}
use Rattle.milter_message.specs.EditReplies.{reply_of}
use Rattle.milter_protocol.specs.Lawful.{AnswerFits}

options_len : (options : Options) → length (options_with_lists options []) ≤ PAYLOAD_MAX
unfolding number
options_len options = omega arith

-- numbers of four bytes, and no symbol list
pub options_fit : (options : Options) → OptionsFit options → Fits (replies.Options options [])
options_fit options fit =
    record { fields = record { options = fit; lists = All-nil SymListFits }; payload = options_len options }

pub continue_fits : Fits replies.Continue
continue_fits = record { fields = tt; payload = omega arith }

-- Continue without edits, at any stage
pub continue_is_lawful : (stage : Stage) → AnswerFits stage (record { edits = []; verdict = Continue })
continue_is_lawful stage =
    record {
      at_end = λ other. refl;
      given = refl;
      verdict = continue_fits;
      edits = All-nil (λ (edit : Edit). Fits (reply_of edit));
      weight = omega arith;
    }
