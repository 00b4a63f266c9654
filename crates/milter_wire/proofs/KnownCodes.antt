-- Each code of the tables is that of a value which a packet has room for.
use Rattle.std.proofs.Common.{◌≡◌, ◌≢◌, ℕ, true, List, [], ◌∷◌, None, refl, subst, arith, rules}
use Rattle.std.specs.Prelude.{◌↔◌, IsTrue}
use Rattle.std.proofs.lemmas.List.Elements.{All-nil}
use Rattle.milter_fields.specs.declared.client.Client.{Client}
use Rattle.milter_fields.specs.declared.client.Origin.TheVariants as origins
use Rattle.milter_fields.specs.declared.header.Header.{Header}
use Rattle.milter_wire.specs.declared.options.Options.{Options}
use Rattle.milter_fields.specs.declared.path.Path.{Path}
use Rattle.milter_wire.specs.declared.command.Command.TheVariants as commands
use Rattle.milter_wire.specs.declared.reply.Reply.TheVariants as replies
use Rattle.milter_fields.specs.Number.{number}
use Rattle.milter_wire.specs.Command as of_commands
use Rattle.milter_wire.specs.Reply as of_replies
use Rattle.milter_fields.specs.Field.{HasNoNul}
use Rattle.milter_wire.specs.OptionsPayload.{OptionsFit, SymListFits}
use Rattle.milter_fields.specs.Layout.{PairFits, ReplyCodeFits}
use Rattle.milter_wire.proofs.CommandGrammar.{command_known}
use Rattle.milter_wire.proofs.ReplyGrammar.{reply_known}
use Rattle.milter_wire.proofs.Grammar.{◌⨾◌, EachCode, row_has_value}

-- ---- the smallest values

no_nul : HasNoNul []
unfolding HasNoNul
no_nul = All-nil (λ byte. byte ≢ 0)

abbrev no_client : Client
no_client = record { host = []; origin = origins.Unknown }

abbrev no_path : Path
no_path = record { address = []; params = [] }

abbrev no_header : Header
no_header = record { name = []; value = [] }

abbrev no_options : Options
no_options = record { version = 0; actions = record { 0 = 0 }; protocol = record { 0 = 0 } }

no_bits : OptionsFit no_options
no_bits = record { version = omega arith; actions = omega arith; protocol = omega arith }

abbrev code_400 : List ℕ
code_400 = 52 ∷ 48 ∷ 48 ∷ []

code_fits : ReplyCodeFits code_400
unfolding HasNoNul
code_fits = record { no_nul = search rules; form = refl }

-- ---- commands

each_command : EachCode of_commands.IsCodeOfSome of_commands.rows
unfolding number
each_command =
    (commands.Abort, record { fields = tt; payload = omega arith }, refl)
    ⨾ (commands.Body [], record { fields = tt; payload = omega arith }, refl)
    ⨾ (commands.Connect no_client, record { fields = record { host = no_nul; origin = tt }; payload = omega arith }, refl)
    ⨾ (commands.Macro 0 [], record { fields = All-nil PairFits; payload = omega arith }, refl)
    ⨾ (commands.Eob [], record { fields = tt; payload = omega arith }, refl)
    ⨾ (commands.Helo [], record { fields = no_nul; payload = omega arith }, refl)
    ⨾ (commands.QuitNew, record { fields = tt; payload = omega arith }, refl)
    ⨾ (commands.Header no_header, record { fields = record { name = no_nul; value = no_nul }; payload = omega arith }, refl)
    ⨾ (commands.Mail no_path, record { fields = record { address = no_nul; params = All-nil HasNoNul }; payload = omega arith }, refl)
    ⨾ (commands.Eoh, record { fields = tt; payload = omega arith }, refl)
    ⨾ (commands.Options no_options, record { fields = no_bits; payload = omega arith }, refl)
    ⨾ (commands.Quit, record { fields = tt; payload = omega arith }, refl)
    ⨾ (commands.Rcpt no_path, record { fields = record { address = no_nul; params = All-nil HasNoNul }; payload = omega arith }, refl)
    ⨾ (commands.DataCmd, record { fields = tt; payload = omega arith }, refl)
    ⨾ (commands.Unknown [], record { fields = no_nul; payload = omega arith }, refl)
    ⨾ tt

pub commands_known : (code : ℕ) → IsTrue (of_commands.is_code code) ↔ of_commands.IsCodeOfSome code
unfolding of_commands.is_code
commands_known code = (
  row_has_value of_commands.IsCodeOfSome of_commands.rows code each_command,
  λ some. subst (λ (n : ℕ). of_commands.is_code n ≡ true) some.2 (command_known some.0),
)

-- ---- replies

each_reply : EachCode of_replies.IsCodeOfSome of_replies.rows
unfolding number
each_reply =
    (replies.AddRcpt [], record { fields = no_nul; payload = omega arith }, refl)
    ⨾ (replies.DelRcpt [], record { fields = no_nul; payload = omega arith }, refl)
    ⨾ (replies.AddRcptPar [] None, record { fields = record { no_nul = no_nul; arguments = tt }; payload = omega arith }, refl)
    ⨾ (replies.Options no_options [], record { fields = record { options = no_bits; lists = All-nil SymListFits }; payload = omega arith }, refl)
    ⨾ (replies.Accept, record { fields = tt; payload = omega arith }, refl)
    ⨾ (replies.ReplaceBody [], record { fields = tt; payload = omega arith }, refl)
    ⨾ (replies.Continue, record { fields = tt; payload = omega arith }, refl)
    ⨾ (replies.Discard, record { fields = tt; payload = omega arith }, refl)
    ⨾ (replies.ChangeFrom [] None, record { fields = record { no_nul = no_nul; arguments = tt }; payload = omega arith }, refl)
    ⨾ (replies.AddHeader no_header, record { fields = record { name = no_nul; value = no_nul }; payload = omega arith }, refl)
    ⨾ (replies.InsertHeader 0 no_header, record { fields = record { in_range = omega arith; header = record { name = no_nul; value = no_nul } }; payload = omega arith }, refl)
    ⨾ (replies.ChangeHeader 0 no_header, record { fields = record { in_range = omega arith; header = record { name = no_nul; value = no_nul } }; payload = omega arith }, refl)
    ⨾ (replies.Progress, record { fields = tt; payload = omega arith }, refl)
    ⨾ (replies.Quarantine [], record { fields = no_nul; payload = omega arith }, refl)
    ⨾ (replies.Reject, record { fields = tt; payload = omega arith }, refl)
    ⨾ (replies.Skip, record { fields = tt; payload = omega arith }, refl)
    ⨾ (replies.Tempfail, record { fields = tt; payload = omega arith }, refl)
    ⨾ (replies.Code code_400, record { fields = code_fits; payload = omega arith }, refl)
    ⨾ tt

pub replies_known : (code : ℕ) → IsTrue (of_replies.is_code code) ↔ of_replies.IsCodeOfSome code
unfolding of_replies.is_code
replies_known code = (
  row_has_value of_replies.IsCodeOfSome of_replies.rows code each_reply,
  λ some. subst (λ (n : ℕ). of_replies.is_code n ≡ true) some.2 (reply_known some.0),
)
