-- A session and its parts.
use Rattle.std.proofs.Common.{◌≡◌, ℕ, List, [], ◌∷◌, ◌++◌, All, IfOk, Result, Ok, Err, codes, refl, sym, ap, subst, ◌∙◌}
use Rattle.milter_fields.specs.declared.client.Client.{Client}
use Rattle.milter_mail.specs.Macros.{Macros}
use Rattle.milter_mail.specs.declared.weight.Overhead.{Overhead}
use Rattle.milter_message.specs.MailObject.{MailObject}
use Rattle.milter_mail.specs.MailSession.{IsSession, MailSession}
use Rattle.milter_mail.specs.WeightParts.{IsOverhead, IsSendableWith}
use Rattle.milter_mail.proofs.MailLaws.{all_sendable_with}
use Rattle.milter_mail_file.specs.declared.session_fault.SessionFault.{SessionFault}
use Rattle.milter_mail_file.specs.declared.session_macros.MacroLine.{MacroLine}
use Rattle.milter_mail_file.specs.LineGroups.{BeginWithValues, EndsBefore}
use Rattle.milter_mail_file.specs.LineValues.{client_of, helo_of, macro_of, message_line}
use Rattle.milter_mail_file.specs.SessionFile.{LineHasValue, ParsesAsMessageList, ParsesAsSession, macros_of_lines}

-- a session with these parts
pub record HasParts (client : Client) (helo : List ℕ) (macros : Macros) (s : MailSession) : Type 0 where
  pub client_is : s.client ≡ client
  pub helo_is : s.helo ≡ helo
  pub macros_are : s.macros ≡ macros

pub parts_sendable : (client : Client) (helo : List ℕ) (macros : Macros) (o : Overhead) (s : MailSession) → IsOverhead client helo macros o → HasParts client helo macros s → IsSession s
    → All (IsSendableWith o) s.messages
parts_sendable client helo macros o s measured parts session =
    let same : IsOverhead s.client s.helo s.macros o = rw (parts.client_is, parts.helo_is, parts.macros_are) measured in
    all_sendable_with s.client s.helo s.macros o s.messages same session.are_sendable

pub same_session : (client : Client) (helo : List ℕ) (macros : Macros) (messages : List MailObject) (s : MailSession) → HasParts client helo macros s → messages ≡ s.messages
    → record { client = client; helo = helo; macros = macros; messages = messages } ≡ s
same_session client helo macros messages s parts e = rw (sym parts.client_is, sym parts.helo_is, sym parts.macros_are, e) refl

-- messages begin with no macro
pub no_macros : (lines : List (List ℕ)) (messages : List MailObject) → ParsesAsMessageList lines messages → EndsBefore (codes "macro") lines
no_macros lines [] h = subst (EndsBefore (codes "macro")) (sym h) tt
no_macros lines (m ∷ messages) h =
    subst (EndsBefore (codes "macro")) (sym (h.2 ∙ ap (λ l. l ++ h.1) h.3.in_order)) (message_line, h.3.first_is, refl)

-- the lines before the messages
pub record OpeningLines (lines : List (List ℕ)) (client : Client) (helo : List ℕ) (macros : Macros) (rest : List (List ℕ)) : Type 0 where
  pub client_line : List ℕ
  pub helo_line : List ℕ
  pub after_client : List (List ℕ)
  pub after_helo : List (List ℕ)
  pub first : lines ≡ client_line ∷ after_client
  pub client_is : LineHasValue client_of client_line client
  pub second : after_client ≡ helo_line ∷ after_helo
  pub helo_is : LineHasValue helo_of helo_line helo
  pub macro_lines : List MacroLine
  pub begun : BeginWithValues macro_of after_helo macro_lines rest
  pub macros_are : macros ≡ macros_of_lines macro_lines

pub session_found : (lines rest : List (List ℕ)) (client : Client) (helo : List ℕ) (macros : Macros) (result : Result MailSession SessionFault) → OpeningLines lines client helo macros rest
    → IfOk result (λ s. (s.client ≡ client) × (s.helo ≡ helo) × (s.macros ≡ macros) × ParsesAsMessageList rest s.messages × IsSession s) → IfOk result (λ s. ParsesAsSession lines s × IsSession s)
session_found lines rest client helo macros (Ok s) o h = (
  record {
    client = o.client_line;
    helo = o.helo_line;
    macros = o.begun.prefix;
    messages = rest;
    in_order = o.first ∙ ap (λ l. o.client_line ∷ l) (o.second ∙ ap (λ l. o.helo_line ∷ l) o.begun.in_order);
    macro_lines = o.macro_lines;
    client_is = subst (LineHasValue client_of o.client_line) (sym h.0) o.client_is;
    helo_is = subst (LineHasValue helo_of o.helo_line) (sym h.1) o.helo_is;
    macros_have_values = o.begun.have_values;
    macros_are = h.2 ∙ o.macros_are;
    messages_are = h.3;
  },
  h.4,
)
session_found lines rest client helo macros (Err e) o h = tt
